-- A call by its operation, where it sends and posts nothing, and the ranks of a world after a choice.
use Rattle.std.proofs.Common.{◌≡◌, ◌<◌, ℕ, ◌+◌, Bool, true, false, List, [], ◌∷◌, length, set, Some, None, refl, ap, ◌∙◌}
use Rattle.std.specs.Prelude.{Result, Ok, Err}
use Rattle.mpi_base.specs.declared.errors.ErrClass.{ErrClass}
use Rattle.mpi_base.specs.declared.messages.SrcArg.TheVariants as source
use Rattle.mpi_base.specs.declared.ops.Op.{Op}
use Rattle.mpi_base.specs.declared.ops.Op.TheVariants as op
use Rattle.mpi_base.specs.declared.replies.Reply.TheVariants as reply
use Rattle.mpi_base.specs.declared.entries.Act.TheVariants.{Call}
use Rattle.mpi_base.specs.declared.entries.Choice.{Choice}
use Rattle.local_law.specs.Objects as bound
use Rattle.mpi_law.specs.declared.setting.Setting.{Setting}
use Rattle.mpi_law.specs.declared.setting.TheConstants.{THREADS}
use Rattle.mpi_law.specs.declared.effects.Effect.{Effect}
use Rattle.mpi_law.specs.declared.effects.Effect.TheVariants.{Says, Opens, Groups, Ungroups, Joins, Frees, Ends, Sends, Receives, Posts, NullPosts, Completes, Awaits}
use Rattle.mpi_law.specs.Local.{call_of, refusal, effect_of}
use Rattle.mpi_law.specs.Local.Effects.{Around, said_at_once}
use Rattle.mpi_law.specs.Local.Objects.{Local}
use Rattle.mpi_law.specs.Local.Refusals.{and_then, as_comm, good_dest, good_tag, free_target}
use Rattle.local_law.specs.Names.{bound_of}
use Rattle.mpi_law.specs.Local.Messages.{begin_send, begin_receive, begin_request, good_receive}
use Rattle.mpi_law.specs.Registry.State as reg
use Rattle.mpi_law.specs.Registry.State.{Registry, part_of}
use Rattle.mpi_law.specs.Registry.Calls.{effect_at}
use Rattle.mpi_law.specs.Registry.Events.{Sends as SendsEvent, Posts as PostsEvent}
use Rattle.mpi_protocol.specs.declared.rows.Waits.{Waits}
use Rattle.mpi_protocol.specs.declared.rows.Waits.TheVariants.{Nothing, Creation, Uncoloured, Freeing, Ending, Receiving, Awaiting}
use Rattle.mpi_protocol.specs.Packets.{Sent}
use Rattle.mpi_protocol.specs.Rank.{Rank, is_idle}
use Rattle.mpi_protocol.specs.Moves.{Move}
use Rattle.mpi_protocol.specs.Calls.{around_here, called, calls}
use Rattle.mpi_protocol.specs.Step.{step, entry_of}
use Rattle.mpi_protocol.specs.Run.{act_events, message_events, if_fine, if_silent}
use Rattle.mpi_protocol.specs.World.{World, taken_off, links_with, put_on, after, moved, move_of}
use Rattle.due_law.specs.Dues.{Dues}
use Rattle.run_law.proofs.Threads.{row_of}
use Rattle.run_law.proofs.Joined.{rank_in, Joined}
use Rattle.due_law.specs.Agreed.{Untold, DueIsFree}
use Rattle.run_law.proofs.Alike.{Alike, says, opens, groups, ungroups, grouped, duplicated, divided, grouped_on, frees, ends, sends, receives, posts, null_posts, completes, awaits, effects_alike}
use Rattle.run_law.proofs.CallSteps.{call_events, said_goes, waits_goes, with_name, unbound_by, without_name, with_session, grouped_goes}
use Rattle.run_law.proofs.Bindings.{other_unbind}
use Rattle.run_law.proofs.CountedSteps.{duplicated_goes, divided_goes}
use Rattle.run_law.proofs.GroupSteps.{grouped_on_goes}
use Rattle.run_law.proofs.FreeSteps.{frees_goes}
use Rattle.run_law.proofs.EndSteps.{ends_goes}
use Rattle.run_law.proofs.SettleSteps.{Goes}

pub idle_waits : (w : Waits) → is_idle w ≡ true → w ≡ Nothing
idle_waits Nothing e = refl
idle_waits (Creation k t s) e = absurd (cc (e))
idle_waits (Uncoloured k t s) e = absurd (cc (e))
idle_waits (Freeing n) e = absurd (cc (e))
idle_waits (Ending n) e = absurd (cc (e))
idle_waits (Receiving n) e = absurd (cc (e))
idle_waits (Awaiting n) e = absurd (cc (e))

-- an effect that sends no message and posts no receive
abbrev pub is_quiet : Effect ℕ → Bool
is_quiet (Says said) = true
is_quiet (Opens target) = true
is_quiet (Groups target members session) = true
is_quiet (Ungroups name) = true
is_quiet (Joins a) = true
is_quiet (Frees name c) = true
is_quiet (Ends name session) = true
is_quiet (Sends m) = false
is_quiet (Receives a) = false
is_quiet (Posts target a) = false
is_quiet (NullPosts target) = true
is_quiet (Completes name number) = true
is_quiet (Awaits name) = true

-- a call that is refused
record IsRefusal (e : Effect ℕ) : Type 0 where
  pub class : ErrClass
  pub is : e ≡ Says (reply.Refused class)

refused_then : {A : Type 0} (a : Result A ErrClass) (f : A → Result (Effect ℕ) ErrClass) → is_quiet (refusal (and_then a f)) ≡ true → ((v : A) → is_quiet (refusal (f v)) ≡ true → IsRefusal (refusal (f v))) → IsRefusal (refusal (and_then a f))
refused_then (Err e) f h k = record { class = e; is = refl }
refused_then (Ok v) f h k = k v h

-- where nothing is sent or posted, the entry has no event of a message
no_message : (s : Setting) (n r t : ℕ) (around : Around) (l : Local) (o : Op) → is_quiet (effect_of s n around l o) ≡ true → message_events r t o (said_at_once (effect_of s n around l o)) ≡ []
unfolding call_of
no_message s n r t around l (op.Send comm (Some to) tag payload) h =
    let z : IsRefusal (effect_of s n around l (op.Send comm (Some to) tag payload)) = refused_then (as_comm (bound_of l.names comm)) (λ c. and_then (good_dest (length (around.members c.0)) (Some to)) (λ q. and_then (good_tag tag) (λ q'. Ok (begin_send c.0 (Some to) tag payload)))) h (λ c h'. refused_then (good_dest (length (around.members c.0)) (Some to)) (λ q. and_then (good_tag tag) (λ q'. Ok (begin_send c.0 (Some to) tag payload))) h' (λ q h''. refused_then (good_tag tag) (λ q'. Ok (begin_send c.0 (Some to) tag payload)) h'' (λ q' k. absurd (cc (k))))) in
    ap (λ (e : Effect ℕ). if_fine (SendsEvent r t ∷ []) (said_at_once e)) z.is
no_message s n r t around l (op.Recv comm (source.At rank) tag room) h =
    let z : IsRefusal (effect_of s n around l (op.Recv comm (source.At rank) tag room)) = refused_then (good_receive around l comm (source.At rank) tag) (λ c. Ok (begin_receive c.0 (source.At rank) tag room)) h (λ c k. absurd (cc (k))) in
    ap (λ (e : Effect ℕ). if_silent (PostsEvent r t ∷ []) (said_at_once e)) z.is
no_message s n r t around l (op.Recv comm source.Any tag room) h =
    let z : IsRefusal (effect_of s n around l (op.Recv comm source.Any tag room)) = refused_then (good_receive around l comm source.Any tag) (λ c. Ok (begin_receive c.0 source.Any tag room)) h (λ c k. absurd (cc (k))) in
    ap (λ (e : Effect ℕ). if_silent (PostsEvent r t ∷ []) (said_at_once e)) z.is
no_message s n r t around l (op.Irecv comm (source.At rank) tag room target) h =
    let z : IsRefusal (effect_of s n around l (op.Irecv comm (source.At rank) tag room target)) = refused_then (good_receive around l comm (source.At rank) tag) (λ c. and_then (free_target l target) (λ q. Ok (begin_request c.0 (source.At rank) tag room target))) h (λ c h'. refused_then (free_target l target) (λ q. Ok (begin_request c.0 (source.At rank) tag room target)) h' (λ q k. absurd (cc (k)))) in
    ap (λ (e : Effect ℕ). if_fine (PostsEvent r t ∷ []) (said_at_once e)) z.is
no_message s n r t around l (op.Irecv comm source.Any tag room target) h =
    let z : IsRefusal (effect_of s n around l (op.Irecv comm source.Any tag room target)) = refused_then (good_receive around l comm source.Any tag) (λ c. and_then (free_target l target) (λ q. Ok (begin_request c.0 source.Any tag room target))) h (λ c h'. refused_then (free_target l target) (λ q. Ok (begin_request c.0 source.Any tag room target)) h' (λ q k. absurd (cc (k)))) in
    ap (λ (e : Effect ℕ). if_fine (PostsEvent r t ∷ []) (said_at_once e)) z.is
no_message s n r t around l _ h = refl

said_in : (x : Rank) (t : ℕ) (e : Effect ℕ) → is_quiet e ≡ true → (called x t e).reply ≡ said_at_once e
said_in x t (Says said) h = refl
said_in x t (Opens target) h = refl
said_in x t (Groups target members session) h = refl
said_in x t (Ungroups name) h = refl
said_in x t (Joins a) h = refl
said_in x t (Frees name c) h = refl
said_in x t (Ends name session) h = refl
said_in x t (Sends m) h = absurd (cc (h))
said_in x t (Receives a) h = absurd (cc (h))
said_in x t (Posts target a) h = absurd (cc (h))
said_in x t (NullPosts target) h = refl
said_in x t (Completes name number) h = refl
said_in x t (Awaits name) h = refl

module _ (s : Setting) (ranks : List Rank) (due : Dues) (g : Registry) (r t : ℕ) (j : Joined s ranks due g) (untold : Untold ranks due) (free_due : DueIsFree ranks due) (lt : r < s.ranks) (here : t < THREADS) (ew : (row_of (rank_in ranks r).threads t).waits ≡ Nothing) (o : Op) where
  abbrev x : Rank
  x = rank_in ranks r

  effect_goes : (e f : Effect ℕ) → Alike s ranks due g r j e f → is_quiet e ≡ true → effect_at s g r o ≡ f → Goes s g (call_events r t o (called x t e)) (set ranks r (called x t e).state) due
  effect_goes e f (says said) done is = said_goes s ranks due g r t j untold lt here ew o e f x.local (part_of g r).local said is refl refl refl (j.locals r) (λ c z. z)
  effect_goes e f (opens target free) done is = said_goes s ranks due g r t j untold lt here ew o e f _ _ reply.Fine is refl refl refl (with_session s ranks due g r t j untold lt here ew o target free) (λ c z. unbound_by s ranks due g r t j untold lt here ew o target (bound.Session (x.local.opened + 1)) c refl z)
  effect_goes e f (groups target members session free) done is = said_goes s ranks due g r t j untold lt here ew o e f _ _ (reply.Group members) is refl refl refl (with_name s ranks due g r t j untold lt here ew o target (bound.Group members session) (bound.Group members session) free (refl, refl) (λ c. refl)) (λ c z. unbound_by s ranks due g r t j untold lt here ew o target (bound.Group members session) c refl z)
  effect_goes e f (ungroups name) done is = said_goes s ranks due g r t j untold lt here ew o e f _ _ reply.Fine is refl refl refl (without_name s ranks due g r t j untold lt here ew o name) (λ c z. other_unbind x.local.names name c z)
  effect_goes e f (null_posts target free) done is = said_goes s ranks due g r t j untold lt here ew o e f _ _ reply.Fine is refl refl refl (with_name s ranks due g r t j untold lt here ew o target (bound.Request 0) (bound.Request 0) free refl (λ c. refl)) (λ c z. unbound_by s ranks due g r t j untold lt here ew o target (bound.Request 0) c refl z)
  effect_goes e f (completes name number) done is = waits_goes s ranks due g r t j untold lt here ew o e f (Receiving number) (reg.Receiving number) _ _ refl refl (λ serial p e f. absurd (cc (e))) is refl refl refl (without_name s ranks due g r t j untold lt here ew o name) (λ c z. other_unbind x.local.names name c z)
  effect_goes e f (awaits name) done is = waits_goes s ranks due g r t j untold lt here ew o e f (Awaiting name) (reg.Awaiting name) x.local (part_of g r).local refl refl (λ serial p e f. absurd (cc (e))) is refl refl refl (j.locals r) (λ c z. z)
  effect_goes e f (grouped z zs tag target session there free apart) done is = grouped_goes s ranks due g r t j untold lt here ew o z zs tag target session there free apart is
  effect_goes e f (duplicated c p session target h free) done is = duplicated_goes s ranks due g r t j untold lt here ew o c p session target h free is
  effect_goes e f (divided c p session share target h free) done is = divided_goes s ranks due g r t j untold lt here ew o c p session target h free share is
  effect_goes e f (grouped_on c p session tag ms target h within free apart) done is = grouped_on_goes s ranks due g r t j untold lt here ew o c p session tag ms target h within free apart is
  effect_goes e f (frees name c p session h b) done is = frees_goes s ranks due g r t j untold free_due lt here ew o name c p session h b is
  effect_goes e f (ends name session h) done is = ends_goes s ranks due g r t j untold lt here ew o name session h is
  effect_goes e f (sends c p session to tag payload h inside) done is = absurd (cc (done))
  effect_goes e f (receives c p session from tag room h) done is = absurd (cc (done))
  effect_goes e f (posts c p session from tag room target h free) done is = absurd (cc (done))

  -- the events of the entry that the step of a call writes may come, and what they leave belongs to the ranks
  pub call_goes : is_quiet (effect_of x.setting x.rank (around_here x) x.local o) ≡ true
      → Goes s g (act_events r (Call t o) (entry_of x (Call t o) None (step x (Call t o) None))) (set ranks r (step x (Call t o) None).state) due
  unfolding step calls
  call_goes p =
      let e = effect_of x.setting x.rank (around_here x) x.local o in
      let none : message_events r t o (called x t e).reply ≡ [] = ap (message_events r t o) (said_in x t e p) ∙ no_message x.setting x.rank r t (around_here x) x.local o p in
      rw none (effect_goes e (effect_at s g r o) (effects_alike s ranks due g r j lt o) p refl)

-- The ranks of a world after a choice

put_on_ranks : (r : ℕ) (sent : List Sent) (w : World) → (put_on w r sent).ranks ≡ w.ranks
put_on_ranks r [] w = refl
put_on_ranks r (p ∷ ps) w = put_on_ranks r ps (record w { links = links_with w r p })

taken_off_ranks : (w : World) (c : Choice) (m : Move) → (after w c m).ranks ≡ set w.ranks c.rank m.state
taken_off_ranks w c m = put_on_ranks c.rank m.sent (record (taken_off w c.rank c.act) { ranks = set w.ranks c.rank m.state })

pub moved_ranks : (w : World) (c : Choice) → (moved w c).ranks ≡ set w.ranks c.rank (move_of w c).state
moved_ranks w c = taken_off_ranks w c (move_of w c)
