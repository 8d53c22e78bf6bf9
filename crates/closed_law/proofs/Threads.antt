-- No thread may be answered, and one that waits for nothing has no next operation. What is asked for here of each rank: its rows of
-- communicators have different contexts, and a thread that waits for a receive has its row.
use Rattle.std.proofs.Common.{◌≡◌, ◌<◌, ◌==◌, not, ℕ, Bool, true, false, if◌then◌else◌, List, length, Option, Some, None, option_map, refl, sym, ap, ◌∙◌, subst, arith}
use Rattle.std.specs.Option.{is_some, is_none}
use Rattle.std.specs.List.{list_any}
use Rattle.std.proofs.lemmas.Bool.Decides.{nat_tests}
use Rattle.mpi_base.specs.MemberLists.{has_rank}
use Rattle.mpi_base.specs.declared.keys.Key.{Key}
use Rattle.mpi_base.specs.declared.messages.Msg.{Msg}
use Rattle.mpi_base.specs.declared.replies.Reply.TheVariants as reply
use Rattle.local_law.specs.Names.{bound_of}
use Rattle.local_law.specs.Objects as bound
use Rattle.mpi_law.specs.declared.setting.Setting.{Setting}
use Rattle.mpi_law.specs.declared.setting.TheConstants.{THREADS}
use Rattle.mpi_law.specs.ScriptLists.{AllScripts, next_op}
use Rattle.mpi_law.specs.Local.Objects.{Bound, is_bound}
use Rattle.mpi_law.specs.Local.Messages.{from_nobody}
use Rattle.mpi_law.specs.Registry.State as reg
use Rattle.mpi_law.specs.Registry.State.{Registry, Message, Receive, Outcome, Wait, Creating, blank_comm, part_of, thread_of, comm_at, session_at, creation_at, is_idle_wait}
use Rattle.mpi_law.specs.Registry.Creations.{all_called, is_uncoloured, outcome_for}
use Rattle.mpi_law.specs.Registry.Contexts.{comm_of, is_exchange}
use Rattle.mpi_law.specs.Registry.Messages.{receive_of}
use Rattle.mpi_law.specs.Registry.Calls.{to_send, to_post}
use Rattle.mpi_law.specs.Registry.Replies.{owed_to, owed_creation, owed_receive, outcome_reply, received, is_left_of, fine_if}
use Rattle.mpi_law.specs.Closed.{is_at_rest}
use Rattle.agree_law.specs.declared.rows.Stage.{Stage}
use Rattle.agree_law.specs.declared.rows.Stage.TheVariants.{Sharing, Called, Waiting, Offered, Done}
use Rattle.agree_law.specs.Part.{stage_of}
use Rattle.agree_law.specs.World.{Event}
use Rattle.agree_law.proofs.Lists.{AllOf, tally_any, found}
use Rattle.comm_law.specs.declared.rows.CommRow.{CommRow}
use Rattle.comm_law.specs.Comms.{has_session}
use Rattle.mpi_protocol.specs.declared.rows.Waits.{Waits}
use Rattle.mpi_protocol.specs.declared.rows.Waits.TheVariants.{Nothing, Creation as Creates, Uncoloured, Freeing, Ending, Receiving, Awaiting}
use Rattle.mpi_protocol.specs.declared.rows.ReceiveRow.{ReceiveRow}
use Rattle.mpi_protocol.specs.Rank.{Rank, taken_of, receive_of as receive_row}
use Rattle.mpi_protocol.specs.Answers.{is_answerable}
use Rattle.mpi_protocol.specs.World.{World, rank_at}
use Rattle.due_law.specs.Dues.{Dues}
use Rattle.run_law.proofs.Contexts.{comm_of_is}
use Rattle.run_law.proofs.Rows.{row_in}
use Rattle.run_law.proofs.Threads.{WaitFits, row_of}
use Rattle.run_law.proofs.Creations.{CreationFits, MembersFit, StageFits, is_sharing}
use Rattle.run_law.proofs.Comms.{CommFits}
use Rattle.run_law.proofs.Classes.{coloured}
use Rattle.run_law.proofs.Bindings.{BothBound, neither, both, bound-fits}
use Rattle.run_law.proofs.Locals.{BoundFits}
use Rattle.message_law.proofs.Topics.{as_msg, RowFits}
use Rattle.closed_law.proofs.Lists.{any_at}
use Rattle.closed_law.proofs.Rests.{Rests, not_answerable}
use Rattle.closed_law.proofs.Creations.{NoneShares}

-- the rows of a rank's communicators have different contexts
abbrev pub RowsDiffer : Rank → Type 0
RowsDiffer x = AllOf (λ m. row_in x.comms.rows m.ctx ≡ Some m) x.comms.rows

-- a thread that waits for a receive has its row
abbrev pub HasRows : Rank → Type 0
HasRows x = (t n : ℕ) → (row_of x.threads t).waits ≡ Receiving n → (n == 0) ≡ false → is_some (receive_row x.receives n) ≡ true

-- what is asked for of a world besides
pub record Ends (w : World) (g : Registry) : Type 0 where
  pub shares : (n : ℕ) → NoneShares w g n
  pub differ : (r : ℕ) → r < length w.ranks → RowsDiffer (rank_at w r)
  pub rows : (r : ℕ) → r < length w.ranks → HasRows (rank_at w r)

module _ (s : Setting) (scripts : AllScripts) (w : World) (es : List Event) (due : Dues) (g : Registry) (h : Rests s scripts w es due g) (ends : Ends w g) (r t : ℕ) (lr : r < length w.ranks) (lt : t < THREADS) where
  abbrev x : Rank
  x = rank_at w r

  off : (a : Waits) → (row_of x.threads t).waits ≡ a → is_answerable x a ≡ false
  off a e = subst (λ (z : Waits). is_answerable x z ≡ false) e (not_answerable s scripts w es due g h r t lr lt)

  -- a creation
  no_creation : (key : Key) (target : List ℕ) (session n : ℕ) → (row_of x.threads t).waits ≡ Creates key target session → (thread_of g r t).wait ≡ Creating n → owed_creation g r (creation_at g n) ≡ None
  no_creation key target session n ea eb = go (stage_of x.agree.opened key) refl
    where
      f : CreationFits g.comms g.creations x.comms.rows x.local.names (due r key) (stage_of x.agree.opened key) r t key target session n
      f = h.together.joined.creations.each r t key target session n ea eb

      by : (u a : Bool) (o : Option Outcome) → (u ≡ true → a ≡ false) → o ≡ None → (if u then (if a then Some reply.Null else None) else option_map (outcome_reply g r) o) ≡ None
      by true a o few none = let z = few refl in rw z refl
      by false a o few none = rw none refl

      -- without a colour all have not called
      sharing : is_exchange key.kind ≡ true → is_uncoloured (creation_at g n) r ≡ true → all_called (creation_at g n) ≡ false
      sharing k u = not_all (all_called (creation_at g n)) refl
        where
          not_all : (b : Bool) → all_called (creation_at g n) ≡ b → b ≡ false
          not_all false e = refl
          not_all true e = absurd (ends.shares n r t key target session lr ea eb k e)

      called : is_exchange key.kind ≡ false → is_uncoloured (creation_at g n) r ≡ true → all_called (creation_at g n) ≡ false
      called k u =
          let class = (subst (λ (b : Bool). MembersFit (creation_at g n) r key b) k f.members).0 in
          absurd (let c = coloured (creation_at g n) r key.members class f.member in cc (c, u))

      none_of : (st : Option Stage) → stage_of x.agree.opened key ≡ st → StageFits g.comms x.comms.rows x.local.names r key session (due r key) st (outcome_for (creation_at g n) r)
      none_of st e = subst (λ (z : Option Stage). StageFits g.comms x.comms.rows x.local.names r key session (due r key) z (outcome_for (creation_at g n) r)) e f.far

      go : (st : Option Stage) → stage_of x.agree.opened key ≡ st → owed_creation g r (creation_at g n) ≡ None
      go None e = absurd (none_of None e)
      go (Some (Sharing z)) e = by (is_uncoloured (creation_at g n) r) (all_called (creation_at g n)) (outcome_for (creation_at g n) r) (sharing (f.kind ∙ ap is_sharing e)) (none_of (Some (Sharing z)) e).1
      go (Some Called) e = by (is_uncoloured (creation_at g n) r) (all_called (creation_at g n)) (outcome_for (creation_at g n) r) (called (f.kind ∙ ap is_sharing e)) (none_of (Some Called) e).1
      go (Some (Waiting i)) e = absurd (let none = h.at_rest.waiting r key in let z = rw e at none in cc (z))
      go (Some (Offered i own)) e = absurd (let none = h.at_rest.offered r key in let z = rw e at none in cc (z))
      go (Some (Done d)) e = absurd (let none = off (Creates key target session) ea in let z = rw e at none in cc (z))

  -- a give-back
  no_back : (serial p : ℕ) → (row_of x.threads t).waits ≡ Freeing serial → (thread_of g r t).wait ≡ reg.Freeing p → fine_if (has_rank (comm_at g p).returned r) ≡ None
  no_back serial p ea eb =
      let gone = ((h.together.joined.comms r).freeing t serial p ea eb).gone in
      let here = off (Freeing serial) ea in
      by (has_rank (comm_at g p).returned r) (grind (arith, gone, here))
    where
      by : (b : Bool) → b ≡ false → fine_if b ≡ None
      by false e = refl
      by true e = absurd (cc (e))

  -- the end of a session
  no_end : (q : ℕ) → (row_of x.threads t).waits ≡ Ending q → fine_if (not (list_any (is_left_of r q) g.comms)) ≡ None
  no_end q ea = rw left refl
    where
      some : has_session x.comms q ≡ true
      some = let z = off (Ending q) ea in grind (arith, z)

      row : (m : CommRow) × ((m.session == q) ≡ true) × (row_in x.comms.rows m.ctx ≡ Some m)
      row = found (λ (m : CommRow). row_in x.comms.rows m.ctx ≡ Some m) (λ (m : CommRow). m.session == q) x.comms.rows (let a = tally_any (λ (m : CommRow). m.session == q) x.comms.rows in let z = some in grind (arith, nat_tests, a, z)) (ends.differ r lr)

      at : (o : Option CommRow) → o ≡ Some row.0 → (i : Option ℕ) → comm_of g.comms r row.0.ctx ≡ i → CommFits g.comms g.creations r x.agree.owner (due r) row.0.ctx o i → list_any (is_left_of r q) g.comms ≡ true
      at None e i f k = absurd (cc (e))
      at (Some m) e None f k = absurd k
      at (Some m) e (Some p) f k =
          let is : m ≡ row.0 = cc (e) in
          let here = comm_of_is g.comms r row.0.ctx p f in
          let live = here.live in
          let its : session_at (comm_at g p) r ≡ q = sym k.session ∙ (ap (λ (z : CommRow). z.session) is ∙ (let z = row.1 in grind (arith, nat_tests, z))) in
          any_at (is_left_of r q) g.comms blank_comm p here.inside (grind (arith, nat_tests, live, its))

      left : list_any (is_left_of r q) g.comms ≡ true
      left = at (row_in x.comms.rows row.0.ctx) row.2 (comm_of g.comms r row.0.ctx) refl ((h.together.joined.comms r).each row.0.ctx)

  -- a receive
  no_receive : (n : ℕ) → (row_of x.threads t).waits ≡ Receiving n → (if n == 0 then Some from_nobody else owed_receive g (receive_of g r n)) ≡ None
  no_receive n ea = rw number (by (receive_row x.receives n) (ends.rows r lr t n ea number) none (receive_of g r n) (h.together.fits.receives.taken r n lr))
    where
      number : (n == 0) ≡ false
      number = let z = off (Receiving n) ea in grind (arith, z)

      none : is_some (taken_of (receive_row x.receives n)) ≡ false
      none = let z = off (Receiving n) ea in grind (arith, z)

      taken : (a : Option Msg) (b : Option Message) → is_some a ≡ false → a ≡ option_map (as_msg g.comms) b → (room : ℕ) → option_map (received g room) b ≡ None
      taken a None e f room = refl
      taken None (Some m) e f room = absurd (cc (f))
      taken (Some a) (Some m) e f room = absurd (cc (e))

      by : (o : Option ReceiveRow) → is_some o ≡ true → is_some (taken_of o) ≡ false → (i : Option Receive) → RowFits g o i → owed_receive g i ≡ None
      by None e f i k = absurd (cc (e))
      by (Some y) e f None k = absurd k
      by (Some y) e f (Some z) k = taken y.taken z.taken f k.2 z.room

  -- a name
  no_name : (name : List ℕ) → (row_of x.threads t).waits ≡ Awaiting name → fine_if (is_bound (bound_of (part_of g r).local.names name)) ≡ None
  no_name name ea = by (bound_of x.local.names name) (bound_of (part_of g r).local.names name) (off (Awaiting name) ea) (bound-fits g.comms x.comms.rows r x.local.names (part_of g r).local.names name (h.together.joined.locals r).names)
    where
      alike : (a b : Bound) → BoundFits g.comms x.comms.rows r a b → is_bound (Some a) ≡ false → fine_if (is_bound (Some b)) ≡ None
      alike bound.Reserved bound.Reserved f e = refl
      alike (bound.Session p) b f e = absurd (cc (e))
      alike (bound.Group ms p) b f e = absurd (cc (e))
      alike (bound.Comm c p) b f e = absurd (cc (e))
      alike (bound.Request n) b f e = absurd (cc (e))
      alike a b f e = absurd f

      by : (a b : Option Bound) → is_bound a ≡ false → BothBound g.comms x.comms.rows r a b → fine_if (is_bound b) ≡ None
      by _ _ e neither = refl
      by _ _ e (both a b f) = alike a b f e

  pub at_rest : is_at_rest scripts g r t ≡ true
  at_rest = go (row_of x.threads t).waits (thread_of g r t).wait refl refl ((h.together.joined.threads r).waits t)
    where
      waits : (b : Wait) → (thread_of g r t).wait ≡ b → is_none (to_send b) ≡ true → is_none (to_post b) ≡ true → owed_to g r b ≡ None → is_idle_wait b ≡ false → is_at_rest scripts g r t ≡ true
      waits b e a c o i = rw (e, a, c, o, i) refl

      go : (a : Waits) (b : Wait) → (row_of x.threads t).waits ≡ a → (thread_of g r t).wait ≡ b → WaitFits a b → is_at_rest scripts g r t ≡ true
      go Nothing reg.Idle ea eb f =
          let ended = h.quiet.ended r t lr lt (rw ea refl) in
          let calls = (h.together.joined.threads r).calls t in
          let last : next_op scripts r t (thread_of g r t).calls ≡ None = rw calls ended in
          rw (eb, last) refl
      go (Creates key target session) (Creating n) ea eb f = waits (Creating n) eb refl refl (no_creation key target session n ea eb) refl
      go (Uncoloured key target session) (Creating n) ea eb f = absurd (let z = off (Uncoloured key target session) ea in cc (z))
      go (Freeing serial) (reg.Freeing p) ea eb f = waits (reg.Freeing p) eb refl refl (no_back serial p ea eb) refl
      go (Ending q) (reg.Ending p) ea eb f = waits (reg.Ending p) eb refl refl (rw f (no_end q ea)) refl
      go (Receiving n) (reg.Receiving m) ea eb f = waits (reg.Receiving m) eb refl refl (rw f (no_receive n ea)) refl
      go (Awaiting name) (reg.Awaiting other) ea eb f = waits (reg.Awaiting other) eb refl refl (rw f (no_name name ea)) refl
      go a b ea eb f = absurd f
