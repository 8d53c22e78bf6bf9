-- The events of a call, told by what the operation does.
use Rattle.std.proofs.Common.{◌≡◌, ℕ, List, [], ◌∷◌, ◌++◌, length, Option, Some, None, refl, ap, ◌∙◌}
use Rattle.std.specs.Prelude.{Result, Ok, Err, slice_get}
use Rattle.std.specs.Option.{is_some}
use Rattle.mpi_base.specs.declared.errors.ErrClass.{ErrClass}
use Rattle.mpi_base.specs.declared.errors.ErrClass.TheVariants as class
use Rattle.mpi_base.specs.declared.messages.SrcArg.TheVariants as source
use Rattle.mpi_base.specs.declared.ops.Op.{Op}
use Rattle.mpi_base.specs.declared.ops.Op.TheVariants as op
use Rattle.mpi_base.specs.declared.replies.Reply.{Reply}
use Rattle.mpi_base.specs.declared.replies.Reply.TheVariants as reply
use Rattle.mpi_base.specs.declared.entries.Act.TheVariants.{Call}
use Rattle.mpi_law.specs.declared.setting.Setting.{Setting}
use Rattle.mpi_law.specs.declared.effects.Effect.{Effect}
use Rattle.mpi_law.specs.declared.effects.Effect.TheVariants as effect
use Rattle.mpi_group.specs.Algebra.{included, excluded, range_included, range_excluded}
use Rattle.pset_reg.specs.Sets.{names, members_in}
use Rattle.local_law.specs.Names.{bound_of}
use Rattle.mpi_law.specs.declared.effects.Origin.TheVariants.{Grouped, GroupedOn}
use Rattle.mpi_law.specs.Local.{call_of, refusal, effect_of}
use Rattle.mpi_law.specs.Local.Objects.{Local}
use Rattle.mpi_law.specs.Local.Effects.{Around, said_at_once, is_said}
use Rattle.mpi_law.specs.Local.Refusals.{and_then, refuse_if, as_arg, as_session, as_group, as_comm, as_request, two_groups, two_comms, comm_and_group, free_target, good_tag, good_dest}
use Rattle.mpi_law.specs.Local.Groups.{translated_all}
use Rattle.mpi_law.specs.Local.Comms.{begin_creation, lacks, is_negative, is_astray}
use Rattle.mpi_law.specs.Local.Messages.{begin_send, good_receive}
use Rattle.mpi_law.specs.Registry.Events.{Event, Calls, Sends, Posts}
use Rattle.mpi_protocol.specs.Rank.{Rank}
use Rattle.mpi_protocol.specs.Calls.{around_here, called, calls}
use Rattle.mpi_protocol.specs.Step.{step, entry_of}
use Rattle.mpi_protocol.specs.Run.{act_events, entry_events, message_events, match_events, reply_events}
use Rattle.mpi_protocol.specs.World.{World, rank_at, move_of, entry_at}

-- what is sent or posted in the registry within a call that does this
abbrev pub within : ℕ → ℕ → Effect ℕ → List Event
within r t (effect.Says said) = []
within r t (effect.Opens target) = []
within r t (effect.Groups target members session) = []
within r t (effect.Ungroups name) = []
within r t (effect.Joins a) = []
within r t (effect.Frees name c) = []
within r t (effect.Ends name session) = []
within r t (effect.Sends m) = Sends r t ∷ []
within r t (effect.Receives a) = Posts r t ∷ []
within r t (effect.Posts target a) = Posts r t ∷ []
within r t (effect.NullPosts target) = []
within r t (effect.Completes name number) = []
within r t (effect.Awaits name) = []

module _ (r t : ℕ) where
  -- the entry of a call of an operation that ends so has the events of what it does
  record Tells (o : Op) (a : Result (Effect ℕ) ErrClass) : Type 0 where
    pub all : message_events r t o (said_at_once (refusal a)) ≡ within r t (refusal a)

  -- an operation that is refused, or goes on
  then_tells : {o : Op} {A : Type 0} (a : Result A ErrClass) (f : A → Result (Effect ℕ) ErrClass) → ((c : ErrClass) → message_events r t o (Some (reply.Refused c)) ≡ []) → ((v : A) → Tells o (f v)) → Tells o (and_then a f)
  then_tells (Err c) f mute h = record { all = mute c }
  then_tells (Ok v) f mute h = h v

  creation_tells : (name tag target members : List ℕ) (session : ℕ) → Tells (op.Create name tag target) (Ok (begin_creation members session tag target))
  creation_tells name tag target [] session = record { all = refl }
  creation_tells name tag target (m ∷ ms) session = record { all = refl }

  module _ (s : Setting) (n : ℕ) (around : Around) (l : Local) where
    call_tells : (o : Op) → Tells o (call_of s n around l o)
    unfolding call_of
    call_tells (op.Session target) = then_tells (free_target l target) _ (λ c. refl) (λ a. record { all = refl })
    call_tells (op.Finalize session) = then_tells (as_session (bound_of l.names session)) _ (λ c. refl) (λ a. then_tells (refuse_if (around.engaged a) class.Busy) _ (λ c. refl) (λ b. record { all = refl }))
    call_tells (op.Psets session) = then_tells (as_session (bound_of l.names session)) _ (λ c. refl) (λ a. record { all = refl })
    call_tells (op.Nth session number) = then_tells (as_session (bound_of l.names session)) _ (λ c. refl) (λ a. then_tells (as_arg (slice_get (names s.psets.sets) number)) _ (λ c. refl) (λ b. record { all = refl }))
    call_tells (op.Info session set) = then_tells (as_session (bound_of l.names session)) _ (λ c. refl) (λ a. then_tells (as_arg (members_in s.psets.sets n set)) _ (λ c. refl) (λ b. record { all = refl }))
    call_tells (op.Pset session set target) = then_tells (as_session (bound_of l.names session)) _ (λ c. refl) (λ a. then_tells (as_arg (members_in s.psets.sets n set)) _ (λ c. refl) (λ b. then_tells (free_target l target) _ (λ c. refl) (λ d. record { all = refl })))
    call_tells (op.Union first second target) = then_tells (two_groups l first second) _ (λ c. refl) (λ a. then_tells (free_target l target) _ (λ c. refl) (λ b. record { all = refl }))
    call_tells (op.Intersect first second target) = then_tells (two_groups l first second) _ (λ c. refl) (λ a. then_tells (free_target l target) _ (λ c. refl) (λ b. record { all = refl }))
    call_tells (op.Difference first second target) = then_tells (two_groups l first second) _ (λ c. refl) (λ a. then_tells (free_target l target) _ (λ c. refl) (λ b. record { all = refl }))
    call_tells (op.Incl group ranks target) = then_tells (as_group (bound_of l.names group)) _ (λ c. refl) (λ a. then_tells (included a.0 ranks) _ (λ c. refl) (λ b. then_tells (free_target l target) _ (λ c. refl) (λ d. record { all = refl })))
    call_tells (op.Excl group ranks target) = then_tells (as_group (bound_of l.names group)) _ (λ c. refl) (λ a. then_tells (excluded a.0 ranks) _ (λ c. refl) (λ b. then_tells (free_target l target) _ (λ c. refl) (λ d. record { all = refl })))
    call_tells (op.RangeIncl group ranges target) = then_tells (as_group (bound_of l.names group)) _ (λ c. refl) (λ a. then_tells (range_included a.0 ranges) _ (λ c. refl) (λ b. then_tells (free_target l target) _ (λ c. refl) (λ d. record { all = refl })))
    call_tells (op.RangeExcl group ranges target) = then_tells (as_group (bound_of l.names group)) _ (λ c. refl) (λ a. then_tells (range_excluded a.0 ranges) _ (λ c. refl) (λ b. then_tells (free_target l target) _ (λ c. refl) (λ d. record { all = refl })))
    call_tells (op.Translate from ranks to) = then_tells (two_groups l from to) _ (λ c. refl) (λ a. then_tells (translated_all a.0.0 ranks a.1.0) _ (λ c. refl) (λ b. record { all = refl }))
    call_tells (op.Compare first second) = then_tells (two_groups l first second) _ (λ c. refl) (λ a. record { all = refl })
    call_tells (op.Size group) = then_tells (as_group (bound_of l.names group)) _ (λ c. refl) (λ a. record { all = refl })
    call_tells (op.Rank group) = then_tells (as_group (bound_of l.names group)) _ (λ c. refl) (λ a. record { all = refl })
    call_tells (op.Gfree group) = then_tells (as_group (bound_of l.names group)) _ (λ c. refl) (λ a. record { all = refl })
    call_tells (op.Create group tag target) = then_tells (as_group (bound_of l.names group)) _ (λ c. refl) (λ a. then_tells (refuse_if (lacks a.0 n) class.Group) _ (λ c. refl) (λ b. then_tells (free_target l target) _ (λ c. refl) (λ d. then_tells (refuse_if (around.busy (Grouped a.0 tag)) class.Busy) _ (λ c. refl) (λ e. creation_tells group tag target a.0 a.1))))
    call_tells (op.Dup comm target) = then_tells (as_comm (bound_of l.names comm)) _ (λ c. refl) (λ a. then_tells (free_target l target) _ (λ c. refl) (λ b. record { all = refl }))
    call_tells (op.Split comm colour key target) = then_tells (as_comm (bound_of l.names comm)) _ (λ c. refl) (λ a. then_tells (refuse_if (is_negative colour) class.Arg) _ (λ c. refl) (λ b. then_tells (free_target l target) _ (λ c. refl) (λ d. record { all = refl })))
    call_tells (op.CreateGroup comm group tag target) = then_tells (comm_and_group l comm group) _ (λ c. refl) (λ a. then_tells (good_tag tag) _ (λ c. refl) (λ b. then_tells (refuse_if (is_astray (around.members a.0.0) a.1.0 n) class.Group) _ (λ c. refl) (λ d. then_tells (free_target l target) _ (λ c. refl) (λ e. then_tells (refuse_if (around.busy (GroupedOn a.0.0 tag a.1.0)) class.Busy) _ (λ c. refl) (λ f. record { all = refl })))))
    call_tells (op.Group comm target) = then_tells (as_comm (bound_of l.names comm)) _ (λ c. refl) (λ a. then_tells (free_target l target) _ (λ c. refl) (λ b. record { all = refl }))
    call_tells (op.Ccompare first second) = then_tells (two_comms l first second) _ (λ c. refl) (λ a. record { all = refl })
    call_tells (op.Csize comm) = then_tells (as_comm (bound_of l.names comm)) _ (λ c. refl) (λ a. record { all = refl })
    call_tells (op.Crank comm) = then_tells (as_comm (bound_of l.names comm)) _ (λ c. refl) (λ a. record { all = refl })
    call_tells (op.Free comm) = then_tells (as_comm (bound_of l.names comm)) _ (λ c. refl) (λ a. record { all = refl })
    call_tells (op.Send comm None tag payload) = then_tells (as_comm (bound_of l.names comm)) _ (λ c. refl) (λ a. then_tells (good_dest (length (around.members a.0)) None) _ (λ c. refl) (λ b. then_tells (good_tag tag) (λ q. Ok (begin_send a.0 None tag payload)) (λ c. refl) (λ d. record { all = refl })))
    call_tells (op.Send comm (Some to) tag payload) = then_tells (as_comm (bound_of l.names comm)) _ (λ c. refl) (λ a. then_tells (good_dest (length (around.members a.0)) (Some to)) _ (λ c. refl) (λ b. then_tells (good_tag tag) _ (λ c. refl) (λ d. record { all = refl })))
    call_tells (op.Recv comm (source.At rank) tag room) = then_tells (good_receive around l comm (source.At rank) tag) _ (λ c. refl) (λ a. record { all = refl })
    call_tells (op.Recv comm source.Any tag room) = then_tells (good_receive around l comm source.Any tag) _ (λ c. refl) (λ a. record { all = refl })
    call_tells (op.Recv comm source.Null tag room) = then_tells (good_receive around l comm source.Null tag) _ (λ c. refl) (λ a. record { all = refl })
    call_tells (op.Irecv comm (source.At rank) tag room target) = then_tells (good_receive around l comm (source.At rank) tag) _ (λ c. refl) (λ a. then_tells (free_target l target) _ (λ c. refl) (λ b. record { all = refl }))
    call_tells (op.Irecv comm source.Any tag room target) = then_tells (good_receive around l comm source.Any tag) _ (λ c. refl) (λ a. then_tells (free_target l target) _ (λ c. refl) (λ b. record { all = refl }))
    call_tells (op.Irecv comm source.Null tag room target) = then_tells (good_receive around l comm source.Null tag) _ (λ c. refl) (λ a. then_tells (free_target l target) _ (λ c. refl) (λ b. record { all = refl }))
    call_tells (op.Wait request) = then_tells (as_request (bound_of l.names request)) _ (λ c. refl) (λ a. record { all = refl })
    call_tells (op.Await name) = record { all = refl }

-- the reply that stands in the entry
pub reply_is : (x : Rank) (t : ℕ) (e : Effect ℕ) → (called x t e).reply ≡ said_at_once e
reply_is x t (effect.Says said) = refl
reply_is x t (effect.Opens target) = refl
reply_is x t (effect.Groups target members session) = refl
reply_is x t (effect.Ungroups name) = refl
reply_is x t (effect.Joins a) = refl
reply_is x t (effect.Frees name c) = refl
reply_is x t (effect.Ends name session) = refl
reply_is x t (effect.Sends m) = refl
reply_is x t (effect.Receives a) = refl
reply_is x t (effect.Posts target a) = refl
reply_is x t (effect.NullPosts target) = refl
reply_is x t (effect.Completes name number) = refl
reply_is x t (effect.Awaits name) = refl

-- what an operation of a rank does
abbrev pub effect_here : Rank → Op → Effect ℕ
effect_here x o = effect_of x.setting x.rank (around_here x) x.local o

-- the events of a call: the call, what is sent or posted within it, the match and the reply
abbrev pub events_of : Rank → ℕ → ℕ → Op → Effect ℕ → List Event
events_of x r t o e = Calls r t o (is_said e) ∷ within r t e ++ match_events r (called x t e).matched ++ reply_events r t (said_at_once e)

events_are : (x : Rank) (r t : ℕ) (o : Op) → act_events r (Call t o) (entry_of x (Call t o) None (step x (Call t o) None)) ≡ events_of x r t o (effect_here x o)
unfolding step calls
events_are x r t o =
    let said = reply_is x t (effect_here x o) in
    let inside = (call_tells r t x.setting x.rank (around_here x) x.local o).all in
    ap (λ (z : Option Reply). Calls r t o (is_some z) ∷ message_events r t o z ++ match_events r (called x t (effect_here x o)).matched ++ reply_events r t z) said
    ∙ ap (λ (es : List Event). Calls r t o (is_said (effect_here x o)) ∷ es ++ match_events r (called x t (effect_here x o)).matched ++ reply_events r t (said_at_once (effect_here x o))) inside

-- the entry of a call in a world, and what it does to its rank
module _ (w : World) (r t : ℕ) (o : Op) (e : Effect ℕ) (here : effect_here (rank_at w r) o ≡ e) where
  pub call_entry : (rank_at w r).rank ≡ r → entry_events (entry_at w (record { rank = r; act = Call t o })) ≡ events_of (rank_at w r) r t o e
  unfolding entry_events
  call_entry named =
      events_are (rank_at w r) (rank_at w r).rank t o
      ∙ (ap (λ (d : Effect ℕ). events_of (rank_at w r) (rank_at w r).rank t o d) here ∙ ap (λ (q : ℕ). events_of (rank_at w r) q t o e) named)

  pub call_move : move_of w (record { rank = r; act = Call t o }) ≡ called (rank_at w r) t e
  unfolding step calls
  call_move = ap (λ (d : Effect ℕ). called (rank_at w r) t d) here
