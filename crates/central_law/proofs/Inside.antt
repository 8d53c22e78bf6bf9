-- What is sent and posted within a call: by the operation and its reply at most one message or receive, and with the right
-- reply just what the operation does.
use Rattle.std.proofs.Common.{◌≡◌, ℕ, Bool, true, false, if◌then◌else◌, List, [], ◌∷◌, length, Option, Some, None, refl}
use Rattle.std.specs.Prelude.{Result, Ok, Err, slice_get}
use Rattle.mpi_base.specs.declared.errors.ErrClass.{ErrClass}
use Rattle.mpi_base.specs.declared.errors.ErrClass.TheVariants as class
use Rattle.mpi_base.specs.declared.messages.SrcArg.{SrcArg}
use Rattle.mpi_base.specs.declared.messages.SrcArg.TheVariants as source
use Rattle.mpi_base.specs.declared.ops.Op.{Op}
use Rattle.mpi_base.specs.declared.ops.Op.TheVariants as op
use Rattle.mpi_base.specs.declared.replies.Reply.{Reply}
use Rattle.mpi_base.specs.declared.replies.Reply.TheVariants as reply
use Rattle.mpi_group.specs.Algebra.{included, excluded, range_included, range_excluded}
use Rattle.pset_reg.specs.Sets.{names, members_in}
use Rattle.local_law.specs.Names.{bound_of}
use Rattle.mpi_law.specs.declared.setting.Setting.{Setting}
use Rattle.mpi_law.specs.declared.effects.Effect.{Effect}
use Rattle.mpi_law.specs.Local.{call_of, refusal, effect_of}
use Rattle.mpi_law.specs.Local.Objects.{Local}
use Rattle.mpi_law.specs.Local.Effects.{Around, said_at_once}
use Rattle.mpi_law.specs.Local.Refusals.{and_then, refuse_if, as_arg, as_session, as_group, as_comm, as_request, two_groups, two_comms, comm_and_group, good_dest, good_tag, free_target}
use Rattle.mpi_law.specs.Local.Groups.{translated_all}
use Rattle.mpi_law.specs.Local.Comms.{begin_creation, lacks, is_astray, is_negative}
use Rattle.mpi_law.specs.Local.Messages.{begin_send, begin_receive, begin_request, good_receive}
use Rattle.mpi_law.specs.Registry.Events.{Event, Sends, Posts}
use Rattle.mpi_protocol.specs.Run.{message_events, if_fine, if_silent, unless_none, unless_null, is_fine}
use Rattle.central_law.specs.Within.{within}

module _ (r t : ℕ) where
  -- whatever the reply

  pub data Inside : List Event → Type 0 where
    silent : Inside []
    sends : Inside (Sends r t ∷ [])
    posts : Inside (Posts r t ∷ [])

  sends_if : (b : Bool) → Inside (if b then Sends r t ∷ [] else [])
  sends_if true = sends
  sends_if false = silent

  posts_if : (b : Bool) → Inside (if b then Posts r t ∷ [] else [])
  posts_if true = posts
  posts_if false = silent

  posts_silent : (said : Option Reply) → Inside (if_silent (Posts r t ∷ []) said)
  posts_silent None = posts
  posts_silent (Some said) = silent

  to_somebody : (to : Option ℕ) (said : Option Reply) → Inside (unless_none (if_fine (Sends r t ∷ []) said) to)
  to_somebody None said = silent
  to_somebody (Some to) said = sends_if (is_fine said)

  from_somebody : (from : SrcArg) (events : List Event) → Inside events → Inside (unless_null events from)
  from_somebody (source.At rank) events h = h
  from_somebody source.Any events h = h
  from_somebody source.Null events h = silent

  pub inside_is : (o : Op) (said : Option Reply) → Inside (message_events r t o said)
  inside_is (op.Send comm to tag payload) said = to_somebody to said
  inside_is (op.Recv comm from tag room) said = from_somebody from (if_silent (Posts r t ∷ []) said) (posts_silent said)
  inside_is (op.Irecv comm from tag room target) said = from_somebody from (if_fine (Posts r t ∷ []) said) (posts_if (is_fine said))
  inside_is _ said = silent

  -- with the reply that comes at once

  record Tells (o : Op) (a : Result (Effect ℕ) ErrClass) : Type 0 where
    all : message_events r t o (said_at_once (refusal a)) ≡ within r t (refusal a)

  done : {o : Op} {e : Effect ℕ} → message_events r t o (said_at_once e) ≡ within r t e → Tells o (Ok e)
  done h = record { all = h }

  -- an operation that is refused, or goes on
  then_tells : {o : Op} {A : Type 0} (a : Result A ErrClass) (f : A → Result (Effect ℕ) ErrClass) → ((c : ErrClass) → message_events r t o (Some (reply.Refused c)) ≡ []) → ((v : A) → Tells o (f v)) → Tells o (and_then a f)
  then_tells (Err c) f mute h = record { all = mute c }
  then_tells (Ok v) f mute h = h v

  creating : (group tag target members : List ℕ) (session : ℕ) → Tells (op.Create group tag target) (Ok (begin_creation members session tag target))
  creating group tag target [] session = done refl
  creating group tag target (m ∷ ms) session = done refl

  sending : (comm : List ℕ) (c : ℕ) (to : Option ℕ) (tag : ℕ) (payload : List ℕ) → Tells (op.Send comm to tag payload) (Ok (begin_send c to tag payload))
  sending comm c None tag payload = done refl
  sending comm c (Some to) tag payload = done refl

  no_send : (comm : List ℕ) (to : Option ℕ) (tag : ℕ) (payload : List ℕ) (c : ErrClass) → message_events r t (op.Send comm to tag payload) (Some (reply.Refused c)) ≡ []
  no_send comm None tag payload c = refl
  no_send comm (Some to) tag payload c = refl

  receiving : (comm : List ℕ) (c : ℕ) (from : SrcArg) (tag : Option ℕ) (room : ℕ) → Tells (op.Recv comm from tag room) (Ok (begin_receive c from tag room))
  receiving comm c (source.At rank) tag room = done refl
  receiving comm c source.Any tag room = done refl
  receiving comm c source.Null tag room = done refl

  no_receive : (comm : List ℕ) (from : SrcArg) (tag : Option ℕ) (room : ℕ) (c : ErrClass) → message_events r t (op.Recv comm from tag room) (Some (reply.Refused c)) ≡ []
  no_receive comm (source.At rank) tag room c = refl
  no_receive comm source.Any tag room c = refl
  no_receive comm source.Null tag room c = refl

  requesting : (comm : List ℕ) (c : ℕ) (from : SrcArg) (tag : Option ℕ) (room : ℕ) (target : List ℕ) → Tells (op.Irecv comm from tag room target) (Ok (begin_request c from tag room target))
  requesting comm c (source.At rank) tag room target = done refl
  requesting comm c source.Any tag room target = done refl
  requesting comm c source.Null tag room target = done refl

  no_request : (comm : List ℕ) (from : SrcArg) (tag : Option ℕ) (room : ℕ) (target : List ℕ) (c : ErrClass) → message_events r t (op.Irecv comm from tag room target) (Some (reply.Refused c)) ≡ []
  no_request comm (source.At rank) tag room target c = refl
  no_request comm source.Any tag room target c = refl
  no_request comm source.Null tag room target c = refl

  module _ (s : Setting) (n : ℕ) (around : Around) (l : Local) where
    tells : (o : Op) → Tells o (call_of s n around l o)
    unfolding call_of
    tells (op.Session target) = then_tells (free_target l target) _ (λ c. refl) (λ a. done refl)
    tells (op.Finalize session) = then_tells (as_session (bound_of l.names session)) _ (λ c. refl) (λ a. then_tells (refuse_if (around.engaged a) class.Busy) _ (λ c. refl) (λ b. done refl))
    tells (op.Psets session) = then_tells (as_session (bound_of l.names session)) _ (λ c. refl) (λ a. done refl)
    tells (op.Nth session number) = then_tells (as_session (bound_of l.names session)) _ (λ c. refl) (λ a. then_tells (as_arg (slice_get (names s.psets.sets) number)) _ (λ c. refl) (λ b. done refl))
    tells (op.Info session set) = then_tells (as_session (bound_of l.names session)) _ (λ c. refl) (λ a. then_tells (as_arg (members_in s.psets.sets n set)) _ (λ c. refl) (λ b. done refl))
    tells (op.Pset session set target) = then_tells (as_session (bound_of l.names session)) _ (λ c. refl) (λ a. then_tells (as_arg (members_in s.psets.sets n set)) _ (λ c. refl) (λ b. then_tells (free_target l target) _ (λ c. refl) (λ d. done refl)))
    tells (op.Union first second target) = then_tells (two_groups l first second) _ (λ c. refl) (λ a. then_tells (free_target l target) _ (λ c. refl) (λ b. done refl))
    tells (op.Intersect first second target) = then_tells (two_groups l first second) _ (λ c. refl) (λ a. then_tells (free_target l target) _ (λ c. refl) (λ b. done refl))
    tells (op.Difference first second target) = then_tells (two_groups l first second) _ (λ c. refl) (λ a. then_tells (free_target l target) _ (λ c. refl) (λ b. done refl))
    tells (op.Incl group ranks target) = then_tells (as_group (bound_of l.names group)) _ (λ c. refl) (λ a. then_tells (included a.0 ranks) _ (λ c. refl) (λ b. then_tells (free_target l target) _ (λ c. refl) (λ d. done refl)))
    tells (op.Excl group ranks target) = then_tells (as_group (bound_of l.names group)) _ (λ c. refl) (λ a. then_tells (excluded a.0 ranks) _ (λ c. refl) (λ b. then_tells (free_target l target) _ (λ c. refl) (λ d. done refl)))
    tells (op.RangeIncl group ranges target) = then_tells (as_group (bound_of l.names group)) _ (λ c. refl) (λ a. then_tells (range_included a.0 ranges) _ (λ c. refl) (λ b. then_tells (free_target l target) _ (λ c. refl) (λ d. done refl)))
    tells (op.RangeExcl group ranges target) = then_tells (as_group (bound_of l.names group)) _ (λ c. refl) (λ a. then_tells (range_excluded a.0 ranges) _ (λ c. refl) (λ b. then_tells (free_target l target) _ (λ c. refl) (λ d. done refl)))
    tells (op.Translate from ranks to) = then_tells (two_groups l from to) _ (λ c. refl) (λ a. then_tells (translated_all a.0.0 ranks a.1.0) _ (λ c. refl) (λ b. done refl))
    tells (op.Compare first second) = then_tells (two_groups l first second) _ (λ c. refl) (λ a. done refl)
    tells (op.Size group) = then_tells (as_group (bound_of l.names group)) _ (λ c. refl) (λ a. done refl)
    tells (op.Rank group) = then_tells (as_group (bound_of l.names group)) _ (λ c. refl) (λ a. done refl)
    tells (op.Gfree group) = then_tells (as_group (bound_of l.names group)) _ (λ c. refl) (λ a. done refl)
    tells (op.Create group tag target) = then_tells (as_group (bound_of l.names group)) _ (λ c. refl) (λ a. then_tells (refuse_if (lacks a.0 n) class.Group) _ (λ c. refl) (λ b. then_tells (free_target l target) _ (λ c. refl) (λ d. then_tells (refuse_if (around.busy _) class.Busy) _ (λ c. refl) (λ e. creating group tag target a.0 a.1))))
    tells (op.Dup comm target) = then_tells (as_comm (bound_of l.names comm)) _ (λ c. refl) (λ a. then_tells (free_target l target) _ (λ c. refl) (λ b. done refl))
    tells (op.Split comm colour key target) = then_tells (as_comm (bound_of l.names comm)) _ (λ c. refl) (λ a. then_tells (refuse_if (is_negative colour) class.Arg) _ (λ c. refl) (λ b. then_tells (free_target l target) _ (λ c. refl) (λ d. done refl)))
    tells (op.CreateGroup comm group tag target) = then_tells (comm_and_group l comm group) _ (λ c. refl) (λ a. then_tells (good_tag tag) _ (λ c. refl) (λ b. then_tells (refuse_if (is_astray (around.members a.0.0) a.1.0 n) class.Group) _ (λ c. refl) (λ d. then_tells (free_target l target) _ (λ c. refl) (λ e. then_tells (refuse_if (around.busy _) class.Busy) _ (λ c. refl) (λ f. done refl)))))
    tells (op.Group comm target) = then_tells (as_comm (bound_of l.names comm)) _ (λ c. refl) (λ a. then_tells (free_target l target) _ (λ c. refl) (λ b. done refl))
    tells (op.Ccompare first second) = then_tells (two_comms l first second) _ (λ c. refl) (λ a. done refl)
    tells (op.Csize comm) = then_tells (as_comm (bound_of l.names comm)) _ (λ c. refl) (λ a. done refl)
    tells (op.Crank comm) = then_tells (as_comm (bound_of l.names comm)) _ (λ c. refl) (λ a. done refl)
    tells (op.Free comm) = then_tells (as_comm (bound_of l.names comm)) _ (λ c. refl) (λ a. done refl)
    tells (op.Send comm to tag payload) =
        then_tells (as_comm (bound_of l.names comm)) _ (no_send comm to tag payload) (λ a. then_tells (good_dest (length (around.members a.0)) to) _ (no_send comm to tag payload) (λ b. then_tells (good_tag tag) _ (no_send comm to tag payload) (λ d. sending comm a.0 to tag payload)))
    tells (op.Recv comm from tag room) = then_tells (good_receive around l comm from tag) _ (no_receive comm from tag room) (λ a. receiving comm a.0 from tag room)
    tells (op.Irecv comm from tag room target) =
        then_tells (good_receive around l comm from tag) _ (no_request comm from tag room target) (λ a. then_tells (free_target l target) _ (no_request comm from tag room target) (λ b. requesting comm a.0 from tag room target))
    tells (op.Wait request) = then_tells (as_request (bound_of l.names request)) _ (λ c. refl) (λ a. done refl)
    tells (op.Await name) = done refl

    pub within_is : (o : Op) → message_events r t o (said_at_once (effect_of s n around l o)) ≡ within r t (effect_of s n around l o)
    within_is o = (tells o).all
