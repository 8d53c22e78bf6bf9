-- A reply with a received message has its source and its tag, or it is from the null process and has neither and no bytes.
use Rattle.std.proofs.Common.{◌≡◌, ℕ, List, [], ◌∷◌, length, slice_get, Option, Some, None, Result, Ok, Err, refl}
use Rattle.mpi_base.specs.declared.errors.ErrClass.{ErrClass}
use Rattle.mpi_base.specs.declared.errors.ErrClass.TheVariants as class
use Rattle.mpi_base.specs.declared.messages.SrcArg.{SrcArg}
use Rattle.mpi_base.specs.declared.messages.SrcArg.TheVariants as source
use Rattle.mpi_base.specs.declared.ops.Op.{Op}
use Rattle.mpi_base.specs.declared.ops.Op.TheVariants as op
use Rattle.mpi_base.specs.declared.replies.Reply.{Reply}
use Rattle.mpi_base.specs.declared.replies.Reply.TheVariants.{Fine, Refused, Null, Psets, NthName, Size0, Group, Ranks, Like, Size, Rank, Comm, Received}
use Rattle.local_law.specs.Names.{bound_of}
use Rattle.mpi_group.specs.Algebra.{union_of, intersection_of, difference_of, included, excluded, range_included, range_excluded}
use Rattle.pset_reg.specs.Sets.{names, members_in}
use Rattle.mpi_law.specs.declared.setting.Setting.{Setting}
use Rattle.mpi_law.specs.declared.effects.Effect.{Effect}
use Rattle.mpi_law.specs.declared.effects.Effect.TheVariants.{Says, Opens, Groups, Ungroups, Joins, Frees, Ends, Sends, Receives, Posts, NullPosts, Completes, Awaits}
use Rattle.mpi_law.specs.Local.{call_of, refusal, effect_of}
use Rattle.mpi_law.specs.Local.Objects.{Local}
use Rattle.mpi_law.specs.Local.Effects.{Around}
use Rattle.mpi_law.specs.Local.Refusals.{and_then, refuse_if, as_arg, as_session, as_group, as_comm, as_request, two_groups, two_comms, comm_and_group, good_dest, good_tag, free_target}
use Rattle.mpi_law.specs.Local.Groups.{binds_group, call_combined, call_chosen, translated_all}
use Rattle.mpi_law.specs.Local.Comms.{begin_creation, lacks, is_astray, is_negative}
use Rattle.mpi_law.specs.Local.Messages.{begin_send, begin_receive, begin_request, good_receive}

abbrev pub MessageWhole : Option ℕ → Option ℕ → List ℕ → Type 0
MessageWhole (Some s) (Some t) bytes = Unit {0}
MessageWhole (Some s) None bytes = ⊥
MessageWhole None (Some t) bytes = ⊥
MessageWhole None None bytes = bytes ≡ []

abbrev pub ReplyWhole : Reply → Type 0
ReplyWhole Fine = Unit {0}
ReplyWhole (Refused c) = Unit {0}
ReplyWhole Null = Unit {0}
ReplyWhole (Psets n) = Unit {0}
ReplyWhole (NthName name) = Unit {0}
ReplyWhole (Size0 n) = Unit {0}
ReplyWhole (Group members) = Unit {0}
ReplyWhole (Ranks ranks) = Unit {0}
ReplyWhole (Like l) = Unit {0}
ReplyWhole (Size n) = Unit {0}
ReplyWhole (Rank r) = Unit {0}
ReplyWhole (Comm c r s) = Unit {0}
ReplyWhole (Received s t bytes) = MessageWhole s t bytes

-- what a call replies at once
abbrev pub EffectWhole : Effect ℕ → Type 0
EffectWhole (Says said) = ReplyWhole said
EffectWhole (Opens target) = Unit {0}
EffectWhole (Groups target members session) = Unit {0}
EffectWhole (Ungroups name) = Unit {0}
EffectWhole (Joins a) = Unit {0}
EffectWhole (Frees name c) = Unit {0}
EffectWhole (Ends name s) = Unit {0}
EffectWhole (Sends m) = Unit {0}
EffectWhole (Receives a) = Unit {0}
EffectWhole (Posts target a) = Unit {0}
EffectWhole (NullPosts target) = Unit {0}
EffectWhole (Completes name n) = Unit {0}
EffectWhole (Awaits name) = Unit {0}

-- as a record, so that it stays closed
record Tells (R : Result (Effect ℕ) ErrClass) : Type 0 where
  is : EffectWhole (refusal R)

ok : {e : Effect ℕ} → EffectWhole e → Tells (Ok e)
ok f = record { is = f }

then_tells : {A : Type 0} (R : Result A ErrClass) (f : A → Result (Effect ℕ) ErrClass) → ((v : A) → Tells (f v)) → Tells (and_then R f)
then_tells (Ok v) f g = g v
then_tells (Err c) f g = record { is = tt }

module _ (s : Setting) (rank : ℕ) (around : Around) (l : Local) where
  binds : (ms : List ℕ) (session : ℕ) (target : List ℕ) → Tells (binds_group l ms session target)
  binds ms session target = then_tells (free_target l target) _ (λ q. ok tt)

  combined : (f : List ℕ → List ℕ → List ℕ) (first second target : List ℕ) → Tells (call_combined f l first second target)
  combined f first second target = then_tells (two_groups l first second) _ (λ both. binds (f both.0.0 both.1.0) both.0.1 target)

  chosen : (f : List ℕ → Result (List ℕ) ErrClass) (group target : List ℕ) → Tells (call_chosen f l group target)
  chosen f group target = then_tells (as_group (bound_of l.names group)) _ (λ g. then_tells (f g.0) _ (λ ms. binds ms g.1 target))

  creation : (ms : List ℕ) (session : ℕ) (tag target : List ℕ) → Tells (Ok (begin_creation ms session tag target))
  creation [] session tag target = ok tt
  creation (m ∷ ms) session tag target = ok tt

  sending : (c : ℕ) (to : Option ℕ) (tag : ℕ) (payload : List ℕ) → Tells (Ok (begin_send c to tag payload))
  sending c None tag payload = ok tt
  sending c (Some to) tag payload = ok tt

  receiving : (c : ℕ) (from : SrcArg) (tag : Option ℕ) (room : ℕ) → Tells (Ok (begin_receive c from tag room))
  receiving c (source.At r) tag room = ok tt
  receiving c source.Any tag room = ok tt
  receiving c source.Null tag room = ok refl

  requesting : (c : ℕ) (from : SrcArg) (tag : Option ℕ) (room : ℕ) (target : List ℕ) → Tells (Ok (begin_request c from tag room target))
  requesting c (source.At r) tag room target = ok tt
  requesting c source.Any tag room target = ok tt
  requesting c source.Null tag room target = ok tt

  tells : (o : Op) → Tells (call_of s rank around l o)
  unfolding call_of
  tells (op.Session target) = then_tells (free_target l target) _ (λ q. ok tt)
  tells (op.Finalize session) = then_tells (as_session (bound_of l.names session)) _ (λ q. then_tells (refuse_if (around.engaged q) class.Busy) _ (λ z. ok tt))
  tells (op.Psets session) = then_tells (as_session (bound_of l.names session)) _ (λ q. ok tt)
  tells (op.Nth session number) = then_tells (as_session (bound_of l.names session)) _ (λ q. then_tells (as_arg (slice_get (names s.psets.sets) number)) _ (λ name. ok tt))
  tells (op.Info session set) = then_tells (as_session (bound_of l.names session)) _ (λ q. then_tells (as_arg (members_in s.psets.sets rank set)) _ (λ ms. ok tt))
  tells (op.Pset session set target) = then_tells (as_session (bound_of l.names session)) _ (λ q. then_tells (as_arg (members_in s.psets.sets rank set)) _ (λ ms. binds ms q target))
  tells (op.Union first second target) = combined union_of first second target
  tells (op.Intersect first second target) = combined intersection_of first second target
  tells (op.Difference first second target) = combined difference_of first second target
  tells (op.Incl group ranks target) = chosen (λ members. included members ranks) group target
  tells (op.Excl group ranks target) = chosen (λ members. excluded members ranks) group target
  tells (op.RangeIncl group ranges target) = chosen (λ members. range_included members ranges) group target
  tells (op.RangeExcl group ranges target) = chosen (λ members. range_excluded members ranges) group target
  tells (op.Translate from ranks to) = then_tells (two_groups l from to) _ (λ both. then_tells (translated_all both.0.0 ranks both.1.0) _ (λ outs. ok tt))
  tells (op.Compare first second) = then_tells (two_groups l first second) _ (λ both. ok tt)
  tells (op.Size group) = then_tells (as_group (bound_of l.names group)) _ (λ g. ok tt)
  tells (op.Rank group) = then_tells (as_group (bound_of l.names group)) _ (λ g. ok tt)
  tells (op.Gfree group) = then_tells (as_group (bound_of l.names group)) _ (λ g. ok tt)
  tells (op.Create group tag target) =
      then_tells (as_group (bound_of l.names group)) _ (λ g. then_tells (refuse_if (lacks g.0 rank) class.Group) _ (λ q. then_tells (free_target l target) _ (λ q'. then_tells (refuse_if (around.busy _) class.Busy) _ (λ q''. creation g.0 g.1 tag target))))
  tells (op.Dup comm target) = then_tells (as_comm (bound_of l.names comm)) _ (λ c. then_tells (free_target l target) _ (λ q. ok tt))
  tells (op.Split comm colour key target) = then_tells (as_comm (bound_of l.names comm)) _ (λ c. then_tells (refuse_if (is_negative colour) class.Arg) _ (λ q. then_tells (free_target l target) _ (λ q'. ok tt)))
  tells (op.CreateGroup comm group tag target) =
      then_tells (comm_and_group l comm group) _ (λ both. then_tells (good_tag tag) _ (λ q. then_tells (refuse_if (is_astray (around.members both.0.0) both.1.0 rank) class.Group) _ (λ q'. then_tells (free_target l target) _ (λ q''. then_tells (refuse_if (around.busy _) class.Busy) _ (λ q'''. ok tt)))))
  tells (op.Group comm target) = then_tells (as_comm (bound_of l.names comm)) _ (λ c. binds (around.members c.0) c.1 target)
  tells (op.Ccompare first second) = then_tells (two_comms l first second) _ (λ both. ok tt)
  tells (op.Csize comm) = then_tells (as_comm (bound_of l.names comm)) _ (λ c. ok tt)
  tells (op.Crank comm) = then_tells (as_comm (bound_of l.names comm)) _ (λ c. ok tt)
  tells (op.Free comm) = then_tells (as_comm (bound_of l.names comm)) _ (λ c. ok tt)
  tells (op.Send comm to tag payload) = then_tells (as_comm (bound_of l.names comm)) _ (λ c. then_tells (good_dest (length (around.members c.0)) to) _ (λ q. then_tells (good_tag tag) _ (λ q'. sending c.0 to tag payload)))
  tells (op.Recv comm from tag room) = then_tells (good_receive around l comm from tag) _ (λ c. receiving c.0 from tag room)
  tells (op.Irecv comm from tag room target) = then_tells (good_receive around l comm from tag) _ (λ c. then_tells (free_target l target) _ (λ q. requesting c.0 from tag room target))
  tells (op.Wait request) = then_tells (as_request (bound_of l.names request)) _ (λ n. ok tt)
  tells (op.Await name) = ok tt

  pub effect_whole : (o : Op) → EffectWhole (effect_of s rank around l o)
  effect_whole o = (tells o).is
