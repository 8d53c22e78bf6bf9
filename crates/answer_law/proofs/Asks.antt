-- What a call asks for on a communicator: a name of the caller is bound to it.
use Rattle.std.proofs.Common.{◌≡◌, ℕ, Bool, List, [], ◌∷◌, length, Option, Some, None, refl, subst}
use Rattle.std.specs.Prelude.{Result, Ok, Err, slice_get}
use Rattle.mpi_base.specs.declared.errors.ErrClass.{ErrClass}
use Rattle.mpi_base.specs.declared.messages.SrcArg.{SrcArg}
use Rattle.mpi_base.specs.declared.messages.SrcArg.TheVariants as source
use Rattle.mpi_base.specs.declared.ops.Op.{Op}
use Rattle.mpi_base.specs.declared.ops.Op.TheVariants as op
use Rattle.local_law.specs.Names.{bound_of}
use Rattle.local_law.specs.Objects as objects
use Rattle.mpi_law.specs.declared.setting.Setting.{Setting}
use Rattle.mpi_law.specs.declared.effects.Origin.{Origin}
use Rattle.mpi_law.specs.declared.effects.Origin.TheVariants.{Grouped, Duplicated, Divided, GroupedOn}
use Rattle.mpi_law.specs.declared.effects.Effect.{Effect}
use Rattle.mpi_law.specs.declared.effects.Effect.TheVariants.{Says, Opens, Groups, Ungroups, Joins, Frees, Ends, Sends, Receives, Posts, NullPosts, Completes, Awaits}
use Rattle.mpi_law.specs.Local.Objects.{Bound, NameRow, Local}
use Rattle.mpi_law.specs.Local.Effects.{Around}
use Rattle.mpi_law.specs.Local.Refusals.{and_then, refuse_if, as_arg, CommOf, GroupOf, as_session, as_group, as_comm, as_request, one_session, two_groups, two_comms, comm_and_group, good_tag, good_any_tag, good_dest, good_source, free_target}
use Rattle.mpi_group.specs.Algebra.{included, excluded, range_included, range_excluded}
use Rattle.mpi_base.specs.declared.errors.ErrClass.TheVariants as class
use Rattle.pset_reg.specs.Sets.{names, members_in}
use Rattle.mpi_law.specs.Local.Groups.{translated_all}
use Rattle.mpi_law.specs.Local.Comms.{begin_creation, lacks, is_astray, is_negative}
use Rattle.mpi_law.specs.Local.Messages.{begin_send, begin_receive, begin_request, good_receive}
use Rattle.mpi_law.specs.Local.{call_of, refusal, effect_of}

-- the communicator of a creation, and that on which something is created, sent or posted
abbrev pub comm_of_origin : Origin ℕ → Option ℕ
comm_of_origin (Grouped group tag) = None
comm_of_origin (Duplicated p) = Some p
comm_of_origin (Divided p share) = Some p
comm_of_origin (GroupedOn p tag group) = Some p

abbrev pub asks_on : Effect ℕ → Option ℕ
asks_on (Says said) = None
asks_on (Opens target) = None
asks_on (Groups target members session) = None
asks_on (Ungroups name) = None
asks_on (Joins a) = comm_of_origin a.origin
asks_on (Frees name p) = None
asks_on (Ends name session) = None
asks_on (Sends m) = Some m.comm
asks_on (Receives x) = Some x.comm
asks_on (Posts target x) = Some x.comm
asks_on (NullPosts target) = None
asks_on (Completes name number) = None
asks_on (Awaits name) = None

-- a name is bound to the communicator at a place
pub record HasComm (rows : List NameRow) (p : ℕ) : Type 0 where
  pub name : List ℕ
  pub session : ℕ
  pub there : bound_of rows name ≡ Some (objects.Comm p session)

abbrev IsBound : List NameRow → Option ℕ → Type 0
IsBound rows None = Unit {0}
IsBound rows (Some p) = HasComm rows p

data Fine (rows : List NameRow) : Result (Effect ℕ) ErrClass → Type 0 where
  carried : (e : Effect ℕ) → IsBound rows (asks_on e) → Fine rows (Ok e)
  refused : (c : ErrClass) → Fine rows (Err c)

then_fine : {A : Type 0} {rows : List NameRow} (a : Result A ErrClass) (f : A → Result (Effect ℕ) ErrClass) → ((v : A) → Fine rows (f v)) → Fine rows (and_then a f)
then_fine (Ok v) f h = h v
then_fine (Err e) f h = refused e

then_found : (rows : List NameRow) (name : List ℕ) (f : CommOf → Result (Effect ℕ) ErrClass) → ((c : CommOf) → HasComm rows c.0 → Fine rows (f c)) → Fine rows (and_then (as_comm (bound_of rows name)) f)
then_found rows name f h = go (bound_of rows name) refl
  where
    go : (o : Option Bound) → bound_of rows name ≡ o → Fine rows (and_then (as_comm o) f)
    go None e = refused _
    go (Some objects.Reserved) e = refused _
    go (Some (objects.Session s)) e = refused _
    go (Some (objects.Group members s)) e = refused _
    go (Some (objects.Comm p s)) e = h (p, s) (record { name = name; session = s; there = e })
    go (Some (objects.Request number)) e = refused _

-- a communicator and a group, and the communicator of a receive
then_both : (l : Local) (comm group : List ℕ) (f : CommOf × GroupOf → Result (Effect ℕ) ErrClass) → ((c : CommOf × GroupOf) → HasComm l.names c.0.0 → Fine l.names (f c)) → Fine l.names (and_then (comm_and_group l comm group) f)
then_both l comm group f h = go (bound_of l.names comm) refl
  where
    session : (c : CommOf) (g : GroupOf) → HasComm l.names c.0 → (q : Result Bool ErrClass) → Fine l.names (and_then (and_then q (λ z. Ok (c, g))) f)
    session c g k (Ok z) = h (c, g) k
    session c g k (Err e) = refused e

    with_group : (c : CommOf) → HasComm l.names c.0 → (g : Result GroupOf ErrClass) → Fine l.names (and_then (and_then g (λ a. and_then (one_session c.1 a.1) (λ q. Ok (c, a)))) f)
    with_group c k (Ok a) = session c a k (one_session c.1 a.1)
    with_group c k (Err e) = refused e

    go : (o : Option Bound) → bound_of l.names comm ≡ o → Fine l.names (and_then (and_then (as_comm o) (λ c. and_then (as_group (bound_of l.names group)) (λ a. and_then (one_session c.1 a.1) (λ q. Ok (c, a))))) f)
    go None e = refused _
    go (Some objects.Reserved) e = refused _
    go (Some (objects.Session s)) e = refused _
    go (Some (objects.Group members s)) e = refused _
    go (Some (objects.Comm p s)) e = with_group (p, s) (record { name = comm; session = s; there = e }) (as_group (bound_of l.names group))
    go (Some (objects.Request number)) e = refused _

then_receive : (around : Around) (l : Local) (comm : List ℕ) (from : SrcArg) (tag : Option ℕ) (f : CommOf → Result (Effect ℕ) ErrClass) → ((c : CommOf) → HasComm l.names c.0 → Fine l.names (f c)) → Fine l.names (and_then (good_receive around l comm from tag) f)
then_receive around l comm from tag f h = go (bound_of l.names comm) refl
  where
    tagged : (c : CommOf) → HasComm l.names c.0 → (q : Result Bool ErrClass) → Fine l.names (and_then (and_then q (λ z. Ok c)) f)
    tagged c k (Ok z) = h c k
    tagged c k (Err e) = refused e

    sourced : (c : CommOf) → HasComm l.names c.0 → (q : Result Bool ErrClass) → Fine l.names (and_then (and_then q (λ z. and_then (good_any_tag tag) (λ y. Ok c))) f)
    sourced c k (Ok z) = tagged c k (good_any_tag tag)
    sourced c k (Err e) = refused e

    go : (o : Option Bound) → bound_of l.names comm ≡ o → Fine l.names (and_then (and_then (as_comm o) (λ c. and_then (good_source (length (around.members c.0)) from) (λ q. and_then (good_any_tag tag) (λ q'. Ok c)))) f)
    go None e = refused _
    go (Some objects.Reserved) e = refused _
    go (Some (objects.Session s)) e = refused _
    go (Some (objects.Group members s)) e = refused _
    go (Some (objects.Comm p s)) e = sourced (p, s) (record { name = comm; session = s; there = e }) (good_source (length (around.members p)) from)
    go (Some (objects.Request number)) e = refused _

module _ (s : Setting) (rank : ℕ) (around : Around) (l : Local) where
  abbrev Good : Op → Type 0
  Good o = Fine l.names (call_of s rank around l o)

  begins : (ms : List ℕ) (session : ℕ) (tag target : List ℕ) → IsBound l.names (asks_on (begin_creation ms session tag target))
  begins [] session tag target = tt
  begins (m ∷ ms) session tag target = tt

  sends : (p : ℕ) (to : Option ℕ) (tag : ℕ) (payload : List ℕ) → HasComm l.names p → IsBound l.names (asks_on (begin_send p to tag payload))
  sends p None tag payload h = tt
  sends p (Some to) tag payload h = h

  receives : (p : ℕ) (from : SrcArg) (tag : Option ℕ) (room : ℕ) → HasComm l.names p → IsBound l.names (asks_on (begin_receive p from tag room))
  receives p (source.At q) tag room h = h
  receives p source.Any tag room h = h
  receives p source.Null tag room h = tt

  requests : (p : ℕ) (from : SrcArg) (tag : Option ℕ) (room : ℕ) (target : List ℕ) → HasComm l.names p → IsBound l.names (asks_on (begin_request p from tag room target))
  requests p (source.At q) tag room target h = h
  requests p source.Any tag room target h = h
  requests p source.Null tag room target h = tt

  fine : (o : Op) → Good o
  unfolding call_of
  fine (op.Session target) = then_fine (free_target l target) _ (λ q. carried _ tt)
  fine (op.Finalize session) = then_fine (as_session (bound_of l.names session)) _ (λ a. then_fine (refuse_if (around.engaged a) class.Busy) _ (λ q. carried _ tt))
  fine (op.Psets session) = then_fine (as_session (bound_of l.names session)) _ (λ a. carried _ tt)
  fine (op.Nth session number) = then_fine (as_session (bound_of l.names session)) _ (λ a. then_fine (as_arg (slice_get (names s.psets.sets) number)) _ (λ q. carried _ tt))
  fine (op.Info session set) = then_fine (as_session (bound_of l.names session)) _ (λ a. then_fine (as_arg (members_in s.psets.sets rank set)) _ (λ q. carried _ tt))
  fine (op.Pset session set target) = then_fine (as_session (bound_of l.names session)) _ (λ a. then_fine (as_arg (members_in s.psets.sets rank set)) _ (λ b. then_fine (free_target l target) _ (λ q. carried _ tt)))
  fine (op.Union first second target) = then_fine (two_groups l first second) _ (λ a. then_fine (free_target l target) _ (λ q. carried _ tt))
  fine (op.Intersect first second target) = then_fine (two_groups l first second) _ (λ a. then_fine (free_target l target) _ (λ q. carried _ tt))
  fine (op.Difference first second target) = then_fine (two_groups l first second) _ (λ a. then_fine (free_target l target) _ (λ q. carried _ tt))
  fine (op.Incl group ranks target) = then_fine (as_group (bound_of l.names group)) _ (λ a. then_fine (included a.0 ranks) _ (λ b. then_fine (free_target l target) _ (λ q. carried _ tt)))
  fine (op.Excl group ranks target) = then_fine (as_group (bound_of l.names group)) _ (λ a. then_fine (excluded a.0 ranks) _ (λ b. then_fine (free_target l target) _ (λ q. carried _ tt)))
  fine (op.RangeIncl group ranges target) = then_fine (as_group (bound_of l.names group)) _ (λ a. then_fine (range_included a.0 ranges) _ (λ b. then_fine (free_target l target) _ (λ q. carried _ tt)))
  fine (op.RangeExcl group ranges target) = then_fine (as_group (bound_of l.names group)) _ (λ a. then_fine (range_excluded a.0 ranges) _ (λ b. then_fine (free_target l target) _ (λ q. carried _ tt)))
  fine (op.Translate from ranks to) = then_fine (two_groups l from to) _ (λ a. then_fine (translated_all a.0.0 ranks a.1.0) _ (λ q. carried _ tt))
  fine (op.Compare first second) = then_fine (two_groups l first second) _ (λ a. carried _ tt)
  fine (op.Size group) = then_fine (as_group (bound_of l.names group)) _ (λ a. carried _ tt)
  fine (op.Rank group) = then_fine (as_group (bound_of l.names group)) _ (λ a. carried _ tt)
  fine (op.Gfree group) = then_fine (as_group (bound_of l.names group)) _ (λ a. carried _ tt)
  fine (op.Create group tag target) = then_fine (as_group (bound_of l.names group)) _ (λ a. then_fine (refuse_if (lacks a.0 rank) class.Group) _ (λ b. then_fine (free_target l target) _ (λ c. then_fine (refuse_if (around.busy (Grouped a.0 tag)) class.Busy) _ (λ q. carried _ (begins a.0 a.1 tag target)))))
  fine (op.Dup comm target) = then_found _ comm _ (λ c h. then_fine (free_target l target) _ (λ q. carried _ h))
  fine (op.Split comm colour key target) = then_found _ comm _ (λ c h. then_fine (refuse_if (is_negative colour) class.Arg) _ (λ a. then_fine (free_target l target) _ (λ q. carried _ h)))
  fine (op.CreateGroup comm group tag target) = then_both l comm group _ (λ a h. then_fine (good_tag tag) _ (λ b. then_fine (refuse_if (is_astray (around.members a.0.0) a.1.0 rank) class.Group) _ (λ c. then_fine (free_target l target) _ (λ d. then_fine (refuse_if (around.busy (GroupedOn a.0.0 tag a.1.0)) class.Busy) _ (λ q. carried _ h)))))
  fine (op.Group comm target) = then_fine (as_comm (bound_of l.names comm)) _ (λ a. then_fine (free_target l target) _ (λ q. carried _ tt))
  fine (op.Ccompare first second) = then_fine (two_comms l first second) _ (λ a. carried _ tt)
  fine (op.Csize comm) = then_fine (as_comm (bound_of l.names comm)) _ (λ a. carried _ tt)
  fine (op.Crank comm) = then_fine (as_comm (bound_of l.names comm)) _ (λ a. carried _ tt)
  fine (op.Free comm) = then_fine (as_comm (bound_of l.names comm)) _ (λ a. carried _ tt)
  fine (op.Send comm to tag payload) = then_found _ comm _ (λ c h. then_fine (good_dest (length (around.members c.0)) to) _ (λ a. then_fine (good_tag tag) _ (λ q. carried _ (sends c.0 to tag payload h))))
  fine (op.Recv comm from tag room) = then_receive around l comm from tag _ (λ c h. carried _ (receives c.0 from tag room h))
  fine (op.Irecv comm from tag room target) = then_receive around l comm from tag _ (λ c h. then_fine (free_target l target) _ (λ q. carried _ (requests c.0 from tag room target h)))
  fine (op.Wait request) = then_fine (as_request (bound_of l.names request)) _ (λ a. carried _ tt)
  fine (op.Await name) = carried _ tt

  -- any operation
  pub asked : (o : Op) (p : ℕ) → asks_on (effect_of s rank around l o) ≡ Some p → HasComm l.names p
  asked o p e = go (call_of s rank around l o) (fine o) e
    where
      bound : (c : Option ℕ) → IsBound l.names c → c ≡ Some p → HasComm l.names p
      bound None h e = absurd (cc (e))
      bound (Some q) h e = let is : q ≡ p = cc (e) in subst (HasComm l.names) is h

      go : (a : Result (Effect ℕ) ErrClass) → Fine l.names a → asks_on (refusal a) ≡ Some p → HasComm l.names p
      go _ (carried k h) e = bound (asks_on k) h e
      go _ (refused k) e = absurd (cc (e))
