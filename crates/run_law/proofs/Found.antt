-- What a call has found among the names of its rank: the session of what it makes, the communicator that a creation comes
-- from, and that no creation of a session is open whose end it begins.
use Rattle.std.proofs.Common.{◌≡◌, ℕ, ℤ, ◌==◌, Bool, true, false, List, [], ◌∷◌, Option, Some, None, refl, arith}
use Rattle.std.specs.Prelude.{Result, Ok, Err, slice_get}
use Rattle.std.proofs.lemmas.Bool.Decides.{nat_tests}
use Rattle.mpi_base.specs.declared.errors.ErrClass.{ErrClass}
use Rattle.mpi_base.specs.declared.errors.ErrClass.TheVariants as class
use Rattle.mpi_base.specs.declared.groups.RankArg.{RankArg}
use Rattle.mpi_base.specs.declared.messages.SrcArg.{SrcArg}
use Rattle.mpi_base.specs.declared.messages.SrcArg.TheVariants as source
use Rattle.mpi_base.specs.declared.ops.Op.{Op}
use Rattle.mpi_base.specs.declared.ops.Op.TheVariants as op
use Rattle.pset_reg.specs.Sets.{names, members_in}
use Rattle.mpi_group.specs.Algebra.{union_of, intersection_of, difference_of, included, excluded, range_included, range_excluded}
use Rattle.local_law.specs.Names.{bound_of}
use Rattle.local_law.specs.Objects as bound
use Rattle.mpi_law.specs.declared.setting.Setting.{Setting}
use Rattle.mpi_law.specs.declared.effects.Origin.{Origin}
use Rattle.mpi_law.specs.declared.effects.Origin.TheVariants.{Grouped, Duplicated, Divided, GroupedOn}
use Rattle.mpi_law.specs.declared.effects.Effect.{Effect}
use Rattle.mpi_law.specs.declared.effects.Effect.TheVariants.{Says, Opens, Groups, Ungroups, Joins, Frees, Ends, Sends, Receives, Posts, NullPosts, Completes, Awaits}
use Rattle.mpi_law.specs.Local.Objects.{Bound, NameRow, Local}
use Rattle.mpi_law.specs.Local.Effects.{Around}
use Rattle.mpi_law.specs.Local.Refusals.{and_then, refuse_if, as_arg, good_tag, CommOf, GroupOf, as_session, as_group, as_comm, as_request, one_session, two_groups, two_comms, comm_and_group, free_target}
use Rattle.mpi_law.specs.Local.Groups.{binds_group, call_session, call_finalize, call_psets, call_nth, call_info, call_pset, call_combined, call_chosen, translated_all, call_translate, call_compare, call_size, call_rank, call_gfree}
use Rattle.mpi_law.specs.Local.Comms.{lacks, begin_creation, is_astray, is_negative, call_create, call_dup, call_split, call_create_group, call_group, call_ccompare, call_csize, call_crank, call_free}
use Rattle.mpi_law.specs.Local.Messages.{begin_send, begin_receive, begin_request, good_receive, call_send, call_recv, call_irecv, call_wait}
use Rattle.mpi_law.specs.Local.{call_of, refusal, effect_of}

-- a name of this session, and a name of this communicator
pub record OfSession (rows : List NameRow) (s : ℕ) : Type 0 where
  pub name : List ℕ
  pub what : Bound
  pub there : bound_of rows name ≡ Some what
  pub of_it : bound.is_of (λ (a : ℕ). a == s) what ≡ true

pub record OfComm (rows : List NameRow) (c : ℕ) : Type 0 where
  pub name : List ℕ
  pub session : ℕ
  pub there : bound_of rows name ≡ Some (bound.Comm c session)

abbrev pub OriginFound : List NameRow → Origin ℕ → Type 0
OriginFound rows (Grouped group tag) = Unit {0}
OriginFound rows (Duplicated c) = OfComm rows c
OriginFound rows (Divided c share) = OfComm rows c
OriginFound rows (GroupedOn c tag group) = OfComm rows c

abbrev pub Found : Around → List NameRow → Effect ℕ → Type 0
Found around rows (Says said) = Unit {0}
Found around rows (Opens target) = Unit {0}
Found around rows (Groups target members session) = OfSession rows session
Found around rows (Ungroups name) = Unit {0}
Found around rows (Joins a) = OfSession rows a.session × OriginFound rows a.origin
Found around rows (Frees name c) = Unit {0}
Found around rows (Ends name session) = OfSession rows session × (around.engaged session ≡ false)
Found around rows (Sends m) = Unit {0}
Found around rows (Receives a) = Unit {0}
Found around rows (Posts target a) = Unit {0}
Found around rows (NullPosts target) = Unit {0}
Found around rows (Completes name number) = Unit {0}
Found around rows (Awaits name) = Unit {0}

-- where it is not refused
data IfOk {A : Type 0} (P : A → Type 0) : Result A ErrClass → Type 0 where
  refused : (e : ErrClass) → IfOk P (Err e)
  fine : (u : A) → P u → IfOk P (Ok u)

ok_then : {A B : Type 0} (P : A → Type 0) (Q : B → Type 0) (a : Result A ErrClass) (f : A → Result B ErrClass) → IfOk P a → ((u : A) → P u → IfOk Q (f u)) → IfOk Q (and_then a f)
ok_then P Q _ f (refused e) k = refused e
ok_then P Q _ f (fine u h) k = k u h

-- of this nothing is asked
abbrev Any : {A : Type 0} → A → Type 0
Any u = Unit {0}

any_ok : {A : Type 0} (a : Result A ErrClass) → IfOk Any a
any_ok (Ok u) = fine u tt
any_ok (Err e) = refused e

refuse_ok : (b : Bool) (e : ErrClass) → IfOk (λ (u : Bool). b ≡ false) (refuse_if b e)
refuse_ok true e = refused e
refuse_ok false e = fine true refl

module _ (s : Setting) (r : ℕ) (around : Around) (l : Local) where
  abbrev Fine : Result (Effect ℕ) ErrClass → Type 0
  Fine a = IfOk (Found around l.names) a

  of_it : (a : ℕ) → (a == a) ≡ true
  of_it a = grind (arith, nat_tests)

  session_ok : (name : List ℕ) → IfOk (λ (a : ℕ). OfSession l.names a) (as_session (bound_of l.names name))
  session_ok name = go (bound_of l.names name) refl
    where
      go : (o : Option Bound) → bound_of l.names name ≡ o → IfOk (λ (a : ℕ). OfSession l.names a) (as_session o)
      go None e = refused _
      go (Some bound.Reserved) e = refused _
      go (Some (bound.Session a)) e = fine _ (record { name = name; what = bound.Session a; there = e; of_it = of_it a })
      go (Some (bound.Group ms a)) e = refused _
      go (Some (bound.Comm c a)) e = refused _
      go (Some (bound.Request n)) e = refused _

  group_ok : (name : List ℕ) → IfOk (λ (a : GroupOf). OfSession l.names a.1) (as_group (bound_of l.names name))
  group_ok name = go (bound_of l.names name) refl
    where
      go : (o : Option Bound) → bound_of l.names name ≡ o → IfOk (λ (a : GroupOf). OfSession l.names a.1) (as_group o)
      go None e = refused _
      go (Some bound.Reserved) e = refused _
      go (Some (bound.Session a)) e = refused _
      go (Some (bound.Group ms a)) e = fine _ (record { name = name; what = bound.Group ms a; there = e; of_it = of_it a })
      go (Some (bound.Comm c a)) e = refused _
      go (Some (bound.Request n)) e = refused _

  abbrev CommFound : CommOf → Type 0
  CommFound a = OfSession l.names a.1 × OfComm l.names a.0

  comm_ok : (name : List ℕ) → IfOk CommFound (as_comm (bound_of l.names name))
  comm_ok name = go (bound_of l.names name) refl
    where
      go : (o : Option Bound) → bound_of l.names name ≡ o → IfOk CommFound (as_comm o)
      go None e = refused _
      go (Some bound.Reserved) e = refused _
      go (Some (bound.Session a)) e = refused _
      go (Some (bound.Group ms a)) e = refused _
      go (Some (bound.Comm c a)) e = fine _ (record { name = name; what = bound.Comm c a; there = e; of_it = of_it a }, record { name = name; session = a; there = e })
      go (Some (bound.Request n)) e = refused _

  groups_ok : (first second : List ℕ) → IfOk (λ (a : GroupOf × GroupOf). OfSession l.names a.0.1) (two_groups l first second)
  groups_ok first second =
      ok_then _ (λ (a : GroupOf × GroupOf). OfSession l.names a.0.1) _ _ (group_ok first) (λ a h.
      ok_then _ (λ (a : GroupOf × GroupOf). OfSession l.names a.0.1) _ _ (any_ok (as_group (bound_of l.names second))) (λ b q.
      ok_then _ (λ (a : GroupOf × GroupOf). OfSession l.names a.0.1) _ _ (any_ok (one_session a.1 b.1)) (λ c q'. fine _ h)))

  comm_group_ok : (comm group : List ℕ) → IfOk (λ (a : CommOf × GroupOf). CommFound a.0) (comm_and_group l comm group)
  comm_group_ok comm group =
      ok_then _ (λ (a : CommOf × GroupOf). CommFound a.0) _ _ (comm_ok comm) (λ a h.
      ok_then _ (λ (a : CommOf × GroupOf). CommFound a.0) _ _ (any_ok (as_group (bound_of l.names group))) (λ b q.
      ok_then _ (λ (a : CommOf × GroupOf). CommFound a.0) _ _ (any_ok (one_session a.1 b.1)) (λ c q'. fine _ h)))

  -- Sessions, process sets and groups

  binds_found : (members : List ℕ) (session : ℕ) (target : List ℕ) → OfSession l.names session → Fine (binds_group l members session target)
  binds_found members session target h = ok_then _ (Found around l.names) _ _ (any_ok (free_target l target)) (λ a q. fine _ h)

  session_found : (target : List ℕ) → Fine (call_session l target)
  session_found target = ok_then _ (Found around l.names) _ _ (any_ok (free_target l target)) (λ a q. fine _ tt)

  finalize_found : (name : List ℕ) → Fine (call_finalize around l name)
  finalize_found name =
      ok_then _ (Found around l.names) _ _ (session_ok name) (λ a h.
      ok_then _ (Found around l.names) _ _ (refuse_ok (around.engaged a) class.Busy) (λ b idle. fine _ (h, idle)))

  psets_found : (name : List ℕ) → Fine (call_psets s l name)
  psets_found name = ok_then _ (Found around l.names) _ _ (any_ok (as_session (bound_of l.names name))) (λ a q. fine _ tt)

  nth_found : (name : List ℕ) (number : ℕ) → Fine (call_nth s l name number)
  nth_found name number =
      ok_then _ (Found around l.names) _ _ (any_ok (as_session (bound_of l.names name))) (λ a q.
      ok_then _ (Found around l.names) _ _ (any_ok (as_arg (slice_get (names s.psets.sets) number))) (λ b q'. fine _ tt))

  info_found : (name set : List ℕ) → Fine (call_info s r l name set)
  info_found name set =
      ok_then _ (Found around l.names) _ _ (any_ok (as_session (bound_of l.names name))) (λ a q.
      ok_then _ (Found around l.names) _ _ (any_ok (as_arg (members_in s.psets.sets r set))) (λ b q'. fine _ tt))

  pset_found : (name set target : List ℕ) → Fine (call_pset s r l name set target)
  pset_found name set target =
      ok_then _ (Found around l.names) _ _ (session_ok name) (λ a h.
      ok_then _ (Found around l.names) _ _ (any_ok (as_arg (members_in s.psets.sets r set))) (λ b q. binds_found b a target h))

  combined_found : (combined : List ℕ → List ℕ → List ℕ) (first second target : List ℕ) → Fine (call_combined combined l first second target)
  combined_found combined first second target = ok_then _ (Found around l.names) _ _ (groups_ok first second) (λ a h. binds_found (combined a.0.0 a.1.0) a.0.1 target h)

  chosen_found : (chosen : List ℕ → Result (List ℕ) ErrClass) (name target : List ℕ) → Fine (call_chosen chosen l name target)
  chosen_found chosen name target =
      ok_then _ (Found around l.names) _ _ (group_ok name) (λ a h.
      ok_then _ (Found around l.names) _ _ (any_ok (chosen a.0)) (λ b q. binds_found b a.1 target h))

  translate_found : (from : List ℕ) (args : List RankArg) (to : List ℕ) → Fine (call_translate l from args to)
  translate_found from args to =
      ok_then _ (Found around l.names) _ _ (any_ok (two_groups l from to)) (λ a q.
      ok_then _ (Found around l.names) _ _ (any_ok (translated_all a.0.0 args a.1.0)) (λ b q'. fine _ tt))

  compare_found : (first second : List ℕ) → Fine (call_compare l first second)
  compare_found first second = ok_then _ (Found around l.names) _ _ (any_ok (two_groups l first second)) (λ a q. fine _ tt)

  size_found : (name : List ℕ) → Fine (call_size l name)
  size_found name = ok_then _ (Found around l.names) _ _ (any_ok (as_group (bound_of l.names name))) (λ a q. fine _ tt)

  rank_found : (name : List ℕ) → Fine (call_rank r l name)
  rank_found name = ok_then _ (Found around l.names) _ _ (any_ok (as_group (bound_of l.names name))) (λ a q. fine _ tt)

  gfree_found : (name : List ℕ) → Fine (call_gfree l name)
  gfree_found name = ok_then _ (Found around l.names) _ _ (any_ok (as_group (bound_of l.names name))) (λ a q. fine _ tt)

  -- Creations

  create_found : (group tag target : List ℕ) → Fine (call_create r around l group tag target)
  create_found group tag target =
      ok_then _ (Found around l.names) _ _ (group_ok group) (λ a h.
      ok_then _ (Found around l.names) _ _ (any_ok (refuse_if (lacks a.0 r) class.Group)) (λ b q.
      ok_then _ (Found around l.names) _ _ (any_ok (free_target l target)) (λ c q'.
      ok_then _ (Found around l.names) _ _ (any_ok (refuse_if (around.busy (Grouped a.0 tag)) class.Busy)) (λ d q''. fine _ (begins a.0 a.1 h)))))
    where
      begins : (ms : List ℕ) (session : ℕ) → OfSession l.names session → Found around l.names (begin_creation ms session tag target)
      begins [] session h = tt
      begins (z ∷ zs) session h = (h, tt)

  dup_found : (comm target : List ℕ) → Fine (call_dup l comm target)
  dup_found comm target =
      ok_then _ (Found around l.names) _ _ (comm_ok comm) (λ a h.
      ok_then _ (Found around l.names) _ _ (any_ok (free_target l target)) (λ b q. fine _ h))

  split_found : (comm : List ℕ) (colour : Option ℤ) (key : ℤ) (target : List ℕ) → Fine (call_split l comm colour key target)
  split_found comm colour key target =
      ok_then _ (Found around l.names) _ _ (comm_ok comm) (λ a h.
      ok_then _ (Found around l.names) _ _ (any_ok (refuse_if (is_negative colour) class.Arg)) (λ b q.
      ok_then _ (Found around l.names) _ _ (any_ok (free_target l target)) (λ c q'. fine _ h)))

  create_group_found : (comm group : List ℕ) (tag : ℕ) (target : List ℕ) → Fine (call_create_group r around l comm group tag target)
  create_group_found comm group tag target =
      ok_then _ (Found around l.names) _ _ (comm_group_ok comm group) (λ a h.
      ok_then _ (Found around l.names) _ _ (any_ok (good_tag tag)) (λ b q.
      ok_then _ (Found around l.names) _ _ (any_ok (refuse_if (is_astray (around.members a.0.0) a.1.0 r) class.Group)) (λ c q'.
      ok_then _ (Found around l.names) _ _ (any_ok (free_target l target)) (λ d q''.
      ok_then _ (Found around l.names) _ _ (any_ok (refuse_if (around.busy (GroupedOn a.0.0 tag a.1.0)) class.Busy)) (λ e q'''. fine _ h)))))

  -- Communicators

  group_found : (comm target : List ℕ) → Fine (call_group around l comm target)
  group_found comm target = ok_then _ (Found around l.names) _ _ (comm_ok comm) (λ a h. binds_found (around.members a.0) a.1 target h.0)

  ccompare_found : (first second : List ℕ) → Fine (call_ccompare around l first second)
  ccompare_found first second = ok_then _ (Found around l.names) _ _ (any_ok (two_comms l first second)) (λ a q. fine _ tt)

  csize_found : (comm : List ℕ) → Fine (call_csize around l comm)
  csize_found comm = ok_then _ (Found around l.names) _ _ (any_ok (as_comm (bound_of l.names comm))) (λ a q. fine _ tt)

  crank_found : (comm : List ℕ) → Fine (call_crank r around l comm)
  crank_found comm = ok_then _ (Found around l.names) _ _ (any_ok (as_comm (bound_of l.names comm))) (λ a q. fine _ tt)

  free_found : (comm : List ℕ) → Fine (call_free l comm)
  free_found comm = ok_then _ (Found around l.names) _ _ (any_ok (as_comm (bound_of l.names comm))) (λ a q. fine _ tt)

  -- Messages

  sending : (c : ℕ) (to : Option ℕ) (tag : ℕ) (payload : List ℕ) → Found around l.names (begin_send c to tag payload)
  sending c None tag payload = tt
  sending c (Some to) tag payload = tt

  send_found : (comm : List ℕ) (to : Option ℕ) (tag : ℕ) (payload : List ℕ) → Fine (call_send around l comm to tag payload)
  send_found comm to tag payload =
      ok_then _ (Found around l.names) _ _ (any_ok (as_comm (bound_of l.names comm))) (λ a q.
      ok_then _ (Found around l.names) _ _ (any_ok _) (λ b q'.
      ok_then _ (Found around l.names) _ _ (any_ok (good_tag tag)) (λ c q''. fine _ (sending a.0 to tag payload))))

  receiving_found : (c : ℕ) (from : SrcArg) (tag : Option ℕ) (room : ℕ) → Found around l.names (begin_receive c from tag room)
  receiving_found c (source.At rank) tag room = tt
  receiving_found c source.Any tag room = tt
  receiving_found c source.Null tag room = tt

  recv_found : (comm : List ℕ) (from : SrcArg) (tag : Option ℕ) (room : ℕ) → Fine (call_recv around l comm from tag room)
  recv_found comm from tag room = ok_then _ (Found around l.names) _ _ (any_ok (good_receive around l comm from tag)) (λ a q. fine _ (receiving_found a.0 from tag room))

  requesting : (c : ℕ) (from : SrcArg) (tag : Option ℕ) (room : ℕ) (target : List ℕ) → Found around l.names (begin_request c from tag room target)
  requesting c (source.At rank) tag room target = tt
  requesting c source.Any tag room target = tt
  requesting c source.Null tag room target = tt

  irecv_found : (comm : List ℕ) (from : SrcArg) (tag : Option ℕ) (room : ℕ) (target : List ℕ) → Fine (call_irecv around l comm from tag room target)
  irecv_found comm from tag room target =
      ok_then _ (Found around l.names) _ _ (any_ok (good_receive around l comm from tag)) (λ a q.
      ok_then _ (Found around l.names) _ _ (any_ok (free_target l target)) (λ b q'. fine _ (requesting a.0 from tag room target)))

  wait_found : (name : List ℕ) → Fine (call_wait l name)
  wait_found name = ok_then _ (Found around l.names) _ _ (any_ok (as_request (bound_of l.names name))) (λ a q. fine _ tt)

  -- Any operation

  called_found : (o : Op) → Fine (call_of s r around l o)
  unfolding call_of
  called_found (op.Session target) = session_found target
  called_found (op.Finalize session) = finalize_found session
  called_found (op.Psets session) = psets_found session
  called_found (op.Nth session number) = nth_found session number
  called_found (op.Info session set) = info_found session set
  called_found (op.Pset session set target) = pset_found session set target
  called_found (op.Union first second target) = combined_found union_of first second target
  called_found (op.Intersect first second target) = combined_found intersection_of first second target
  called_found (op.Difference first second target) = combined_found difference_of first second target
  called_found (op.Incl group ranks target) = chosen_found (λ members. included members ranks) group target
  called_found (op.Excl group ranks target) = chosen_found (λ members. excluded members ranks) group target
  called_found (op.RangeIncl group ranges target) = chosen_found (λ members. range_included members ranges) group target
  called_found (op.RangeExcl group ranges target) = chosen_found (λ members. range_excluded members ranges) group target
  called_found (op.Translate from ranks to) = translate_found from ranks to
  called_found (op.Compare first second) = compare_found first second
  called_found (op.Size group) = size_found group
  called_found (op.Rank group) = rank_found group
  called_found (op.Gfree group) = gfree_found group
  called_found (op.Create group tag target) = create_found group tag target
  called_found (op.Dup comm target) = dup_found comm target
  called_found (op.Split comm colour key target) = split_found comm colour key target
  called_found (op.CreateGroup comm group tag target) = create_group_found comm group tag target
  called_found (op.Group comm target) = group_found comm target
  called_found (op.Ccompare first second) = ccompare_found first second
  called_found (op.Csize comm) = csize_found comm
  called_found (op.Crank comm) = crank_found comm
  called_found (op.Free comm) = free_found comm
  called_found (op.Send comm to tag payload) = send_found comm to tag payload
  called_found (op.Recv comm from tag room) = recv_found comm from tag room
  called_found (op.Irecv comm from tag room target) = irecv_found comm from tag room target
  called_found (op.Wait request) = wait_found request
  called_found (op.Await name) = fine _ tt

  pub found : (o : Op) → Found around l.names (effect_of s r around l o)
  found o = go (call_of s r around l o) (called_found o)
    where
      go : (a : Result (Effect ℕ) ErrClass) → Fine a → Found around l.names (refusal a)
      go _ (fine e h) = h
      go _ (refused c) = tt
