-- A wait of a request has found the request bound to its name: of all operations only that one waits for a receive by number.
use Rattle.std.proofs.Common.{◌≡◌, ℕ, ℤ, List, [], ◌∷◌, Option, Some, None, refl}
use Rattle.std.specs.Prelude.{Result, Ok, Err, slice_get}
use Rattle.mpi_base.specs.declared.errors.ErrClass.{ErrClass}
use Rattle.mpi_base.specs.declared.errors.ErrClass.TheVariants as class
use Rattle.mpi_base.specs.declared.groups.RankArg.{RankArg}
use Rattle.mpi_base.specs.declared.messages.SrcArg.{SrcArg}
use Rattle.mpi_base.specs.declared.messages.SrcArg.TheVariants as source
use Rattle.mpi_base.specs.declared.ops.Op.{Op}
use Rattle.mpi_base.specs.declared.ops.Op.TheVariants as op
use Rattle.pset_reg.specs.Sets.{names, members_in}
use Rattle.mpi_group.specs.Algebra.{union_of, intersection_of, difference_of, included, excluded, range_included, range_excluded}
use Rattle.local_law.specs.Names.{bound_of}
use Rattle.local_law.specs.Objects as bound
use Rattle.mpi_law.specs.declared.setting.Setting.{Setting}
use Rattle.mpi_law.specs.declared.effects.Origin.TheVariants.{Grouped, GroupedOn}
use Rattle.mpi_law.specs.declared.effects.Effect.{Effect}
use Rattle.mpi_law.specs.declared.effects.Effect.TheVariants.{Says, Opens, Groups, Ungroups, Joins, Frees, Ends, Sends, Receives, Posts, NullPosts, Completes, Awaits}
use Rattle.mpi_law.specs.Local.Objects.{Bound, NameRow, Local}
use Rattle.mpi_law.specs.Local.Effects.{Around}
use Rattle.mpi_law.specs.Local.Refusals.{and_then, refuse_if, as_arg, good_tag, as_session, as_group, as_comm, as_request, two_groups, two_comms, comm_and_group, free_target}
use Rattle.mpi_law.specs.Local.Groups.{binds_group, call_session, call_finalize, call_psets, call_nth, call_info, call_pset, call_combined, call_chosen, translated_all, call_translate, call_compare, call_size, call_rank, call_gfree}
use Rattle.mpi_law.specs.Local.Comms.{lacks, begin_creation, is_astray, is_negative, call_create, call_dup, call_split, call_create_group, call_group, call_ccompare, call_csize, call_crank, call_free}
use Rattle.mpi_law.specs.Local.Messages.{begin_send, begin_receive, begin_request, good_receive, call_send, call_recv, call_irecv, call_wait}
use Rattle.mpi_law.specs.Local.{call_of, refusal, effect_of}

-- what an effect has found, where it waits for the receive of a request
abbrev pub Asks : List NameRow → Effect ℕ → Type 0
Asks rows (Says said) = Unit {0}
Asks rows (Opens target) = Unit {0}
Asks rows (Groups target members session) = Unit {0}
Asks rows (Ungroups name) = Unit {0}
Asks rows (Joins a) = Unit {0}
Asks rows (Frees name c) = Unit {0}
Asks rows (Ends name session) = Unit {0}
Asks rows (Sends m) = Unit {0}
Asks rows (Receives a) = Unit {0}
Asks rows (Posts target a) = Unit {0}
Asks rows (NullPosts target) = Unit {0}
Asks rows (Completes name number) = bound_of rows name ≡ Some (bound.Request number)
Asks rows (Awaits name) = Unit {0}

-- where it is not refused
data IfOk {A : Type 0} (P : A → Type 0) : Result A ErrClass → Type 0 where
  refused : (e : ErrClass) → IfOk P (Err e)
  fine : (u : A) → P u → IfOk P (Ok u)

ok_then : {A B : Type 0} (Q : B → Type 0) (a : Result A ErrClass) (f : A → Result B ErrClass) → ((u : A) → IfOk Q (f u)) → IfOk Q (and_then a f)
ok_then Q (Err e) f k = refused e
ok_then Q (Ok u) f k = k u

module _ (s : Setting) (r : ℕ) (around : Around) (l : Local) where
  abbrev Fine : Result (Effect ℕ) ErrClass → Type 0
  Fine a = IfOk (Asks l.names) a

  next : {A : Type 0} (a : Result A ErrClass) (f : A → Result (Effect ℕ) ErrClass) → ((u : A) → Fine (f u)) → Fine (and_then a f)
  next a f k = ok_then (Asks l.names) a f k

  -- Sessions, process sets and groups

  binds_found : (members : List ℕ) (session : ℕ) (target : List ℕ) → Fine (binds_group l members session target)
  binds_found members session target = next (free_target l target) _ (λ a. fine _ tt)

  session_found : (target : List ℕ) → Fine (call_session l target)
  session_found target = next (free_target l target) _ (λ a. fine _ tt)

  finalize_found : (name : List ℕ) → Fine (call_finalize around l name)
  finalize_found name =
      next (as_session (bound_of l.names name)) _ (λ a.
      next (refuse_if (around.engaged a) class.Busy) _ (λ b. fine _ tt))

  psets_found : (name : List ℕ) → Fine (call_psets s l name)
  psets_found name = next (as_session (bound_of l.names name)) _ (λ a. fine _ tt)

  nth_found : (name : List ℕ) (number : ℕ) → Fine (call_nth s l name number)
  nth_found name number =
      next (as_session (bound_of l.names name)) _ (λ a.
      next (as_arg (slice_get (names s.psets.sets) number)) _ (λ b. fine _ tt))

  info_found : (name set : List ℕ) → Fine (call_info s r l name set)
  info_found name set =
      next (as_session (bound_of l.names name)) _ (λ a.
      next (as_arg (members_in s.psets.sets r set)) _ (λ b. fine _ tt))

  pset_found : (name set target : List ℕ) → Fine (call_pset s r l name set target)
  pset_found name set target =
      next (as_session (bound_of l.names name)) _ (λ a.
      next (as_arg (members_in s.psets.sets r set)) _ (λ b. binds_found b a target))

  combined_found : (combined : List ℕ → List ℕ → List ℕ) (first second target : List ℕ) → Fine (call_combined combined l first second target)
  combined_found combined first second target = next (two_groups l first second) _ (λ a. binds_found (combined a.0.0 a.1.0) a.0.1 target)

  chosen_found : (chosen : List ℕ → Result (List ℕ) ErrClass) (name target : List ℕ) → Fine (call_chosen chosen l name target)
  chosen_found chosen name target =
      next (as_group (bound_of l.names name)) _ (λ a.
      next (chosen a.0) _ (λ b. binds_found b a.1 target))

  translate_found : (from : List ℕ) (args : List RankArg) (to : List ℕ) → Fine (call_translate l from args to)
  translate_found from args to =
      next (two_groups l from to) _ (λ a.
      next (translated_all a.0.0 args a.1.0) _ (λ b. fine _ tt))

  compare_found : (first second : List ℕ) → Fine (call_compare l first second)
  compare_found first second = next (two_groups l first second) _ (λ a. fine _ tt)

  size_found : (name : List ℕ) → Fine (call_size l name)
  size_found name = next (as_group (bound_of l.names name)) _ (λ a. fine _ tt)

  rank_found : (name : List ℕ) → Fine (call_rank r l name)
  rank_found name = next (as_group (bound_of l.names name)) _ (λ a. fine _ tt)

  gfree_found : (name : List ℕ) → Fine (call_gfree l name)
  gfree_found name = next (as_group (bound_of l.names name)) _ (λ a. fine _ tt)

  -- Creations

  create_found : (group tag target : List ℕ) → Fine (call_create r around l group tag target)
  create_found group tag target =
      next (as_group (bound_of l.names group)) _ (λ a.
      next (refuse_if (lacks a.0 r) class.Group) _ (λ b.
      next (free_target l target) _ (λ c.
      next (refuse_if (around.busy (Grouped a.0 tag)) class.Busy) _ (λ d. fine _ (begins a.0 a.1)))))
    where
      begins : (ms : List ℕ) (session : ℕ) → Asks l.names (begin_creation ms session tag target)
      begins [] session = tt
      begins (z ∷ zs) session = tt

  dup_found : (comm target : List ℕ) → Fine (call_dup l comm target)
  dup_found comm target =
      next (as_comm (bound_of l.names comm)) _ (λ a.
      next (free_target l target) _ (λ b. fine _ tt))

  split_found : (comm : List ℕ) (colour : Option ℤ) (key : ℤ) (target : List ℕ) → Fine (call_split l comm colour key target)
  split_found comm colour key target =
      next (as_comm (bound_of l.names comm)) _ (λ a.
      next (refuse_if (is_negative colour) class.Arg) _ (λ b.
      next (free_target l target) _ (λ c. fine _ tt)))

  create_group_found : (comm group : List ℕ) (tag : ℕ) (target : List ℕ) → Fine (call_create_group r around l comm group tag target)
  create_group_found comm group tag target =
      next (comm_and_group l comm group) _ (λ a.
      next (good_tag tag) _ (λ b.
      next (refuse_if (is_astray (around.members a.0.0) a.1.0 r) class.Group) _ (λ c.
      next (free_target l target) _ (λ d.
      next (refuse_if (around.busy (GroupedOn a.0.0 tag a.1.0)) class.Busy) _ (λ e. fine _ tt)))))

  -- Communicators

  group_found : (comm target : List ℕ) → Fine (call_group around l comm target)
  group_found comm target = next (as_comm (bound_of l.names comm)) _ (λ a. binds_found (around.members a.0) a.1 target)

  ccompare_found : (first second : List ℕ) → Fine (call_ccompare around l first second)
  ccompare_found first second = next (two_comms l first second) _ (λ a. fine _ tt)

  csize_found : (comm : List ℕ) → Fine (call_csize around l comm)
  csize_found comm = next (as_comm (bound_of l.names comm)) _ (λ a. fine _ tt)

  crank_found : (comm : List ℕ) → Fine (call_crank r around l comm)
  crank_found comm = next (as_comm (bound_of l.names comm)) _ (λ a. fine _ tt)

  free_found : (comm : List ℕ) → Fine (call_free l comm)
  free_found comm = next (as_comm (bound_of l.names comm)) _ (λ a. fine _ tt)

  -- Messages

  sending : (c : ℕ) (to : Option ℕ) (tag : ℕ) (payload : List ℕ) → Asks l.names (begin_send c to tag payload)
  sending c None tag payload = tt
  sending c (Some to) tag payload = tt

  send_found : (comm : List ℕ) (to : Option ℕ) (tag : ℕ) (payload : List ℕ) → Fine (call_send around l comm to tag payload)
  send_found comm to tag payload =
      next (as_comm (bound_of l.names comm)) _ (λ a.
      next _ _ (λ b.
      next (good_tag tag) _ (λ c. fine _ (sending a.0 to tag payload))))

  receiving_found : (c : ℕ) (from : SrcArg) (tag : Option ℕ) (room : ℕ) → Asks l.names (begin_receive c from tag room)
  receiving_found c (source.At rank) tag room = tt
  receiving_found c source.Any tag room = tt
  receiving_found c source.Null tag room = tt

  recv_found : (comm : List ℕ) (from : SrcArg) (tag : Option ℕ) (room : ℕ) → Fine (call_recv around l comm from tag room)
  recv_found comm from tag room = next (good_receive around l comm from tag) _ (λ a. fine _ (receiving_found a.0 from tag room))

  requesting : (c : ℕ) (from : SrcArg) (tag : Option ℕ) (room : ℕ) (target : List ℕ) → Asks l.names (begin_request c from tag room target)
  requesting c (source.At rank) tag room target = tt
  requesting c source.Any tag room target = tt
  requesting c source.Null tag room target = tt

  irecv_found : (comm : List ℕ) (from : SrcArg) (tag : Option ℕ) (room : ℕ) (target : List ℕ) → Fine (call_irecv around l comm from tag room target)
  irecv_found comm from tag room target =
      next (good_receive around l comm from tag) _ (λ a.
      next (free_target l target) _ (λ b. fine _ (requesting a.0 from tag room target)))

  wait_found : (name : List ℕ) → Fine (call_wait l name)
  wait_found name = go (bound_of l.names name) refl
    where
      go : (o : Option Bound) → bound_of l.names name ≡ o → Fine (and_then (as_request o) (λ n. Ok (Completes name n)))
      go None e = refused _
      go (Some bound.Reserved) e = refused _
      go (Some (bound.Session a)) e = refused _
      go (Some (bound.Group ms a)) e = refused _
      go (Some (bound.Comm c a)) e = refused _
      go (Some (bound.Request n)) e = fine _ e

  -- Any operation

  called_found : (o : Op) → Fine (call_of s r around l o)
  unfolding call_of
  called_found (op.Session target) = session_found target
  called_found (op.Finalize session) = finalize_found session
  called_found (op.Psets session) = psets_found session
  called_found (op.Nth session number) = nth_found session number
  called_found (op.Info session set) = info_found session set
  called_found (op.Pset session set target) = pset_found session set target
  called_found (op.Union first second target) = combined_found union_of first second target
  called_found (op.Intersect first second target) = combined_found intersection_of first second target
  called_found (op.Difference first second target) = combined_found difference_of first second target
  called_found (op.Incl group ranks target) = chosen_found (λ members. included members ranks) group target
  called_found (op.Excl group ranks target) = chosen_found (λ members. excluded members ranks) group target
  called_found (op.RangeIncl group ranges target) = chosen_found (λ members. range_included members ranges) group target
  called_found (op.RangeExcl group ranges target) = chosen_found (λ members. range_excluded members ranges) group target
  called_found (op.Translate from ranks to) = translate_found from ranks to
  called_found (op.Compare first second) = compare_found first second
  called_found (op.Size group) = size_found group
  called_found (op.Rank group) = rank_found group
  called_found (op.Gfree group) = gfree_found group
  called_found (op.Create group tag target) = create_found group tag target
  called_found (op.Dup comm target) = dup_found comm target
  called_found (op.Split comm colour key target) = split_found comm colour key target
  called_found (op.CreateGroup comm group tag target) = create_group_found comm group tag target
  called_found (op.Group comm target) = group_found comm target
  called_found (op.Ccompare first second) = ccompare_found first second
  called_found (op.Csize comm) = csize_found comm
  called_found (op.Crank comm) = crank_found comm
  called_found (op.Free comm) = free_found comm
  called_found (op.Send comm to tag payload) = send_found comm to tag payload
  called_found (op.Recv comm from tag room) = recv_found comm from tag room
  called_found (op.Irecv comm from tag room target) = irecv_found comm from tag room target
  called_found (op.Wait request) = wait_found request
  called_found (op.Await name) = fine _ tt

  pub asked_of : (o : Op) → Asks l.names (effect_of s r around l o)
  asked_of o = go (call_of s r around l o) (called_found o)
    where
      go : (a : Result (Effect ℕ) ErrClass) → Fine a → Asks l.names (refusal a)
      go _ (fine e h) = h
      go _ (refused c) = tt
