-- What each operation asks of the rank's own objects: its groups stay lists of distinct ranks, and a creation comes from a
-- communicator that is named, or from a group of ranks that has the caller and is not open here.
use Rattle.std.proofs.Common.{◌≡◌, ◌<◌, ◌==◌, not, ℕ, ℤ, Bool, true, false, List, [], ◌∷◌, length, slice_get, Option, Some, None, Result, Ok, Err, refl, arith, bytes_eq}
use Rattle.std.specs.Prelude.{nat_le}
use Rattle.std.proofs.lemmas.Bool.Decides.{nat_tests}
use Rattle.mpi_base.specs.MemberLists.{has_rank}
use Rattle.mpi_base.specs.declared.errors.ErrClass.{ErrClass}
use Rattle.mpi_base.specs.declared.errors.ErrClass.TheVariants as class
use Rattle.mpi_base.specs.declared.messages.SrcArg.{SrcArg}
use Rattle.mpi_base.specs.declared.messages.SrcArg.TheVariants as source
use Rattle.mpi_base.specs.declared.ops.Op.{Op}
use Rattle.mpi_base.specs.declared.ops.Op.TheVariants as op
use Rattle.local_law.specs.Names.{bound_of, bind, unbind}
use Rattle.local_law.specs.Objects as bound
use Rattle.mpi_group.specs.Algebra.{union_of, intersection_of, difference_of, included, excluded, range_included, range_excluded}
use Rattle.mpi_law.specs.declared.setting.Setting.{Setting}
use Rattle.mpi_law.specs.Local.{call_of, refusal, effect_of}
use Rattle.mpi_law.specs.Local.Objects.{Bound, NameRow, Local}
use Rattle.mpi_law.specs.declared.effects.Origin.{Origin}
use Rattle.mpi_law.specs.declared.effects.Origin.TheVariants.{Grouped, Duplicated, Divided, GroupedOn}
use Rattle.mpi_law.specs.declared.effects.Effect.{Effect}
use Rattle.mpi_law.specs.declared.effects.Effect.TheVariants.{Says, Opens, Groups, Ungroups, Joins, Frees, Ends, Sends, Receives, Posts, NullPosts, Completes, Awaits}
use Rattle.mpi_law.specs.Local.Effects.{local_after, Around}
use Rattle.mpi_law.specs.Local.Refusals.{and_then, refuse_if, as_arg, as_session, as_group, as_comm, as_request, one_session, two_groups, two_comms, comm_and_group, GroupOf, CommOf, good_dest, good_tag, free_target}
use Rattle.mpi_base.specs.declared.groups.RankArg.{RankArg}
use Rattle.mpi_law.specs.Local.Groups.{binds_group, call_session, call_finalize, call_psets, call_nth, call_info, call_pset, call_combined, call_chosen, translated_all, call_translate, call_compare, call_size, call_rank, call_gfree}
use Rattle.mpi_law.specs.Local.Comms.{ask, begin_creation, lacks, is_astray, is_negative, call_create, call_dup, call_split, call_create_group, call_group, call_ccompare, call_csize, call_crank, call_free}
use Rattle.mpi_law.specs.Local.Messages.{begin_send, begin_receive, begin_request, good_receive, call_send, call_recv, call_irecv, call_wait}
use Rattle.pset_reg.specs.Sets.{names, members_in}
use Rattle.agree_law.proofs.Lists.{AllOf, AllOf-append, AllOf_filter}
use Rattle.projection_law.specs.Premises.{are_distinct_ranks, SetsAreOfRanks}
use Rattle.projection_law.proofs.Groups.{filter_ranks, union_ranks, RanksOr, included_ranks, excluded_ranks, range_included_ranks, range_excluded_ranks, members_ranks}

-- a group has distinct ranks
abbrev pub GroupFits : ℕ → Bound → Type 0
GroupFits n bound.Reserved = Unit {0}
GroupFits n (bound.Session q) = Unit {0}
GroupFits n (bound.Group ms q) = are_distinct_ranks n ms ≡ true
GroupFits n (bound.Comm c q) = Unit {0}
GroupFits n (bound.Request k) = Unit {0}

-- each group that is named does
abbrev pub GroupsFit : ℕ → List NameRow → Type 0
GroupsFit n names = AllOf (λ (row : NameRow). GroupFits n row.1) names

-- what a creation comes from
abbrev pub OriginFits : ℕ → ℕ → Around → List NameRow → Origin ℕ → Type 0
OriginFits n r around names (Grouped group tag) = (are_distinct_ranks n group ≡ true) × (has_rank group r ≡ true) × (around.busy (Grouped group tag) ≡ false)
OriginFits n r around names (Duplicated c) = (name : List ℕ) × (q : ℕ) × (bound_of names name ≡ Some (bound.Comm c q))
OriginFits n r around names (Divided c share) = (name : List ℕ) × (q : ℕ) × (bound_of names name ≡ Some (bound.Comm c q))
OriginFits n r around names (GroupedOn c tag group) = (are_distinct_ranks n group ≡ true) × (has_rank group r ≡ true) × (around.busy (GroupedOn c tag group) ≡ false)

-- what an effect asks of its rank
abbrev pub EffectFits : ℕ → ℕ → Around → List NameRow → Effect ℕ → Type 0
EffectFits n r around names (Says said) = Unit {0}
EffectFits n r around names (Opens target) = Unit {0}
EffectFits n r around names (Groups target members session) = are_distinct_ranks n members ≡ true
EffectFits n r around names (Ungroups name) = Unit {0}
EffectFits n r around names (Joins a) = OriginFits n r around names a.origin
EffectFits n r around names (Frees name c) = Unit {0}
EffectFits n r around names (Ends name s) = Unit {0}
EffectFits n r around names (Sends m) = m.to < length (around.members m.comm)
EffectFits n r around names (Receives a) = Unit {0}
EffectFits n r around names (Posts target a) = Unit {0}
EffectFits n r around names (NullPosts target) = Unit {0}
EffectFits n r around names (Completes name k) = Unit {0}
EffectFits n r around names (Awaits name) = Unit {0}

-- the groups stay lists of distinct ranks
pub groups_after : (n r : ℕ) (around : Around) (receives : ℕ) (l : Local) (e : Effect ℕ) → GroupsFit n l.names → EffectFits n r around l.names e → GroupsFit n (local_after receives l e).names
groups_after n r around receives l e h f = go e f
  where
    more : (target : List ℕ) (b : Bound) → GroupFits n b → GroupsFit n (bind l.names target b)
    more target b g = AllOf-append (λ (row : NameRow). GroupFits n row.1) l.names ((target, b) ∷ []) h (g, tt)

    fewer : (name : List ℕ) → GroupsFit n (unbind l.names name)
    fewer name = AllOf_filter (λ (row : NameRow). GroupFits n row.1) (λ (row : NameRow). not (bytes_eq row.0 name)) l.names h

    go : (e : Effect ℕ) → EffectFits n r around l.names e → GroupsFit n (local_after receives l e).names
    go (Says said) f = h
    go (Opens target) f = more target _ tt
    go (Groups target members session) f = more target _ f
    go (Ungroups name) f = fewer name
    go (Joins a) f = more a.target _ tt
    go (Frees name c) f = fewer name
    go (Ends name s) f = AllOf_filter (λ (row : NameRow). GroupFits n row.1) _ l.names h
    go (Sends m) f = h
    go (Receives a) f = h
    go (Posts target a) f = more target _ tt
    go (NullPosts target) f = more target _ tt
    go (Completes name k) f = fewer name
    go (Awaits name) f = h

-- Refusals

then_is : {A B : Type 0} (R : Result A ErrClass) (f : A → Result B ErrClass) (v : B) → and_then R f ≡ Ok v → (u : A) × (R ≡ Ok u) × (f u ≡ Ok v)
then_is (Ok u) f v e = (u, refl, e)
then_is (Err c) f v e = absurd (cc (e))

refused_not : (b : Bool) (c : ErrClass) (v : Bool) → refuse_if b c ≡ Ok v → b ≡ false
refused_not true c v e = absurd (cc (e))
refused_not false c v e = refl

pub bound_fits : (P : Bound → Type 0) (names : List NameRow) (name : List ℕ) (b : Bound) → AllOf (λ (row : NameRow). P row.1) names → bound_of names name ≡ Some b → P b
bound_fits P [] name b h e = absurd (cc (e))
bound_fits P (x ∷ xs) name b h e = go (bytes_eq x.0 name) refl (bound_fits P xs name b h.1)
  where
    go : (t : Bool) → bytes_eq x.0 name ≡ t → (bound_of xs name ≡ Some b → P b) → P b
    go true t ih = let is : x.1 ≡ b = (let s : Some x.1 ≡ Some b = grind (arith, t, e) in cc (s)) in rw (← is) h.0
    go false t ih = ih (grind (arith, t, e))

group_is : (o : Option Bound) (v : GroupOf) → as_group o ≡ Ok v → o ≡ Some (bound.Group v.0 v.1)
group_is None v e = absurd (cc (e))
group_is (Some bound.Reserved) v e = absurd (cc (e))
group_is (Some (bound.Session q)) v e = absurd (cc (e))
group_is (Some (bound.Group ms q)) v e = let is : (ms, q) ≡ v = cc (e) in rw (← is) refl
group_is (Some (bound.Comm c q)) v e = absurd (cc (e))
group_is (Some (bound.Request k)) v e = absurd (cc (e))

comm_is : (o : Option Bound) (v : CommOf) → as_comm o ≡ Ok v → o ≡ Some (bound.Comm v.0 v.1)
comm_is None v e = absurd (cc (e))
comm_is (Some bound.Reserved) v e = absurd (cc (e))
comm_is (Some (bound.Session q)) v e = absurd (cc (e))
comm_is (Some (bound.Group ms q)) v e = absurd (cc (e))
comm_is (Some (bound.Comm c q)) v e = let is : (c, q) ≡ v = cc (e) in rw (← is) refl
comm_is (Some (bound.Request k)) v e = absurd (cc (e))

module _ (s : Setting) (r : ℕ) (around : Around) (l : Local) (lt : r < s.ranks) (sets : SetsAreOfRanks s) (h : GroupsFit s.ranks l.names) (members : (c : ℕ) → are_distinct_ranks s.ranks (around.members c) ≡ true) where
  -- an operation that is not refused asks for what fits
  abbrev Fits : Result (Effect ℕ) ErrClass → Type 0
  Fits (Ok e) = EffectFits s.ranks r around l.names e
  Fits (Err c) = Unit {0}

  -- the same as a record, so that it stays closed
  record Meets (R : Result (Effect ℕ) ErrClass) : Type 0 where
    is : Fits R

  ok : {e : Effect ℕ} → EffectFits s.ranks r around l.names e → Meets (Ok e)
  ok f = record { is = f }

  then_fits : {A : Type 0} (R : Result A ErrClass) (f : A → Result (Effect ℕ) ErrClass) → ((v : A) → R ≡ Ok v → Meets (f v)) → Meets (and_then R f)
  then_fits (Ok v) f g = g v refl
  then_fits (Err c) f g = record { is = tt }

  group_ranks : (name : List ℕ) (v : GroupOf) → as_group (bound_of l.names name) ≡ Ok v → are_distinct_ranks s.ranks v.0 ≡ true
  group_ranks name v e = bound_fits (GroupFits s.ranks) l.names name (bound.Group v.0 v.1) h (group_is (bound_of l.names name) v e)

  both_ranks : (first second : List ℕ) (both : GroupOf × GroupOf) → two_groups l first second ≡ Ok both → (are_distinct_ranks s.ranks both.0.0 ≡ true) × (are_distinct_ranks s.ranks both.1.0 ≡ true)
  both_ranks first second both e =
      let a = then_is (as_group (bound_of l.names first)) _ both e in
      let b = then_is (as_group (bound_of l.names second)) _ both a.2 in
      let c = then_is (one_session a.0.1 b.0.1) _ both b.2 in
      let is : (a.0, b.0) ≡ both = (let z = c.2 in cc (z)) in
      rw (← is) (group_ranks first a.0 a.1, group_ranks second b.0 b.1)

  binds : (ms : List ℕ) (session : ℕ) (target : List ℕ) → are_distinct_ranks s.ranks ms ≡ true → Meets (binds_group l ms session target)
  binds ms session target good = then_fits (free_target l target) _ (λ q e. ok good)

  combined : (f : List ℕ → List ℕ → List ℕ) (first second target : List ℕ) → ((xs ys : List ℕ) → are_distinct_ranks s.ranks xs ≡ true → are_distinct_ranks s.ranks ys ≡ true → are_distinct_ranks s.ranks (f xs ys) ≡ true) → Meets (call_combined f l first second target)
  combined f first second target good = then_fits (two_groups l first second) _ (λ both e. let b = both_ranks first second both e in binds (f both.0.0 both.1.0) both.0.1 target (good both.0.0 both.1.0 b.0 b.1))

  chosen : (f : List ℕ → Result (List ℕ) ErrClass) (group target : List ℕ) → ((xs : List ℕ) → are_distinct_ranks s.ranks xs ≡ true → RanksOr s.ranks (f xs)) → Meets (call_chosen f l group target)
  chosen f group target good = then_fits (as_group (bound_of l.names group)) _ (λ g e. then_fits (f g.0) _ (λ ms u. binds ms g.1 target (of (f g.0) ms u (good g.0 (group_ranks group g e)))))
    where
      of : (R : Result (List ℕ) ErrClass) (ms : List ℕ) → R ≡ Ok ms → RanksOr s.ranks R → are_distinct_ranks s.ranks ms ≡ true
      of (Ok xs) ms e f = let is : xs ≡ ms = cc (e) in rw (← is) f
      of (Err c) ms e f = absurd (cc (e))

  asked : (origin : Origin ℕ) (target : List ℕ) (session : ℕ) → OriginFits s.ranks r around l.names origin → Meets (Ok (ask origin target session))
  asked origin target session f = ok f

  creation : (g : GroupOf) (tag target : List ℕ) → are_distinct_ranks s.ranks g.0 ≡ true → lacks g.0 r ≡ false → around.busy (Grouped g.0 tag) ≡ false → Meets (Ok (begin_creation g.0 g.1 tag target))
  creation g tag target good has busy = go g.0 good has busy
    where
      go : (ms : List ℕ) → are_distinct_ranks s.ranks ms ≡ true → lacks ms r ≡ false → around.busy (Grouped ms tag) ≡ false → Meets (Ok (begin_creation ms g.1 tag target))
      go [] good has busy = ok tt
      go (m ∷ ms) good has busy =
          let some : (length (m ∷ ms) == 0) ≡ false = grind (arith, nat_tests) in
          ok (good, grind (arith, has, some), busy)

  sending : (c : ℕ) (to : Option ℕ) (tag : ℕ) (payload : List ℕ) (q : Bool) → good_dest (length (around.members c)) to ≡ Ok q → Meets (Ok (begin_send c to tag payload))
  sending c None tag payload q e = ok tt
  sending c (Some to) tag payload q e = let not_past = refused_not (nat_le (length (around.members c)) to) class.Rank q e in ok (grind (arith, nat_tests, not_past))

  receiving_fits : (c : ℕ) (from : SrcArg) (tag : Option ℕ) (room : ℕ) → Meets (Ok (begin_receive c from tag room))
  receiving_fits c (source.At k) tag room = ok tt
  receiving_fits c source.Any tag room = ok tt
  receiving_fits c source.Null tag room = ok tt

  requesting_fits : (c : ℕ) (from : SrcArg) (tag : Option ℕ) (room : ℕ) (target : List ℕ) → Meets (Ok (begin_request c from tag room target))
  requesting_fits c (source.At k) tag room target = ok tt
  requesting_fits c source.Any tag room target = ok tt
  requesting_fits c source.Null tag room target = ok tt

  arg_is : (o : Option (List ℕ)) (ms : List ℕ) → as_arg o ≡ Ok ms → o ≡ Some ms
  arg_is None ms e = absurd (cc (e))
  arg_is (Some xs) ms e = let is : xs ≡ ms = cc (e) in rw is refl

  of_session : (target : List ℕ) → Meets (call_session l target)
  of_session target = then_fits (free_target l target) _ (λ q e. ok tt)

  of_finalize : (session : List ℕ) → Meets (call_finalize around l session)
  of_finalize session = then_fits (as_session (bound_of l.names session)) _ (λ z e. then_fits (refuse_if (around.engaged z) class.Busy) _ (λ q u. ok tt))

  of_psets : (session : List ℕ) → Meets (call_psets s l session)
  of_psets session = then_fits (as_session (bound_of l.names session)) _ (λ z e. ok tt)

  of_nth : (session : List ℕ) (number : ℕ) → Meets (call_nth s l session number)
  of_nth session number = then_fits (as_session (bound_of l.names session)) _ (λ z e. then_fits (as_arg (slice_get (names s.psets.sets) number)) _ (λ name u. ok tt))

  of_info : (session : List ℕ) (set : List ℕ) → Meets (call_info s r l session set)
  of_info session set = then_fits (as_session (bound_of l.names session)) _ (λ z e. then_fits (as_arg (members_in s.psets.sets r set)) _ (λ ms u. ok tt))

  of_pset : (session : List ℕ) (set : List ℕ) (target : List ℕ) → Meets (call_pset s r l session set target)
  of_pset session set target = then_fits (as_session (bound_of l.names session)) _ (λ z e. then_fits (as_arg (members_in s.psets.sets r set)) _ (λ ms u. binds ms z target (members_ranks s.ranks s.psets.sets r set ms sets lt (arg_is _ ms u))))

  of_translate : (from : List ℕ) (ranks : List RankArg) (to : List ℕ) → Meets (call_translate l from ranks to)
  of_translate from ranks to = then_fits (two_groups l from to) _ (λ both e. then_fits (translated_all both.0.0 ranks both.1.0) _ (λ outs u. ok tt))

  of_compare : (first : List ℕ) (second : List ℕ) → Meets (call_compare l first second)
  of_compare first second = then_fits (two_groups l first second) _ (λ both e. ok tt)

  of_size : (group : List ℕ) → Meets (call_size l group)
  of_size group = then_fits (as_group (bound_of l.names group)) _ (λ g e. ok tt)

  of_rank : (group : List ℕ) → Meets (call_rank r l group)
  of_rank group = then_fits (as_group (bound_of l.names group)) _ (λ g e. ok tt)

  of_gfree : (group : List ℕ) → Meets (call_gfree l group)
  of_gfree group = then_fits (as_group (bound_of l.names group)) _ (λ g e. ok tt)

  of_create : (group : List ℕ) (tag : List ℕ) (target : List ℕ) → Meets (call_create r around l group tag target)
  of_create group tag target =
      then_fits (as_group (bound_of l.names group)) _ (λ g e. then_fits (refuse_if (lacks g.0 r) class.Group) _ (λ q u. then_fits (free_target l target) _ (λ q' v. then_fits (refuse_if (around.busy (Grouped g.0 tag)) class.Busy) _
      (λ q'' z. creation g tag target (group_ranks group g e) (refused_not (lacks g.0 r) class.Group q u) (refused_not _ class.Busy q'' z)))))

  of_dup : (comm : List ℕ) (target : List ℕ) → Meets (call_dup l comm target)
  of_dup comm target = then_fits (as_comm (bound_of l.names comm)) _ (λ c e. then_fits (free_target l target) _ (λ q u. asked (Duplicated c.0) target c.1 (comm, c.1, comm_is _ c e)))

  of_split : (comm : List ℕ) (colour : Option ℤ) (key : ℤ) (target : List ℕ) → Meets (call_split l comm colour key target)
  of_split comm colour key target =
      then_fits (as_comm (bound_of l.names comm)) _ (λ c e. then_fits (refuse_if (is_negative colour) class.Arg) _ (λ q u. then_fits (free_target l target) _ (λ q' v. asked (Divided c.0 (record { colour = colour; key = key })) target c.1 (comm, c.1, comm_is _ c e))))

  of_create_group : (comm : List ℕ) (group : List ℕ) (tag : ℕ) (target : List ℕ) → Meets (call_create_group r around l comm group tag target)
  of_create_group comm group tag target =
      then_fits (comm_and_group l comm group) _ (λ both e. then_fits (good_tag tag) _ (λ q u. then_fits (refuse_if (is_astray (around.members both.0.0) both.1.0 r) class.Group) _ (λ q' v. then_fits (free_target l target) _ (λ q'' y.
      then_fits (refuse_if (around.busy (GroupedOn both.0.0 tag both.1.0)) class.Busy) _ (λ q''' z.
      (let g = grouped comm group both e in
      let a = refused_not _ class.Group q' v in
      asked (GroupedOn both.0.0 tag both.1.0) target both.0.1 (g, grind (arith, a), refused_not _ class.Busy q''' z)))))))
    where
      grouped : (comm group : List ℕ) (both : CommOf × GroupOf) → comm_and_group l comm group ≡ Ok both → are_distinct_ranks s.ranks both.1.0 ≡ true
      grouped comm group both e =
          let a = then_is (as_comm (bound_of l.names comm)) _ both e in
          let b = then_is (as_group (bound_of l.names group)) _ both a.2 in
          let c = then_is (one_session a.0.1 b.0.1) _ both b.2 in
          let is : (a.0, b.0) ≡ both = (let z = c.2 in cc (z)) in
          rw (← is) (group_ranks group b.0 b.1)

  of_group : (comm : List ℕ) (target : List ℕ) → Meets (call_group around l comm target)
  of_group comm target = then_fits (as_comm (bound_of l.names comm)) _ (λ c e. binds (around.members c.0) c.1 target (members c.0))

  of_ccompare : (first : List ℕ) (second : List ℕ) → Meets (call_ccompare around l first second)
  of_ccompare first second = then_fits (two_comms l first second) _ (λ both e. ok tt)

  of_csize : (comm : List ℕ) → Meets (call_csize around l comm)
  of_csize comm = then_fits (as_comm (bound_of l.names comm)) _ (λ c e. ok tt)

  of_crank : (comm : List ℕ) → Meets (call_crank r around l comm)
  of_crank comm = then_fits (as_comm (bound_of l.names comm)) _ (λ c e. ok tt)

  of_free : (comm : List ℕ) → Meets (call_free l comm)
  of_free comm = then_fits (as_comm (bound_of l.names comm)) _ (λ c e. ok tt)

  of_send : (comm : List ℕ) (to : Option ℕ) (tag : ℕ) (payload : List ℕ) → Meets (call_send around l comm to tag payload)
  of_send comm to tag payload = then_fits (as_comm (bound_of l.names comm)) _ (λ c e. then_fits (good_dest (length (around.members c.0)) to) _ (λ q u. then_fits (good_tag tag) _ (λ q' v. sending c.0 to tag payload q u)))

  of_recv : (comm : List ℕ) (from : SrcArg) (tag : Option ℕ) (room : ℕ) → Meets (call_recv around l comm from tag room)
  of_recv comm from tag room = then_fits (good_receive around l comm from tag) _ (λ c e. receiving_fits c.0 from tag room)

  of_irecv : (comm : List ℕ) (from : SrcArg) (tag : Option ℕ) (room : ℕ) (target : List ℕ) → Meets (call_irecv around l comm from tag room target)
  of_irecv comm from tag room target = then_fits (good_receive around l comm from tag) _ (λ c e. then_fits (free_target l target) _ (λ q u. requesting_fits c.0 from tag room target))

  of_wait : (request : List ℕ) → Meets (call_wait l request)
  of_wait request = then_fits (as_request (bound_of l.names request)) _ (λ k e. ok tt)

  call_fits : (o : Op) → Meets (call_of s r around l o)
  unfolding call_of
  call_fits (op.Session target) = of_session target
  call_fits (op.Finalize session) = of_finalize session
  call_fits (op.Psets session) = of_psets session
  call_fits (op.Nth session number) = of_nth session number
  call_fits (op.Info session set) = of_info session set
  call_fits (op.Pset session set target) = of_pset session set target
  call_fits (op.Union first second target) = combined union_of first second target (λ xs ys a b. union_ranks s.ranks xs ys a b)
  call_fits (op.Intersect first second target) = combined intersection_of first second target (λ xs ys a b. filter_ranks s.ranks (λ m. has_rank ys m) xs a)
  call_fits (op.Difference first second target) = combined difference_of first second target (λ xs ys a b. filter_ranks s.ranks (λ m. not (has_rank ys m)) xs a)
  call_fits (op.Incl group ranks target) = chosen (λ ms. included ms ranks) group target (λ xs a. included_ranks s.ranks xs ranks a)
  call_fits (op.Excl group ranks target) = chosen (λ ms. excluded ms ranks) group target (λ xs a. excluded_ranks s.ranks xs ranks a)
  call_fits (op.RangeIncl group ranges target) = chosen (λ ms. range_included ms ranges) group target (λ xs a. range_included_ranks s.ranks xs ranges a)
  call_fits (op.RangeExcl group ranges target) = chosen (λ ms. range_excluded ms ranges) group target (λ xs a. range_excluded_ranks s.ranks xs ranges a)
  call_fits (op.Translate from ranks to) = of_translate from ranks to
  call_fits (op.Compare first second) = of_compare first second
  call_fits (op.Size group) = of_size group
  call_fits (op.Rank group) = of_rank group
  call_fits (op.Gfree group) = of_gfree group
  call_fits (op.Create group tag target) = of_create group tag target
  call_fits (op.Dup comm target) = of_dup comm target
  call_fits (op.Split comm colour key target) = of_split comm colour key target
  call_fits (op.CreateGroup comm group tag target) = of_create_group comm group tag target
  call_fits (op.Group comm target) = of_group comm target
  call_fits (op.Ccompare first second) = of_ccompare first second
  call_fits (op.Csize comm) = of_csize comm
  call_fits (op.Crank comm) = of_crank comm
  call_fits (op.Free comm) = of_free comm
  call_fits (op.Send comm to tag payload) = of_send comm to tag payload
  call_fits (op.Recv comm from tag room) = of_recv comm from tag room
  call_fits (op.Irecv comm from tag room target) = of_irecv comm from tag room target
  call_fits (op.Wait request) = of_wait request
  call_fits (op.Await name) = ok tt

  pub effect_fits : (o : Op) → EffectFits s.ranks r around l.names (effect_of s r around l o)
  effect_fits o = go (call_of s r around l o) (call_fits o).is
    where
      go : (R : Result (Effect ℕ) ErrClass) → Fits R → EffectFits s.ranks r around l.names (refusal R)
      go (Ok e) f = f
      go (Err c) f = tt
