-- What an operation does is the same at a rank and in the registry, up to how the communicator is named: by its context at
-- the rank, by its place in the registry. With each effect comes what the operation has found before it.
use Rattle.std.proofs.Common.{◌≡◌, ◌<◌, ℕ, ◌==◌, not, nat_le, Bool, true, false, List, [], ◌∷◌, length, Option, Some, None, refl, ap, arith}
use Rattle.std.specs.Prelude.{ℤ, Result, Ok, Err, slice_get}
use Rattle.std.specs.Option.{is_some}
use Rattle.std.proofs.lemmas.Bool.Decides.{nat_tests}
use Rattle.mpi_base.specs.declared.errors.ErrClass.{ErrClass}
use Rattle.mpi_base.specs.declared.errors.ErrClass.TheVariants as class
use Rattle.mpi_base.specs.declared.shares.Shared1.{Shared1}
use Rattle.mpi_base.specs.declared.groups.RankArg.{RankArg}
use Rattle.mpi_base.specs.declared.messages.SrcArg.{SrcArg}
use Rattle.mpi_base.specs.declared.messages.SrcArg.TheVariants as source
use Rattle.mpi_base.specs.declared.ops.Op.{Op}
use Rattle.mpi_base.specs.declared.ops.Op.TheVariants as op
use Rattle.mpi_base.specs.declared.replies.Reply.{Reply}
use Rattle.pset_reg.specs.Sets.{names, members_in}
use Rattle.mpi_group.specs.Algebra.{union_of, intersection_of, difference_of, included, excluded, range_included, range_excluded}
use Rattle.local_law.specs.Names.{bound_of}
use Rattle.local_law.specs.Objects as bound
use Rattle.mpi_law.specs.declared.setting.Setting.{Setting}
use Rattle.mpi_law.specs.declared.effects.Origin.TheVariants.{Grouped, Duplicated, Divided, GroupedOn}
use Rattle.mpi_law.specs.declared.effects.Effect.{Effect}
use Rattle.mpi_law.specs.declared.effects.Effect.TheVariants.{Says, Opens, Groups, Ungroups, Frees, Ends, Sends, Receives, Posts, NullPosts, Completes, Awaits}
use Rattle.mpi_law.specs.Local.Objects.{Local, Bound}
use Rattle.mpi_law.specs.Local.Refusals.{and_then, refuse_if, as_arg, good_tag, good_any_tag, good_source, CommOf, GroupOf, as_session, as_group, as_comm, as_request, two_groups, two_comms, comm_and_group, free_target}
use Rattle.mpi_law.specs.Local.Groups.{binds_group, call_session, call_finalize, call_psets, call_nth, call_info, call_pset, call_combined, call_chosen, translated_all, call_translate, call_compare, call_size, call_rank, call_gfree}
use Rattle.mpi_law.specs.Local.Comms.{lacks, ask, begin_creation, is_astray, is_negative, call_create, call_dup, call_split, call_create_group, call_group, call_ccompare, call_csize, call_crank, call_free}
use Rattle.mpi_law.specs.Local.Messages.{begin_receive, begin_request, receiving, good_receive, call_send, call_recv, call_irecv, call_wait}
use Rattle.mpi_law.specs.Local.{call_of, refusal, effect_of}
use Rattle.mpi_law.specs.Registry.State.{Registry, Group_and_tag, Group_on, part_of}
use Rattle.mpi_law.specs.Registry.Creations.{is_open, has_open_of as reg_has_open_of}
use Rattle.mpi_law.specs.Registry.State as reg
use Rattle.mpi_law.specs.Registry.Calls.{around, effect_at}
use Rattle.comm_law.specs.Comms.{comm_at}
use Rattle.mpi_protocol.specs.Rank.{Rank}
use Rattle.mpi_protocol.specs.OpenHere.{is_open_here, has_open_of}
use Rattle.mpi_protocol.specs.Calls.{key_from, key_under, around_here}
use Rattle.due_law.specs.Dues.{Dues}
use Rattle.run_law.proofs.Locals.{CommNamed}
use Rattle.run_law.proofs.KnownHere.{members_agree, contexts_agree}
use Rattle.run_law.proofs.OpenHere.{open_agrees, open_on_agrees, engaged_agrees}
use Rattle.run_law.proofs.Joined.{rank_in, Joined}
use Rattle.run_law.proofs.Bindings.{BothBound, neither, both, bound-fits}

-- two results that are refused alike, or are related
pub data Both {A B : Type 0} (R : A → B → Type 0) : Result A ErrClass → Result B ErrClass → Type 0 where
  refused : (e : ErrClass) → Both R (Err e) (Err e)
  fine : (u : A) (v : B) → R u v → Both R (Ok u) (Ok v)

both_then : {A B C D : Type 0} (R : A → B → Type 0) (Q : C → D → Type 0) (a : Result A ErrClass) (b : Result B ErrClass) (f : A → Result C ErrClass) (h : B → Result D ErrClass) → Both R a b → ((u : A) (v : B) → R u v → Both Q (f u) (h v)) → Both Q (and_then a f) (and_then b h)
both_then R Q _ _ f h (refused e) k = refused e
both_then R Q _ _ f h (fine u v w) k = k u v w

both_refuse : (a b : Bool) (e : ErrClass) → b ≡ a → Both (λ (u v : Bool). a ≡ false) (refuse_if a e) (refuse_if b e)
both_refuse true b e q = rw q (refused e)
both_refuse false b e q = rw q (fine true true refl)

both_same : {A : Type 0} (a : Result A ErrClass) → Both (λ (u v : A). v ≡ u) a a
both_same (Err e) = refused e
both_same (Ok v) = fine v v refl

module _ (s : Setting) (ranks : List Rank) (due : Dues) (g : Registry) (r : ℕ) (j : Joined s ranks due g) where
  abbrev x : Rank
  x = rank_in ranks r

  abbrev l : Local
  l = x.local

  abbrev m : Local
  m = (part_of g r).local

  -- a communicator that a name is bound to, by its context and by its place
  abbrev Named : ℕ → ℕ → ℕ → Type 0
  Named c p session = CommNamed g.comms x.comms.rows r c session p session

  abbrev Free : List ℕ → Type 0
  Free target = is_some (bound_of l.names target) ≡ false

  -- what a call does at the rank, and in the registry
  pub data Alike : Effect ℕ → Effect ℕ → Type 0 where
    says : (said : Reply) → Alike (Says said) (Says said)
    opens : (target : List ℕ) → Free target → Alike (Opens target) (Opens target)
    groups : (target members : List ℕ) (session : ℕ) → Free target → Alike (Groups target members session) (Groups target members session)
    ungroups : (name : List ℕ) → Alike (Ungroups name) (Ungroups name)
    grouped : (z : ℕ) (zs tag target : List ℕ) (session : ℕ) → lacks (z ∷ zs) r ≡ false → Free target → is_open_here x (key_from (z ∷ zs) tag) ≡ false → Alike (ask (Grouped (z ∷ zs) tag) target session) (ask (Grouped (z ∷ zs) tag) target session)
    duplicated : (c p session : ℕ) (target : List ℕ) → Named c p session → Free target → Alike (ask (Duplicated c) target session) (ask (Duplicated p) target session)
    divided : (c p session : ℕ) (share : Shared1) (target : List ℕ) → Named c p session → Free target → Alike (ask (Divided c share) target session) (ask (Divided p share) target session)
    grouped_on : (c p session tag : ℕ) (ms target : List ℕ) → Named c p session → is_astray (reg.comm_at g p).members ms r ≡ false → Free target → is_open_here x (key_under c tag ms) ≡ false
        → Alike (ask (GroupedOn c tag ms) target session) (ask (GroupedOn p tag ms) target session)
    frees : (name : List ℕ) (c p session : ℕ) → Named c p session → bound_of l.names name ≡ Some (bound.Comm c session) → Alike (Frees name c) (Frees name p)
    ends : (name : List ℕ) (session : ℕ) → has_open_of x session ≡ false → Alike (Ends name session) (Ends name session)
    sends : (c p session to tag : ℕ) (payload : List ℕ) → Named c p session → to < length (reg.comm_at g p).members → Alike (Sends (record { comm = c; to = to; tag = tag; payload = payload })) (Sends (record { comm = p; to = to; tag = tag; payload = payload }))
    receives : (c p session : ℕ) (from tag : Option ℕ) (room : ℕ) → Named c p session → Alike (Receives (receiving c from tag room)) (Receives (receiving p from tag room))
    posts : (c p session : ℕ) (from tag : Option ℕ) (room : ℕ) (target : List ℕ) → Named c p session → Free target → Alike (Posts target (receiving c from tag room)) (Posts target (receiving p from tag room))
    null_posts : (target : List ℕ) → Free target → Alike (NullPosts target) (NullPosts target)
    completes : (name : List ℕ) (number : ℕ) → Alike (Completes name number) (Completes name number)
    awaits : (name : List ℕ) → Alike (Awaits name) (Awaits name)

  abbrev Ends_alike : Result (Effect ℕ) ErrClass → Result (Effect ℕ) ErrClass → Type 0
  Ends_alike = Both Alike

  -- What names are bound to

  bound_at : (name : List ℕ) → BothBound g.comms x.comms.rows r (bound_of l.names name) (bound_of m.names name)
  bound_at name = bound-fits g.comms x.comms.rows r l.names m.names name (j.locals r).names

  session_is : {a b : Option Bound} → BothBound g.comms x.comms.rows r a b → as_session b ≡ as_session a
  session_is (neither) = refl
  session_is (both bound.Reserved bound.Reserved h) = refl
  session_is (both (bound.Session s) (bound.Session q) h) = rw h refl
  session_is (both (bound.Group ms s) (bound.Group ns q) h) = refl
  session_is (both (bound.Comm c s) (bound.Comm p q) h) = refl
  session_is (both (bound.Request i) (bound.Request k) h) = refl
  session_is (both a b h) = absurd h

  group_is : {a b : Option Bound} → BothBound g.comms x.comms.rows r a b → as_group b ≡ as_group a
  group_is (neither) = refl
  group_is (both bound.Reserved bound.Reserved h) = refl
  group_is (both (bound.Session s) (bound.Session q) h) = refl
  group_is (both (bound.Group ms s) (bound.Group ns q) h) = rw (h.0, h.1) refl
  group_is (both (bound.Comm c s) (bound.Comm p q) h) = refl
  group_is (both (bound.Request i) (bound.Request k) h) = refl
  group_is (both a b h) = absurd h

  request_is : {a b : Option Bound} → BothBound g.comms x.comms.rows r a b → as_request b ≡ as_request a
  request_is (neither) = refl
  request_is (both bound.Reserved bound.Reserved h) = refl
  request_is (both (bound.Session s) (bound.Session q) h) = refl
  request_is (both (bound.Group ms s) (bound.Group ns q) h) = refl
  request_is (both (bound.Comm c s) (bound.Comm p q) h) = refl
  request_is (both (bound.Request i) (bound.Request k) h) = rw h refl
  request_is (both a b h) = absurd h

  some_is : {a b : Option Bound} → BothBound g.comms x.comms.rows r a b → is_some b ≡ is_some a
  some_is (neither) = refl
  some_is (both a b h) = refl

  session_same : (name : List ℕ) → as_session (bound_of m.names name) ≡ as_session (bound_of l.names name)
  session_same name = session_is (bound_at name)

  group_same : (name : List ℕ) → as_group (bound_of m.names name) ≡ as_group (bound_of l.names name)
  group_same name = group_is (bound_at name)

  request_same : (name : List ℕ) → as_request (bound_of m.names name) ≡ as_request (bound_of l.names name)
  request_same name = request_is (bound_at name)

  free_same : (target : List ℕ) → free_target m target ≡ free_target l target
  free_same target = ap (λ (b : Bool). refuse_if b class.Arg) (some_is (bound_at target))

  free_both : (target : List ℕ) → Both (λ (u v : Bool). Free target) (free_target l target) (free_target m target)
  free_both target = both_refuse (is_some (bound_of l.names target)) (is_some (bound_of m.names target)) class.Arg (some_is (bound_at target))

  -- a communicator
  pub record BothComms (name : List ℕ) (u v : CommOf) : Type 0 where
    pub session : v.1 ≡ u.1
    pub named : Named u.0 v.0 u.1
    pub bound : bound_of l.names name ≡ Some (bound.Comm u.0 u.1)

  comm_both : (name : List ℕ) → Both (BothComms name) (as_comm (bound_of l.names name)) (as_comm (bound_of m.names name))
  comm_both name = go (bound_of l.names name) (bound_of m.names name) refl (bound_at name)
    where
      go : (a b : Option Bound) → bound_of l.names name ≡ a → BothBound g.comms x.comms.rows r a b → Both (BothComms name) (as_comm a) (as_comm b)
      go _ _ e (neither) = refused class.Comm
      go _ _ e (both bound.Reserved bound.Reserved h) = refused class.Comm
      go _ _ e (both (bound.Session s) (bound.Session q) h) = refused class.Comm
      go _ _ e (both (bound.Group ms s) (bound.Group ns q) h) = refused class.Comm
      go _ _ e (both (bound.Comm c s) (bound.Comm p q) h) = fine (c, s) (p, q) (record { session = h.session; named = record { session = refl; stands = h.stands; kept = h.kept; known = h.known; of_session = h.of_session }; bound = e })
      go _ _ e (both (bound.Request i) (bound.Request k) h) = refused class.Comm
      go _ _ e (both a b h) = absurd h

  -- Sessions, process sets and groups

  binds_alike : (members : List ℕ) (session : ℕ) (target : List ℕ) → Ends_alike (binds_group l members session target) (binds_group m members session target)
  binds_alike members session target = both_then _ Alike _ _ _ _ (free_both target) (λ u v free. fine _ _ (groups target members session free))

  session_alike : (target : List ℕ) → Ends_alike (call_session l target) (call_session m target)
  session_alike target = both_then _ Alike _ _ _ _ (free_both target) (λ u v free. fine _ _ (opens target free))

  finalize_alike : (name : List ℕ) → Ends_alike (call_finalize (around_here x) l name) (call_finalize (around g r) m name)
  finalize_alike name =
      rw (session_same name)
      (both_then _ Alike _ _ _ _ (both_same (as_session (bound_of l.names name))) (λ u v same. rw same
      (both_then _ Alike _ _ _ _ (both_refuse (has_open_of x u) (reg_has_open_of g r u) class.Busy (engaged_agrees s ranks due g r j u)) (λ w z engaged. fine _ _ (ends name u engaged)))))

  psets_alike : (name : List ℕ) → Ends_alike (call_psets s l name) (call_psets s m name)
  psets_alike name = rw (session_same name) (both_then _ Alike _ _ _ _ (both_same (as_session (bound_of l.names name))) (λ u v same. fine _ _ (says _)))

  nth_alike : (name : List ℕ) (number : ℕ) → Ends_alike (call_nth s l name number) (call_nth s m name number)
  nth_alike name number =
      rw (session_same name)
      (both_then _ Alike _ _ _ _ (both_same (as_session (bound_of l.names name))) (λ u v same.
      both_then _ Alike _ _ _ _ (both_same (as_arg (slice_get (names s.psets.sets) number))) (λ w z is. rw is (fine _ _ (says _)))))

  info_alike : (name set : List ℕ) → Ends_alike (call_info s r l name set) (call_info s r m name set)
  info_alike name set =
      rw (session_same name)
      (both_then _ Alike _ _ _ _ (both_same (as_session (bound_of l.names name))) (λ u v same.
      both_then _ Alike _ _ _ _ (both_same (as_arg (members_in s.psets.sets r set))) (λ w z is. rw is (fine _ _ (says _)))))

  pset_alike : (name set target : List ℕ) → Ends_alike (call_pset s r l name set target) (call_pset s r m name set target)
  pset_alike name set target =
      rw (session_same name)
      (both_then _ Alike _ _ _ _ (both_same (as_session (bound_of l.names name))) (λ u v same. rw same
      (both_then _ Alike _ _ _ _ (both_same (as_arg (members_in s.psets.sets r set))) (λ w z is. rw is (binds_alike w u target)))))

  groups_same : (first second : List ℕ) → two_groups m first second ≡ two_groups l first second
  groups_same first second = rw (group_same first, group_same second) refl

  combined_alike : (combined : List ℕ → List ℕ → List ℕ) (first second target : List ℕ) → Ends_alike (call_combined combined l first second target) (call_combined combined m first second target)
  combined_alike combined first second target =
      rw (groups_same first second)
      (both_then _ Alike _ _ _ _ (both_same (two_groups l first second)) (λ u v same. rw same (binds_alike (combined u.0.0 u.1.0) u.0.1 target)))

  chosen_alike : (chosen : List ℕ → Result (List ℕ) ErrClass) (name target : List ℕ) → Ends_alike (call_chosen chosen l name target) (call_chosen chosen m name target)
  chosen_alike chosen name target =
      rw (group_same name)
      (both_then _ Alike _ _ _ _ (both_same (as_group (bound_of l.names name))) (λ u v same. rw same
      (both_then _ Alike _ _ _ _ (both_same (chosen u.0)) (λ w z is. rw is (binds_alike w u.1 target)))))

  translate_alike : (from : List ℕ) (args : List RankArg) (to : List ℕ) → Ends_alike (call_translate l from args to) (call_translate m from args to)
  translate_alike from args to =
      rw (groups_same from to)
      (both_then _ Alike _ _ _ _ (both_same (two_groups l from to)) (λ u v same. rw same
      (both_then _ Alike _ _ _ _ (both_same (translated_all u.0.0 args u.1.0)) (λ w z is. rw is (fine _ _ (says _))))))

  compare_alike : (first second : List ℕ) → Ends_alike (call_compare l first second) (call_compare m first second)
  compare_alike first second = rw (groups_same first second) (both_then _ Alike _ _ _ _ (both_same (two_groups l first second)) (λ u v same. rw same (fine _ _ (says _))))

  size_alike : (name : List ℕ) → Ends_alike (call_size l name) (call_size m name)
  size_alike name = rw (group_same name) (both_then _ Alike _ _ _ _ (both_same (as_group (bound_of l.names name))) (λ u v same. rw same (fine _ _ (says _))))

  rank_alike : (name : List ℕ) → Ends_alike (call_rank r l name) (call_rank r m name)
  rank_alike name = rw (group_same name) (both_then _ Alike _ _ _ _ (both_same (as_group (bound_of l.names name))) (λ u v same. rw same (fine _ _ (says _))))

  gfree_alike : (name : List ℕ) → Ends_alike (call_gfree l name) (call_gfree m name)
  gfree_alike name = rw (group_same name) (both_then _ Alike _ _ _ _ (both_same (as_group (bound_of l.names name))) (λ u v same. fine _ _ (ungroups name)))

  -- Creations

  create_alike : (group tag target : List ℕ) → Ends_alike (call_create r (around_here x) l group tag target) (call_create r (around g r) m group tag target)
  create_alike group tag target =
      rw (group_same group)
      (both_then _ Alike _ _ _ _ (both_same (as_group (bound_of l.names group))) (λ u v same. rw same
      (both_then _ Alike _ _ _ _ (both_refuse (lacks u.0 r) (lacks u.0 r) class.Group refl) (λ a a' here.
      both_then _ Alike _ _ _ _ (free_both target) (λ b b' free.
      both_then _ Alike _ _ _ _ (both_refuse (is_open_here x (key_from u.0 tag)) (is_open g r (Group_and_tag u.0 tag)) class.Busy (open_agrees s ranks due g r j u.0 tag)) (λ c c' apart. fine _ _ (begins u.0 u.1 here free apart)))))))
    where
      begins : (ms : List ℕ) (session : ℕ) → lacks ms r ≡ false → Free target → is_open_here x (key_from ms tag) ≡ false → Alike (begin_creation ms session tag target) (begin_creation ms session tag target)
      begins [] session a b c = says _
      begins (z ∷ zs) session a b c = grouped z zs tag target session a b c

  dup_alike : (comm target : List ℕ) → Ends_alike (call_dup l comm target) (call_dup m comm target)
  dup_alike comm target =
      both_then _ Alike _ _ _ _ (comm_both comm) (λ u v h. rw h.session
      (both_then _ Alike _ _ _ _ (free_both target) (λ b b' free. fine _ _ (duplicated u.0 v.0 u.1 target h.named free))))

  split_alike : (comm : List ℕ) (colour : Option ℤ) (key : ℤ) (target : List ℕ) → Ends_alike (call_split l comm colour key target) (call_split m comm colour key target)
  split_alike comm colour key target =
      both_then _ Alike _ _ _ _ (comm_both comm) (λ u v h. rw h.session
      (both_then _ Alike _ _ _ _ (both_refuse (is_negative colour) (is_negative colour) class.Arg refl) (λ a a' good.
      both_then _ Alike _ _ _ _ (free_both target) (λ b b' free. fine _ _ (divided u.0 v.0 u.1 (record { colour = colour; key = key }) target h.named free)))))

  -- a communicator and a group of one session
  record BothGroups (name : List ℕ) (u v : CommOf × GroupOf) : Type 0 where
    pub comms : BothComms name u.0 v.0
    pub group : v.1 ≡ u.1

  comm_and_group_both : (comm group : List ℕ) → Both (BothGroups comm) (comm_and_group l comm group) (comm_and_group m comm group)
  comm_and_group_both comm group =
      rw (group_same group)
      (both_then _ (BothGroups comm) _ _ _ _ (comm_both comm) (λ u v h.
      both_then _ (BothGroups comm) _ _ _ _ (both_same (as_group (bound_of l.names group))) (λ w z is. rw is
      (both_then _ (BothGroups comm) _ _ _ _ (both_refuse (not (u.1 == w.1)) (not (v.1 == w.1)) class.Session (ap (λ (n : ℕ). not (n == w.1)) h.session)) (λ a a' one. fine (u, w) (v, w) (record { comms = h; group = refl }))))))

  create_group_alike : (comm group : List ℕ) (tag : ℕ) (target : List ℕ) → Ends_alike (call_create_group r (around_here x) l comm group tag target) (call_create_group r (around g r) m comm group tag target)
  create_group_alike comm group tag target =
      both_then _ Alike _ _ _ _ (comm_and_group_both comm group) (λ u v h. rw (h.group, h.comms.session)
      (both_then _ Alike _ _ _ _ (both_same (good_tag tag)) (λ a a' good.
      both_then _ Alike _ _ _ _ (astray u v h) (λ b b' within.
      both_then _ Alike _ _ _ _ (free_both target) (λ c c' free.
      both_then _ Alike _ _ _ _ (both_refuse (is_open_here x (key_under u.0.0 tag u.1.0)) (is_open g r (Group_on v.0.0 tag u.1.0)) class.Busy (open_on_agrees s ranks due g r j u.0.0 v.0.0 tag u.1.0 h.comms.named.stands)) (λ d d' apart.
      fine _ _ (grouped_on u.0.0 v.0.0 u.0.1 tag u.1.0 target h.comms.named within free apart)))))))
    where
      astray : (u v : CommOf × GroupOf) → BothGroups comm u v
          → Both (λ (a b : Bool). is_astray (reg.comm_at g v.0.0).members u.1.0 r ≡ false) (refuse_if (is_astray (comm_at x.comms u.0.0).members u.1.0 r) class.Group) (refuse_if (is_astray (reg.comm_at g v.0.0).members u.1.0 r) class.Group)
      astray u v h = rw (members_agree s ranks due g r j u.0.0 u.0.1 v.0.0 u.0.1 h.comms.named) (both_refuse _ _ class.Group refl)

  -- Communicators

  group_alike : (comm target : List ℕ) → Ends_alike (call_group (around_here x) l comm target) (call_group (around g r) m comm target)
  group_alike comm target =
      both_then _ Alike _ _ _ _ (comm_both comm) (λ u v h.
      rw (h.session, members_agree s ranks due g r j u.0 u.1 v.0 u.1 h.named) (binds_alike (reg.comm_at g v.0).members u.1 target))

  record BothTwo (first second : List ℕ) (u v : CommOf × CommOf) : Type 0 where
    pub one : BothComms first u.0 v.0
    pub two : BothComms second u.1 v.1

  two_comms_both : (first second : List ℕ) → Both (BothTwo first second) (two_comms l first second) (two_comms m first second)
  two_comms_both first second =
      both_then _ (BothTwo first second) _ _ _ _ (comm_both first) (λ u v h.
      both_then _ (BothTwo first second) _ _ _ _ (comm_both second) (λ w z k.
      both_then _ (BothTwo first second) _ _ _ _ (both_refuse (not (u.1 == w.1)) (not (v.1 == z.1)) class.Session (rw (h.session, k.session) refl)) (λ a a' one. fine (u, w) (v, z) (record { one = h; two = k }))))

  ccompare_alike : (first second : List ℕ) → Ends_alike (call_ccompare (around_here x) l first second) (call_ccompare (around g r) m first second)
  ccompare_alike first second =
      both_then _ Alike _ _ _ _ (two_comms_both first second) (λ u v h.
      rw (contexts_agree s ranks due g r u.0.0 u.1.0 v.0.0 v.1.0 h.one.named.stands h.two.named.stands, members_agree s ranks due g r j u.0.0 u.0.1 v.0.0 u.0.1 h.one.named, members_agree s ranks due g r j u.1.0 u.1.1 v.1.0 u.1.1 h.two.named)
      (fine _ _ (says _)))

  csize_alike : (comm : List ℕ) → Ends_alike (call_csize (around_here x) l comm) (call_csize (around g r) m comm)
  csize_alike comm = both_then _ Alike _ _ _ _ (comm_both comm) (λ u v h. rw (members_agree s ranks due g r j u.0 u.1 v.0 u.1 h.named) (fine _ _ (says _)))

  crank_alike : (comm : List ℕ) → Ends_alike (call_crank r (around_here x) l comm) (call_crank r (around g r) m comm)
  crank_alike comm = both_then _ Alike _ _ _ _ (comm_both comm) (λ u v h. rw (members_agree s ranks due g r j u.0 u.1 v.0 u.1 h.named) (fine _ _ (says _)))

  free_alike : (comm : List ℕ) → Ends_alike (call_free l comm) (call_free m comm)
  free_alike comm = both_then _ Alike _ _ _ _ (comm_both comm) (λ u v h. fine _ _ (frees comm u.0 v.0 u.1 h.named h.bound))

  -- Messages

  send_alike : (comm : List ℕ) (to : Option ℕ) (tag : ℕ) (payload : List ℕ) → Ends_alike (call_send (around_here x) l comm to tag payload) (call_send (around g r) m comm to tag payload)
  send_alike comm None tag payload =
      both_then _ Alike _ _ _ _ (comm_both comm) (λ u v h.
      both_then _ Alike _ _ _ _ (both_same (good_tag tag)) (λ a a' good. fine _ _ (says _)))
  send_alike comm (Some to) tag payload =
      both_then _ Alike _ _ _ _ (comm_both comm) (λ u v h. rw (members_agree s ranks due g r j u.0 u.1 v.0 u.1 h.named)
      (both_then _ Alike _ _ _ _ (both_refuse (nat_le (length (reg.comm_at g v.0).members) to) (nat_le (length (reg.comm_at g v.0).members) to) class.Rank refl) (λ a a' inside.
      both_then _ Alike _ _ _ _ (both_same (good_tag tag)) (λ b b' good. fine _ _ (sends u.0 v.0 u.1 to tag payload h.named (grind (arith, nat_tests, inside)))))))

  receive_both : (comm : List ℕ) (from : SrcArg) (tag : Option ℕ) → Both (BothComms comm) (good_receive (around_here x) l comm from tag) (good_receive (around g r) m comm from tag)
  receive_both comm from tag =
      both_then _ (BothComms comm) _ _ _ _ (comm_both comm) (λ u v h. rw (members_agree s ranks due g r j u.0 u.1 v.0 u.1 h.named)
      (both_then _ (BothComms comm) _ _ _ _ (both_same (good_source (length (reg.comm_at g v.0).members) from)) (λ a a' good.
      both_then _ (BothComms comm) _ _ _ _ (both_same (good_any_tag tag)) (λ b b' good'. fine u v h))))

  recv_alike : (comm : List ℕ) (from : SrcArg) (tag : Option ℕ) (room : ℕ) → Ends_alike (call_recv (around_here x) l comm from tag room) (call_recv (around g r) m comm from tag room)
  recv_alike comm from tag room = both_then _ Alike _ _ _ _ (receive_both comm from tag) (λ u v h. fine _ _ (begins from u v h))
    where
      begins : (from : SrcArg) (u v : CommOf) → BothComms comm u v → Alike (begin_receive u.0 from tag room) (begin_receive v.0 from tag room)
      begins (source.At rank) u v h = receives u.0 v.0 u.1 (Some rank) tag room h.named
      begins source.Any u v h = receives u.0 v.0 u.1 None tag room h.named
      begins source.Null u v h = says _

  irecv_alike : (comm : List ℕ) (from : SrcArg) (tag : Option ℕ) (room : ℕ) (target : List ℕ) → Ends_alike (call_irecv (around_here x) l comm from tag room target) (call_irecv (around g r) m comm from tag room target)
  irecv_alike comm from tag room target =
      both_then _ Alike _ _ _ _ (receive_both comm from tag) (λ u v h.
      both_then _ Alike _ _ _ _ (free_both target) (λ a a' free. fine _ _ (begins from u v h free)))
    where
      begins : (from : SrcArg) (u v : CommOf) → BothComms comm u v → Free target → Alike (begin_request u.0 from tag room target) (begin_request v.0 from tag room target)
      begins (source.At rank) u v h free = posts u.0 v.0 u.1 (Some rank) tag room target h.named free
      begins source.Any u v h free = posts u.0 v.0 u.1 None tag room target h.named free
      begins source.Null u v h free = null_posts target free

  wait_alike : (name : List ℕ) → Ends_alike (call_wait l name) (call_wait m name)
  wait_alike name = rw (request_same name) (both_then _ Alike _ _ _ _ (both_same (as_request (bound_of l.names name))) (λ u v same. rw same (fine _ _ (completes name u))))

  -- Any operation

  called_alike : (o : Op) → Ends_alike (call_of s r (around_here x) l o) (call_of s r (around g r) m o)
  unfolding call_of
  called_alike (op.Session target) = session_alike target
  called_alike (op.Finalize session) = finalize_alike session
  called_alike (op.Psets session) = psets_alike session
  called_alike (op.Nth session number) = nth_alike session number
  called_alike (op.Info session set) = info_alike session set
  called_alike (op.Pset session set target) = pset_alike session set target
  called_alike (op.Union first second target) = combined_alike union_of first second target
  called_alike (op.Intersect first second target) = combined_alike intersection_of first second target
  called_alike (op.Difference first second target) = combined_alike difference_of first second target
  called_alike (op.Incl group ranks target) = chosen_alike (λ members. included members ranks) group target
  called_alike (op.Excl group ranks target) = chosen_alike (λ members. excluded members ranks) group target
  called_alike (op.RangeIncl group ranges target) = chosen_alike (λ members. range_included members ranges) group target
  called_alike (op.RangeExcl group ranges target) = chosen_alike (λ members. range_excluded members ranges) group target
  called_alike (op.Translate from ranks to) = translate_alike from ranks to
  called_alike (op.Compare first second) = compare_alike first second
  called_alike (op.Size group) = size_alike group
  called_alike (op.Rank group) = rank_alike group
  called_alike (op.Gfree group) = gfree_alike group
  called_alike (op.Create group tag target) = create_alike group tag target
  called_alike (op.Dup comm target) = dup_alike comm target
  called_alike (op.Split comm colour key target) = split_alike comm colour key target
  called_alike (op.CreateGroup comm group tag target) = create_group_alike comm group tag target
  called_alike (op.Group comm target) = group_alike comm target
  called_alike (op.Ccompare first second) = ccompare_alike first second
  called_alike (op.Csize comm) = csize_alike comm
  called_alike (op.Crank comm) = crank_alike comm
  called_alike (op.Free comm) = free_alike comm
  called_alike (op.Send comm to tag payload) = send_alike comm to tag payload
  called_alike (op.Recv comm from tag room) = recv_alike comm from tag room
  called_alike (op.Irecv comm from tag room target) = irecv_alike comm from tag room target
  called_alike (op.Wait request) = wait_alike request
  called_alike (op.Await name) = fine _ _ (awaits name)

  -- so a rank does what the registry does
  pub effects_alike : (lt : r < s.ranks) (o : Op) → Alike (effect_of x.setting x.rank (around_here x) l o) (effect_at s g r o)
  effects_alike lt o = rw (j.sizes.number r lt, j.sizes.setting r lt) (refusals (called_alike o))
    where
      refusals : {a b : Result (Effect ℕ) ErrClass} → Ends_alike a b → Alike (refusal a) (refusal b)
      refusals (refused e) = says _
      refusals (fine u v h) = h
