-- The settle that decides a creation, in the registry: the pick is allowed, and the ranks belong to what it leaves, with the
-- verdict due at each member.
use Rattle.std.proofs.Common.{◌≡◌, ◌≤◌, ℕ, ◌+◌, ◌==◌, ◌&&◌, not, nat_lt, if◌then◌else◌, Bool, true, false, List, [], ◌∷◌, ◌++◌, length, map, Option, Some, None, refl, sym, ap, ◌∙◌, subst, arith}
use Rattle.std.specs.Option.{is_some}
use Rattle.std.proofs.lemmas.Bool.Decides.{nat_tests}
use Rattle.mpi_base.specs.declared.keys.Key.{Key}
use Rattle.mpi_base.specs.MemberLists.{has_rank}
use Rattle.mpi_base.proofs.KeyFacts.{same_key-refl}
use Rattle.mpi_law.specs.declared.setting.Setting.{Setting}
use Rattle.mpi_law.specs.Registry.State.{Registry, Communicator, Made, NoneFree, blank_comm, session_at}
use Rattle.mpi_law.specs.Registry.Creations.{caller_of}
use Rattle.mpi_law.specs.Registry.Contexts.{comm_of, is_live_at}
use Rattle.mpi_law.specs.Registry.Events.{Picks, after_pick, registry_next}
use Rattle.mpi_law.specs.Registry.Runs.{Allowed, IsFree}
use Rattle.agree_law.specs.declared.rows.Verdict.TheVariants.{Context, Exhausted}
use Rattle.comm_law.specs.declared.rows.CommRow.{CommRow}
use Rattle.mpi_protocol.specs.Rank.{Rank}
use Rattle.run_law.proofs.Lists.{get_or-append, get_or-last, get_or_past, length-snoc}
use Rattle.run_law.proofs.Rows.{or_else, row_in}
use Rattle.run_law.proofs.Contexts.{comm_of-append, stay_more, picked_apart}
use Rattle.due_law.specs.Dues.{Dues, due_said}
use Rattle.run_law.proofs.Creations.{MadeFits, comm_in, creation_in}
use Rattle.run_law.proofs.Comms.{CommFits, Comms}
use Rattle.run_law.proofs.Frames.{Grown, grown-refl, locals-grown, free-grown}
use Rattle.run_law.proofs.Wholes.{BackIsFreed}
use Rattle.run_law.proofs.PickedRows.{at_place}
use Rattle.run_law.proofs.Joined.{rank_in, Joined}
use Rattle.due_law.specs.Agreed.{AllOffered, IsFreeInMasks, Lacking}
use Rattle.run_law.proofs.Deciding.{Deciding, deciding}
use Rattle.run_law.proofs.Allowing.{place_is, may_pick, free_context, none_picked, taken_context}
use Rattle.run_law.proofs.Picking.{rows, creations_after}
use Rattle.run_law.proofs.PickWholes.{counts, whole_after, comm_after, same_comms}

module _ (s : Setting) (ranks : List Rank) (due : Dues) (g : Registry) (key : Key) (r : ℕ) (j : Joined s ranks due g) (a : AllOffered s ranks due key) (m : has_rank key.members r ≡ true) where
  d : Deciding s ranks due g key j a
  d = deciding s ranks due g key j a r m

  -- Exhausted

  pub exhausted_allowed : ((c : ℕ) → 1 ≤ c → c ≤ s.contexts → Lacking ranks key c) → Allowed s g (Picks r key None)
  exhausted_allowed lacks =
      (may_pick s ranks due g key j a d r m, λ c lo hi. let l = lacks c lo hi in taken_context s ranks due g key l.rank c j (a.inside l.rank l.member) l.member lo hi l.lacks)

  pub exhausted_joined : Joined s ranks (due_said due key Exhausted) (registry_next s g (Picks r key None))
  unfolding registry_next
  exhausted_joined = subst (λ (n : ℕ). Joined s ranks (due_said due key Exhausted) (after_pick g n key None)) (sym (place_is s ranks due g key j a d r m)) there
    where
      there : Joined s ranks (due_said due key Exhausted) (after_pick g d.place key None)
      there = record {
        sizes = record { ranks_are = j.sizes.ranks_are; parts_are = j.sizes.parts_are; number = j.sizes.number; setting = j.sizes.setting };
        locals = j.locals;
        threads = j.threads;
        masks = j.masks;
        creations = creations_after s ranks due g key j a d Exhausted NoneFree g.comms (grown-refl g.comms) (λ q n. tt);
        comms = same_comms s ranks due g key j a d Exhausted NoneFree g.comms (grown-refl g.comms) (λ q n. tt) refl;
        whole = whole_after s ranks due g key j a d Exhausted NoneFree g.comms (grown-refl g.comms) (λ q n. tt) (λ p e. absurd (cc (e))) j.whole.returned j.whole.apart;
      }

  -- A context

  module _ (c : ℕ) (free : IsFreeInMasks ranks key c) where
    abbrev made : Communicator
    made = record {
      ctx = c;
      members = key.members;
      sessions = map (λ q. (caller_of (creation_in g.creations d.place).callers q).session) key.members;
      freed = [];
      returned = [];
    }

    abbrev more : List Communicator
    more = g.comms ++ made ∷ []

    is_free : IsFree s g key c
    is_free = free_context s ranks due g key j a d r c m free

    pub pick_allowed : Allowed s g (Picks r key (Some c))
    pick_allowed = (may_pick s ranks due g key j a d r m, is_free)

    long : length more ≡ length g.comms + 1
    long = length-snoc g.comms made

    grown : Grown g.comms more
    grown = record { longer = omega (arith, long); stays = λ q. stay_more g.comms made q; same = λ p lt. get_or-append g.comms made blank_comm p lt }

    last : comm_in more (length g.comms) ≡ made
    last = get_or-last g.comms made blank_comm

    unused : (q : ℕ) → has_rank key.members q ≡ true → comm_of g.comms q c ≡ None
    unused q n = none_picked s ranks due g key j a d q c n (free q n)

    fits : (q : ℕ) (n : has_rank key.members q ≡ true) → MadeFits more q key (d.waiter q n).session c (length g.comms)
    fits q n =
        let live : ((c == c) && is_live_at made q) ≡ true = grind (arith, nat_tests, n) in
        let w = d.waiter q n in
        let place = at_place (λ z. (caller_of (creation_in g.creations d.place).callers z).session) key.members q n in
        let from : (caller_of (creation_in g.creations d.place).callers q).session ≡ w.session = subst (λ (i : ℕ). (caller_of (creation_in g.creations i).callers q).session ≡ w.session) (d.is q n) w.fits.caller.session_is in
        record {
          stands = comm_of-append g.comms made q c ∙ (rw (unused q n, live) refl);
          members = ap (λ (z : Communicator). z.members) last;
          session_is = ap (λ (z : Communicator). session_at z q) last ∙ (place ∙ from);
          kept = ap (λ (z : Communicator). has_rank z.freed q) last;
        }

    back : BackIsFreed more
    back p z h = go (nat_lt p (length g.comms)) refl
      where
        go : (b : Bool) → nat_lt p (length g.comms) ≡ b → (q : ℕ) → has_rank (comm_in more p).members q ≡ true → has_rank (comm_in more p).freed q ≡ true
        go true e =
            let same = get_or-append g.comms made blank_comm p (grind (arith, nat_tests, e)) in
            subst (λ (y : Communicator). (q : ℕ) → has_rank y.members q ≡ true → has_rank y.freed q ≡ true) (sym same) (j.whole.returned p z (sym (ap (λ (y : Communicator). has_rank y.returned z) same) ∙ h))
        go false e = absurd (none (nat_lt (length g.comms) p) refl)
          where
            none : (b : Bool) → nat_lt (length g.comms) p ≡ b → ⊥
            none true f =
                let past : comm_in more p ≡ blank_comm = get_or_past more p blank_comm (let l = long in grind (arith, nat_tests, f, l)) in
                let y : has_rank [] z ≡ true = subst (λ (m : Communicator). has_rank m.returned z ≡ true) past h in
                cc (y)
            none false f =
                let is : p ≡ length g.comms = grind (arith, nat_tests, e, f) in
                let y : has_rank [] z ≡ true = subst (λ (m : Communicator). has_rank m.returned z ≡ true) (ap (comm_in more) is ∙ last) h in
                cc (y)

    comms_after : Comms s more (rows s ranks due g key j a d (Context c) (Made (length g.comms)) more grown fits) g.ranks (due_said due key (Context c)) (rank_in ranks)
    comms_after q = record {
      each = λ b. rw (comm_of-append g.comms made q b) (go b (row_in (rank_in ranks q).comms.rows b) (comm_of g.comms q b) refl ((j.comms q).each b));
      serials = (j.comms q).serials;
      range = λ b h. range b (comm_of g.comms q b) refl (rw (comm_of-append g.comms made q b) at h);
      freeing = λ t serial p ew ep. free-grown g.comms more grown (rank_in ranks q).comms.rows (rank_in ranks q).comms.added q serial p ((j.comms q).freeing t serial p ew ep);
    }
      where
        range : (b : ℕ) (o : Option ℕ) → comm_of g.comms q b ≡ o → is_some (or_else o (if (c == b) && is_live_at made q then Some (length g.comms) else None)) ≡ true → (1 ≤ b) × (b ≤ s.contexts)
        range b (Some p) e h = (j.comms q).range b (rw e refl)
        range b None e h = at (c == b) refl h
          where
            at : (t : Bool) → (c == b) ≡ t → is_some (if t && is_live_at made q then Some (length g.comms) else None) ≡ true → (1 ≤ b) × (b ≤ s.contexts)
            at true t h = let is : c ≡ b = grind (arith, nat_tests, t) in let lo = is_free.above in let hi = is_free.below in (omega (arith, is, lo), omega (arith, is, hi))
            at false t h = absurd (cc (h))

        go : (b : ℕ) (o : Option CommRow) (p : Option ℕ) → comm_of g.comms q b ≡ p → CommFits g.comms g.creations q (rank_in ranks q).agree.owner (due q) b o p
            → CommFits more (rows s ranks due g key j a d (Context c) (Made (length g.comms)) more grown fits) q (rank_in ranks q).agree.owner (due_said due key (Context c) q) b o (or_else p (if (c == b) && is_live_at made q then Some (length g.comms) else None))
        go b (Some x) None e h = absurd h
        go b o (Some p) e h = comm_after s ranks due g key j a d (Context c) (Made (length g.comms)) more grown fits q b p o e h
        go b None None e h = at (c == b) (has_rank key.members q) refl refl
          where
            at : (t u : Bool) → (c == b) ≡ t → has_rank key.members q ≡ u → CommFits more (rows s ranks due g key j a d (Context c) (Made (length g.comms)) more grown fits) q (rank_in ranks q).agree.owner (due_said due key (Context c) q) b None (if t && (u && not (has_rank [] q)) then Some (length g.comms) else None)
            at false u et eu = tt
            at true false et eu = tt
            at true true et eu =
                let is : c ≡ b = grind (arith, nat_tests, et) in
                let k = same_key-refl key in
                record {
                  key = key;
                  owns = (a.each q eu).owns;
                  said = rw (k, eu) (ap (λ (z : ℕ). Some (Context z)) is);
                  calls = counts s ranks due g key j a d (Context c) (Made (length g.comms)) more grown fits (length g.comms) q ∙ j.whole.placed (length g.comms) q (omega arith);
                }

    pub pick_joined : Joined s ranks (due_said due key (Context c)) (registry_next s g (Picks r key (Some c)))
    unfolding registry_next
    pick_joined = subst (λ (n : ℕ). Joined s ranks (due_said due key (Context c)) (after_pick g n key (Some c))) (sym (place_is s ranks due g key j a d r m)) there
      where
        there : Joined s ranks (due_said due key (Context c)) (after_pick g d.place key (Some c))
        there = record {
          sizes = record { ranks_are = j.sizes.ranks_are; parts_are = j.sizes.parts_are; number = j.sizes.number; setting = j.sizes.setting };
          locals = λ q. locals-grown g.comms more grown (rank_in ranks q).comms.rows q (rank_in ranks q).local _ (j.locals q);
          threads = j.threads;
          masks = j.masks;
          creations = creations_after s ranks due g key j a d (Context c) (Made (length g.comms)) more grown fits;
          comms = comms_after;
          whole = whole_after s ranks due g key j a d (Context c) (Made (length g.comms)) more grown fits (λ p e. let is : length g.comms ≡ p = cc (e) in let l = long in (sym is, omega (arith, is, l))) back (picked_apart g.comms made j.whole.apart is_free.unused);
        }
