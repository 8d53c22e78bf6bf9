-- No creation may be decided: a member that is not served waits, its key is called and no more, and so is that of each member of
-- its class; but a key that all its members have called is decided. That no exchange is held up is asked for here.
use Rattle.std.proofs.Common.{◌≡◌, ◌<◌, ◌&&◌, ◌||◌, not, ℕ, ℤ, zero, suc, Bool, true, false, if◌then◌else◌, List, length, get_or, replicate, nat_lt, Option, Some, None, refl, sym, ap, ◌∙◌, subst, inl, arith}
use Rattle.std.specs.Option.{is_none}
use Rattle.std.specs.List.{list_all}
use Rattle.std.proofs.lemmas.Bool.Decides.{nat_tests}
use Rattle.mpi_base.specs.MemberLists.{has_rank}
use Rattle.mpi_base.specs.declared.keys.Key.{Key}
use Rattle.mpi_law.specs.declared.setting.Setting.{Setting}
use Rattle.mpi_law.specs.declared.setting.TheConstants.{THREADS}
use Rattle.mpi_law.specs.ScriptLists.{AllScripts}
use Rattle.mpi_law.specs.Registry.State as reg
use Rattle.mpi_law.specs.Registry.State.{Registry, Creation, Outcome, Wait, Creating, blank_part, blank_creation, part_of, thread_of, creation_at}
use Rattle.mpi_law.specs.Registry.Creations.{is_split, class_by, class_of, share_of, caller_of, has_called, all_called, is_uncoloured, outcome_for}
use Rattle.mpi_law.specs.Registry.Contexts.{is_exchange}
use Rattle.mpi_law.specs.Closed.{is_served, is_picked_or_short}
use Rattle.agree_law.specs.declared.rows.Stage.{Stage}
use Rattle.agree_law.specs.declared.rows.Stage.TheVariants.{Sharing, Called, Waiting, Offered, Done}
use Rattle.agree_law.specs.Tree.{member_at}
use Rattle.agree_law.specs.Part.{stage_of}
use Rattle.agree_law.specs.Kinds.{is_share}
use Rattle.agree_law.specs.World.{Event, is_key_of}
use Rattle.agree_law.proofs.TreeFacts.{place_member, member_place}
use Rattle.mpi_protocol.specs.declared.rows.Waits.{Waits}
use Rattle.mpi_protocol.specs.declared.rows.Waits.TheVariants.{Creation as Creates, Uncoloured}
use Rattle.mpi_protocol.specs.World.{World, rank_at}
use Rattle.projection_law.proofs.Laws.{opens_fit_there}
use Rattle.due_law.specs.Dues.{Dues}
use Rattle.run_law.proofs.Lists.{get_or_past}
use Rattle.run_law.proofs.Threads.{WaitFits, row_of}
use Rattle.run_law.proofs.Creations.{CreationFits, MembersFit, is_sharing, creation_in}
use Rattle.run_law.proofs.Classes.{class_within, coloured, each_member}
use Rattle.run_law.proofs.ShareClasses.{in_class}
use Rattle.run_law.proofs.SettleSteps.{exchange_is}
use Rattle.run_law.proofs.Names.{stands_at}
use Rattle.run_law.proofs.Waiters.{thread_inside}
use Rattle.closed_law.proofs.Lists.{member_at as member_holds}
use Rattle.closed_law.proofs.Rests.{Rests, not_answerable}
use Rattle.closed_law.proofs.Asked.{is_told, Asked, none_picked}
use Rattle.closed_law.proofs.AskedRuns.{same_class}
use Rattle.closed_law.proofs.Keys.{one_key}

-- no rank goes on sharing for a creation, where all have called it
abbrev pub NoneShares : World → Registry → ℕ → Type 0
NoneShares w g n =
    (r t : ℕ) (key : Key) (target : List ℕ) (session : ℕ) → r < length w.ranks → (row_of (rank_at w r).threads t).waits ≡ Creates key target session → (thread_of g r t).wait ≡ Creating n → is_exchange key.kind ≡ true → all_called (creation_at g n) ≡ true → ⊥

key_below : (m : ℕ) (key : Key) → is_key_of m key ≡ true → list_all (λ z. nat_lt z m) key.members ≡ true
unfolding is_key_of
key_below m key e = grind (arith, e)

-- where there is no rank, no thread waits
pub blank_waits : (t n : ℕ) → (get_or (replicate THREADS reg.idle_thread) t reg.idle_thread).wait ≡ Creating n → ⊥
blank_waits t n e = go THREADS t e
  where
    go : (k t : ℕ) → (get_or (replicate k reg.idle_thread) t reg.idle_thread).wait ≡ Creating n → ⊥
    go zero t e = cc (e)
    go (suc k) zero e = cc (e)
    go (suc k) (suc t) e = go k t e

-- the class of a rank that has a colour has it
own_class : (c : Creation) (r : ℕ) → has_rank c.group r ≡ true → is_uncoloured c r ≡ false → has_rank (class_of c r) r ≡ true
own_class c r m u = go (is_split c.name) (share_of c r).colour refl u
  where
    go : (b : Bool) (o : Option ℤ) → (share_of c r).colour ≡ o → (b && is_none o) ≡ false → has_rank (if b then class_by c o else c.group) r ≡ true
    go false o e h = m
    go true None e h = absurd (cc (h))
    go true (Some k) e h = in_class (share_of c) k c.group r m e

module _ (s : Setting) (scripts : AllScripts) (w : World) (es : List Event) (due : Dues) (g : Registry) (h : Rests s scripts w es due g) (asked : Asked s g) (n : ℕ) (ends : NoneShares w g n) where
  -- what a thread waits for that waits for a creation that all have called: its key is called
  pub record IsCalled (r : ℕ) : Type 0 where
    pub thread : ℕ
    pub key : Key
    pub target : List ℕ
    pub session : ℕ
    pub part_waits : (thread_of g r thread).wait ≡ Creating n
    pub stage : stage_of (rank_at w r).agree.opened key ≡ Some Called
    pub fits : CreationFits g.comms g.creations (rank_at w r).comms.rows (rank_at w r).local.names (due r key) (stage_of (rank_at w r).agree.opened key) r thread key target session n

  called_stage : (r t : ℕ) (key : Key) (target : List ℕ) (session : ℕ) → r < length w.ranks → all_called (creation_at g n) ≡ true → (row_of (rank_at w r).threads t).waits ≡ Creates key target session → (thread_of g r t).wait ≡ Creating n → stage_of (rank_at w r).agree.opened key ≡ Some Called
  called_stage r t key target session lr all ea eb = go (stage_of (rank_at w r).agree.opened key) refl
    where
      f : CreationFits g.comms g.creations (rank_at w r).comms.rows (rank_at w r).local.names (due r key) (stage_of (rank_at w r).agree.opened key) r t key target session n
      f = h.together.joined.creations.each r t key target session n ea eb

      go : (o : Option Stage) → stage_of (rank_at w r).agree.opened key ≡ o → stage_of (rank_at w r).agree.opened key ≡ Some Called
      go (Some Called) e = e
      go None e = absurd (let far = f.far in rw e at far)
      go (Some (Sharing z)) e = absurd (ends r t key target session lr ea eb (let k = f.kind in rw e at k) all)
      go (Some (Waiting i)) e = absurd (let none = h.at_rest.waiting r key in let z = rw e at none in cc (z))
      go (Some (Offered i own)) e = absurd (let none = h.at_rest.offered r key in let z = rw e at none in cc (z))
      go (Some (Done d)) e = absurd (let none = not_answerable s scripts w es due g h r t lr (thread_inside s w.ranks due g h.together.joined r t n eb) in let z = rw (ea, e) at none in cc (z))

  pub is_called : (r t : ℕ) → r < length w.ranks → all_called (creation_at g n) ≡ true → (thread_of g r t).wait ≡ Creating n → IsCalled r
  is_called r t lr all e = go (row_of (rank_at w r).threads t).waits refl (subst (λ (z : Wait). WaitFits (row_of (rank_at w r).threads t).waits z) e ((h.together.joined.threads r).waits t))
    where
      go : (a : Waits) → (row_of (rank_at w r).threads t).waits ≡ a → WaitFits a (Creating n) → IsCalled r
      go (Creates key target session) ea f = record {
        thread = t;
        key = key;
        target = target;
        session = session;
        part_waits = e;
        stage = called_stage r t key target session lr all ea e;
        fits = h.together.joined.creations.each r t key target session n ea e;
      }
      go (Uncoloured key target session) ea f = absurd (let none = not_answerable s scripts w es due g h r t lr (thread_inside s w.ranks due g h.together.joined r t n e) in let z = rw ea at none in cc (z))
      go a ea f = absurd f

  pub not_exchange : (r : ℕ) (c : IsCalled r) → is_exchange c.key.kind ≡ false
  not_exchange r c = c.fits.kind ∙ ap is_sharing c.stage

  pub class_is : (r : ℕ) (c : IsCalled r) → class_of (creation_at g n) r ≡ c.key.members
  class_is r c = (subst (λ (b : Bool). MembersFit (creation_in g.creations n) r c.key b) (not_exchange r c) c.fits.members).0

  -- a member that is not served: so is each member of its class, and each waits
  module _ (ln : n < length g.creations) (all : all_called (creation_at g n) ≡ true) (r : ℕ) (member : has_rank (creation_at g n).group r ≡ true) (none : outcome_for (creation_at g n) r ≡ None) (colour : is_uncoloured (creation_at g n) r ≡ false) where
    abbrev c : Creation
    c = creation_at g n

    mine : has_rank (class_of c r) r ≡ true
    mine = own_class c r member colour

    one_class : (q : ℕ) → has_rank (class_of c r) q ≡ true → class_of c q ≡ class_of c r
    one_class q i = go (is_split c.name) refl
      where
        go : (b : Bool) → is_split c.name ≡ b → class_of c q ≡ class_of c r
        go true e = same_class c r q e i
        go false e = rw e refl

    nobody_served : (q : ℕ) → has_rank (class_of c r) q ≡ true → outcome_for c q ≡ None
    nobody_served q i = go (is_split c.name) refl (outcome_for c q) refl
      where
        go : (b : Bool) → is_split c.name ≡ b → (o : Option Outcome) → outcome_for c q ≡ o → outcome_for c q ≡ None
        go b e None f = f
        go true e (Some o) f = absurd (let some = (asked.fits n ln).classes q r e (rw f refl) (rw (one_class q i) mine) in let z = rw none at some in cc (z))
        go false e (Some o) f = none_picked c q (h.together.joined.whole.for_all n r ln e member none)

    -- each is a rank
    class_ranks : IsCalled r → (q : ℕ) → has_rank (class_of c r) q ≡ true → r < length w.ranks → q < length w.ranks
    class_ranks k q i lr =
        let fits = opens_fit_there s w es h.together.follows.projected r k.key Called lr k.stage in
        let inside : has_rank k.key.members q ≡ true = subst (λ (ms : List ℕ). has_rank ms q ≡ true) (class_is r k) i in
        below (length w.ranks) k.key q fits.key_fits inside
      where
        below : (m : ℕ) (key : Key) (q : ℕ) → is_key_of m key ≡ true → has_rank key.members q ≡ true → q < m
        below m key q e i = let all = member_holds (λ z. nat_lt z m) key.members q (key_below m key e) i in grind (arith, nat_tests, all)

    waits_called : (q : ℕ) → q < length w.ranks → has_rank (class_of c r) q ≡ true → IsCalled q
    waits_called q lq i =
        let called = member_holds (has_called c) c.group q all (class_within c r q i) in
        let has_colour = coloured c q (class_of c r) (one_class q i) i in
        let untold : is_told c q ≡ false = rw (has_colour, nobody_served q i) refl in
        is_called q (caller_of c.callers q).thread lq all (asked.waits n ln q called (inl untold))

    same_keys : (k : IsCalled r) (q : ℕ) (i : has_rank (class_of c r) q ≡ true) (m : IsCalled q) → m.key ≡ k.key
    same_keys k q i m =
        let there = stands_at g.comms r q k.key c.name c.group h.together.joined.whole.apart k.fits.stands (λ p e. h.together.joined.whole.under r k.thread n p k.part_waits e) (class_within c r q i) in
        one_key g.comms q m.key k.key c.name m.fits.stands there (not_exchange q m ∙ sym (not_exchange r k)) (sym (class_is q m) ∙ (one_class q i ∙ class_is r k))

    pub unserved : r < length w.ranks → ⊥
    unserved lr =
        let k = waits_called r lr mine in
        let fits = opens_fit_there s w es h.together.follows.projected r k.key Called lr k.stage in
        let plain : is_share k.key.kind ≡ false = sym (exchange_is k.key.kind) ∙ not_exchange r k in
        let good = fits.key_fits in
        let place = member_place k.key.members r fits.member in
        let inside = place.0 in
        h.at_rest.called k.key (rw (good, plain) refl) (omega (arith, inside)) (λ p lp.
        let i : has_rank (class_of c r) (member_at k.key.members p) ≡ true = subst (λ (ms : List ℕ). has_rank ms (member_at k.key.members p) ≡ true) (sym (class_is r k)) (place_member k.key.members p lp) in
        let m = waits_called (member_at k.key.members p) (class_ranks k (member_at k.key.members p) i lr) i in
        subst (λ (key : Key). stage_of (rank_at w (member_at k.key.members p)).agree.opened key ≡ Some Called) (same_keys k (member_at k.key.members p) i m) m.stage)

  -- a caller is a rank
  caller_rank : (r : ℕ) → n < length g.creations → all_called (creation_at g n) ≡ true → has_rank (creation_at g n).group r ≡ true → is_told (creation_at g n) r ≡ false → r < length w.ranks
  caller_rank r ln all i untold = go (nat_lt r (length w.ranks)) refl
    where
      waits : (thread_of g r (caller_of (creation_at g n).callers r).thread).wait ≡ Creating n
      waits = asked.waits n ln r (member_holds (has_called (creation_at g n)) (creation_at g n).group r all i) (inl untold)

      go : (b : Bool) → nat_lt r (length w.ranks) ≡ b → r < length w.ranks
      go true e = grind (arith, nat_tests, e)
      go false e =
          let size = h.together.joined.sizes.parts_are in
          let count = h.together.joined.sizes.ranks_are in
          let past = get_or_past g.ranks r blank_part (grind (arith, nat_tests, e, size, count)) in
          absurd (blank_waits (caller_of (creation_at g n).callers r).thread n (subst (λ (p : reg.RankPart). (get_or p.threads (caller_of (creation_at g n).callers r).thread reg.idle_thread).wait ≡ Creating n) past waits))

  pub decided : n < length g.creations → is_picked_or_short (creation_at g n) ≡ true
  decided ln = go (all_called (creation_at g n)) refl
    where
      c : Creation
      c = creation_at g n

      served : all_called c ≡ true → (r : ℕ) → has_rank c.group r ≡ true → (o : Option Outcome) → outcome_for c r ≡ o → (u : Bool) → is_uncoloured c r ≡ u → is_served c r ≡ true
      served all r i (Some o) e u f = rw e refl
      served all r i None e true f = rw (e, f) refl
      served all r i None e false f = absurd (unserved ln all r i e f (caller_rank r ln all i (rw (f, e) refl)))

      go : (b : Bool) → all_called c ≡ b → (not b || list_all (is_served c) c.group) ≡ true
      go false e = refl
      go true e = each_member (is_served c) c.group (λ r i. served e r i (outcome_for c r) refl (is_uncoloured c r) refl)
