-- The first part of the drain: until no key is offered, a key has as many rounds more as its first member says.
use Rattle.std.proofs.Common.{◌≡◌, ◌<◌, ◌≤◌, ◌+◌, ℕ, zero, suc, Bool, true, false, List, Some, refl, sym, subst, ◌∙◌, arith}
use Rattle.std.specs.Prelude.{if◌then◌else◌}
use Rattle.std.proofs.lemmas.Bool.Decides.{nat_tests}
use Rattle.mpi_base.specs.declared.keys.Key.{Key}
use Rattle.mpi_base.specs.Keys.{same_key}
use Rattle.mpi_base.specs.declared.entries.Choice.{Choice}
use Rattle.mpi_base.proofs.KeyFacts.{same_key_is, same_key-refl}
use Rattle.mpi_law.specs.ScriptLists.{AllScripts}
use Rattle.agree_law.specs.declared.rows.Stage.{Stage}
use Rattle.agree_law.specs.declared.rows.Stage.TheVariants.{Sharing, Called, Waiting, Offered, Done}
use Rattle.agree_law.specs.declared.rows.Verdict.{Verdict}
use Rattle.agree_law.specs.Part.{Offer, stage_of}
use Rattle.agree_law.proofs.KeyKept.{next_round}
use Rattle.mpi_protocol.specs.Rank.{Rank}
use Rattle.mpi_protocol.specs.Moves.{Move}
use Rattle.mpi_protocol.specs.World.{World, rank_at, after}
use Rattle.wayout_law.specs.Potential.{More, stage_cost, row_cost, rank_cost, cost, more_from, more_at, more_late, first_round}
use Rattle.wayout_law.proofs.Sums.{sum_of-le, sum_at-le}
use Rattle.wayout_law.proofs.Frames.{Frame}
use Rattle.wayout_law.proofs.Afters.{each-after, first-after}

-- where fewer rounds may follow, the cost is no more

abbrev pub NoMore : More → More → Type 0
NoMore new old = (k : Key) (i : ℕ) → new k i ≤ old k i

stage-fewer : (n : ℕ) (new old : More) (gathered : List Offer) (r : ℕ) (k : Key) (s : Stage) → NoMore new old → stage_cost n new gathered r k s ≤ stage_cost n old gathered r k s
stage-fewer n new old gathered r k (Sharing s) h = omega arith
stage-fewer n new old gathered r k Called h = let a = h k 0 in omega (arith, a)
stage-fewer n new old gathered r k (Waiting i) h = let a = h k i in omega (arith, a)
stage-fewer n new old gathered r k (Offered i own) h = let a = h k i in omega (arith, a)
stage-fewer n new old gathered r k (Done o) h = omega arith

rank-fewer : (n : ℕ) (new old : More) (scripts : AllScripts) (r : ℕ) (x : Rank) → NoMore new old → rank_cost n new scripts r x ≤ rank_cost n old scripts r x
rank-fewer n new old scripts r x h =
    let a = sum_of-le (row_cost n new x.agree.gathered x.rank) (row_cost n old x.agree.gathered x.rank) x.agree.opened (λ o. stage-fewer n new old x.agree.gathered x.rank o.key o.stage h) in
    omega (arith, a)

pub cost-fewer : (n : ℕ) (new old : More) (scripts : AllScripts) (w : World) → NoMore new old → cost n new scripts w ≤ cost n old scripts w
cost-fewer n new old scripts w h =
    let a = sum_at-le (rank_cost n new scripts) (rank_cost n old scripts) 0 w.ranks (λ r x. rank-fewer n new old scripts r x h) in
    omega (arith, a)

-- a key that begins may have a round after its first; one past it had it; one that is offered in its round may have another
pub record Early (more : More) (w : World) : Type 0 where
  pub some : (k : Key) → 1 ≤ more k 0
  pub first : (k : Key) → first_round w k ≡ 0 → more k 1 + 1 ≤ more k 0
  pub begun : (k : Key) (i : ℕ) → first_round w k ≡ suc i → more k (suc i) + 1 ≤ more k i
  pub under : (r : ℕ) (k : Key) (i : ℕ) (own : Bool) → stage_of (rank_at w r).agree.opened k ≡ Some (Offered i own) → first_round w k ≡ i → more k (suc i) + 1 ≤ more k i

pub early-start : (w : World) → Early (more_at w) w
early-start w =
    record {
      some = λ k. start (first_round w k);
      first = λ k e. rw e (omega arith);
      begun = λ k i e. rw e (step i);
      under = λ r k i own _ e. rw e (last i);
    }
  where
    start : (g : ℕ) → 1 ≤ more_from g 0
    start zero = omega arith
    start (suc g) = grind (arith, nat_tests)

    step : (i : ℕ) → more_from (suc i) (suc i) + 1 ≤ more_from (suc i) i
    step i = grind (arith, nat_tests)

    last : (i : ℕ) → more_from i (suc i) + 1 ≤ more_from i i
    last i = grind (arith, nat_tests)

-- a step that keeps rounds and offers nothing
abbrev FewerAt : World → World → Type 0
FewerAt old new = (q : ℕ) (k : Key) (i : ℕ) (own : Bool) → stage_of (rank_at new q).agree.opened k ≡ Some (Offered i own) → stage_of (rank_at old q).agree.opened k ≡ Some (Offered i own)

pub fewer-after : (w : World) (c : Choice) (m : Move) → ((k : Key) (i : ℕ) (own : Bool) → stage_of m.state.agree.opened k ≡ Some (Offered i own) → stage_of (rank_at w c.rank).agree.opened k ≡ Some (Offered i own)) → FewerAt w (after w c m)
fewer-after w c m f q =
    each-after (λ z (y : Rank). (k : Key) (i : ℕ) (own : Bool) → stage_of y.agree.opened k ≡ Some (Offered i own) → stage_of (rank_at w z).agree.opened k ≡ Some (Offered i own)) w c m f (λ z k i own e. e) q

pub early-frame : (more : More) (w : World) (c : Choice) (m : Move) → Frame c.rank (rank_at w c.rank).agree m.state.agree → Early more w → Early more (after w c m)
early-frame more w c m f h =
    record {
      some = h.some;
      first = λ k e. h.first k (sym (keeps k) ∙ e);
      begun = λ k i e. h.begun k i (sym (keeps k) ∙ e);
      under = λ r k i own e at. h.under r k i own (fewer-after w c m f.fewer r k i own e) (sym (keeps k) ∙ at);
    }
  where
    keeps : (k : Key) → first_round (after w c m) k ≡ first_round w k
    keeps k = first-after w c m k (λ e. f.rounds k e)

-- a settle
pub record Settled (old new : World) (key : Key) (now : ℕ) (v : Verdict) : Type 0 where
  pub fewer : FewerAt old new
  pub others : (k : Key) → same_key key k ≡ false → first_round new k ≡ first_round old k
  pub mine : first_round new key ≡ next_round now v
  pub was : first_round old key ≡ now
  pub level : (q i : ℕ) (own : Bool) → stage_of (rank_at old q).agree.opened key ≡ Some (Offered i own) → i ≡ now

-- what follows for each key, from what follows for this one and what holds of the others
each_key : (P : Key → Type 0) (key : Key) → P key → ((k : Key) → same_key key k ≡ false → P k) → (k : Key) → P k
each_key P key mine others k = go (same_key key k) refl
  where
    go : (b : Bool) → same_key key k ≡ b → P k
    go true e = subst P (same_key_is key k e) mine
    go false e = others k e

pub early-other : (more : More) (old new : World) (key : Key) (now : ℕ) (v : Verdict) → Settled old new key now v → Early more old
    → (0 < next_round now v) → ((i : ℕ) → next_round now v ≡ suc i → more key (suc i) + 1 ≤ more key i) → (now ≡ next_round now v → ⊥) → Early more new
early-other more old new key now v s h pos begun apart =
    record {
      some = h.some;
      first = each_key (λ k. first_round new k ≡ 0 → more k 1 + 1 ≤ more k 0) key (λ e. absurd (let m = s.mine in omega (arith, e, m, pos))) (λ k far e. h.first k (sym (s.others k far) ∙ e));
      begun = λ k i. each_key (λ k. first_round new k ≡ suc i → more k (suc i) + 1 ≤ more k i) key (λ e. begun i (sym s.mine ∙ e)) (λ k far e. h.begun k i (sym (s.others k far) ∙ e)) k;
      under = λ r k i own.
          each_key (λ k. stage_of (rank_at new r).agree.opened k ≡ Some (Offered i own) → first_round new k ≡ i → more k (suc i) + 1 ≤ more k i) key
          (λ e at. absurd (apart (sym (s.level r i own (s.fewer r key i own e)) ∙ (sym at ∙ s.mine)))) (λ k far e at. h.under r k i own (s.fewer r k i own e) (sym (s.others k far) ∙ at)) k;
    }

-- a key that is decided may begin anew
abbrev pub ended : Key → More → More
ended key more k i = if same_key key k then more_late k i else more k i

late_key : (key : Key) (more : More) (k : Key) (i : ℕ) → same_key key k ≡ false → ended key more k i ≡ more k i
late_key key more k i e = rw e refl

late_mine : (key : Key) (more : More) (i : ℕ) → ended key more key i ≡ more_late key i
late_mine key more i = rw (same_key-refl key) refl

pub ended-fewer : (key : Key) (more : More) → ((k : Key) → 1 ≤ more k 0) → NoMore (ended key more) more
ended-fewer key more some k i = go (same_key key k) i
  where
    go : (b : Bool) (i : ℕ) → (if b then more_late k i else more k i) ≤ more k i
    go false i = omega arith
    go true zero = let s = some k in omega (arith, s)
    go true (suc i) = let z : more_late k (suc i) ≡ 0 = grind (arith, nat_tests) in rw z (omega arith)

pub early-ended : (more : More) (old new : World) (key : Key) (now : ℕ) (v : Verdict) → Settled old new key now v → Early more old → next_round now v ≡ 0 → Early (ended key more) new
early-ended more old new key now v s h zero_next =
    record {
      some = each_key (λ k. 1 ≤ ended key more k 0) key (rw (late_mine key more 0) (omega arith)) (λ k far. rw (late_key key more k 0 far) (h.some k));
      first = each_key (λ k. first_round new k ≡ 0 → ended key more k 1 + 1 ≤ ended key more k 0) key (λ e. rw (late_mine key more 1, late_mine key more 0) (omega arith)) (λ k far e. rw (late_key key more k 1 far, late_key key more k 0 far) (h.first k (sym (s.others k far) ∙ e)));
      begun = λ k i.
          each_key (λ k. first_round new k ≡ suc i → ended key more k (suc i) + 1 ≤ ended key more k i) key (λ e. absurd (let m = s.mine in omega (arith, e, m, zero_next)))
          (λ k far e. rw (late_key key more k (suc i) far, late_key key more k i far) (h.begun k i (sym (s.others k far) ∙ e))) k;
      under = λ r k i own.
          each_key (λ k. stage_of (rank_at new r).agree.opened k ≡ Some (Offered i own) → first_round new k ≡ i → ended key more k (suc i) + 1 ≤ ended key more k i) key
          (λ e at. (let m = s.mine in let z : i ≡ 0 = omega (arith, at, m, zero_next) in rw z (rw (late_mine key more 1, late_mine key more 0) (omega arith))))
          (λ k far e at. rw (late_key key more k (suc i) far, late_key key more k i far) (h.under r k i own (s.fewer r k i own e) (sym (s.others k far) ∙ at))) k;
    }
