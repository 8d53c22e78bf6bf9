-- Where the first member's gather is whole and each offer in it owns, the key owns the mask of each member.
use Rattle.std.proofs.Common.{◌≡◌, ◌<◌, ◌≤◌, ◌==◌, ℕ, zero, suc, Bool, true, false, if◌then◌else◌, List, length, Some, refl, sym, subst, ◌∙◌, arith}
use Rattle.std.proofs.lemmas.Bool.Decides.{nat_tests}
use Rattle.mpi_base.specs.declared.keys.Key.{Key}
use Rattle.mpi_base.specs.MemberLists.{has_rank}
use Rattle.agree_law.specs.declared.rows.Verdict.{Verdict}
use Rattle.agree_law.specs.declared.rows.Verdict.TheVariants.{Ready, Retry}
use Rattle.agree_law.specs.Tree.{place_in, member_at, parent_of}
use Rattle.agree_law.specs.Part.{Offer, round_of}
use Rattle.agree_law.specs.Rule.{is_key}
use Rattle.agree_law.specs.Gather.{all_own, picked, least_common, verdict_of}
use Rattle.agree_law.specs.Verdicts.{may_settle_offers}
use Rattle.agree_law.specs.World.{Flight, World, part_at}
use Rattle.agree_law.proofs.Lists.{AllOf, AllOf_both, found}
use Rattle.agree_law.proofs.TreeFacts.{parent_below, member_place}
use Rattle.agree_law.proofs.RowFacts.{of_key, at_place, is_whole, own_of, all_own_is}
use Rattle.agree_law.proofs.MaskFacts.{own_each}
use Rattle.agree_law.proofs.KeyKept.{View, Held, KeyKept}
use Rattle.agree_law.proofs.Decide.{whole_own}
use Rattle.agree_law.proofs.Links.{of_links}
use Rattle.agree_law.proofs.Kept.{seat, Kept}
use Rattle.agree_law.proofs.Subtrees.{gathered, below_at, under_first}
use Rattle.agree_law.proofs.WorldFacts.{first_whole}
use Rattle.due_law.specs.Dues.{final_of}

module _ (top n : ℕ) (m : ℕ → ℕ) (V : ℕ → View) (fs : List Flight) (h : KeyKept top n m V fs) (whole : is_whole (V 0).offers 0 n ≡ true) (own : own_of (V 0).offers ≡ true) where
  whole_at : (q : ℕ) → q < n → is_whole (V q).offers q n ≡ true
  whole_at q lt = (below_at top n m V fs h 0 q (under_first q) lt whole).whole

  -- an offer in a gather, with what it says
  abbrev Owns : ℕ → Offer → Type 0
  Owns p x = Held top n (V p) p V x × (x.own ≡ true)

  owning : (p : ℕ) → p < n → own_of (V p).offers ≡ true → AllOf (Owns p) (V p).offers
  owning p lt e = AllOf_both (Held top n (V p) p V) (λ x. x.own ≡ true) (Owns p) (V p).offers (λ x a b. (a, b)) (h.held p lt) (own_each (V p).offers e)

  own_below : (q : ℕ) → 0 < q → q < n → own_of (V (parent_of q)).offers ≡ true → own_of (V q).offers ≡ true
  own_below q pos lt e =
      let p = parent_of q in
      let less = parent_below q pos in
      let inside : parent_of q < n = omega (arith, less, lt) in
      let there = (gathered top n m V fs h q pos lt (whole_at p inside)).there in
      let x = found (Owns p) (at_place q) (V p).offers there (owning p inside e) in
      let is : x.0.place ≡ q = grind (arith, nat_tests, x.1) in
      let of = x.2.0.child (λ s. omega (arith, less, is, s)) in
      subst (λ z. own_of (V z).offers ≡ true) is (sym of.owns ∙ x.2.1)

  own_at : (k q : ℕ) → q ≤ k → q < n → own_of (V q).offers ≡ true
  own_at k zero le lt = own
  own_at zero (suc q) le lt = absurd (omega (arith, le))
  own_at (suc k) (suc q) le lt =
      let less = parent_below (suc q) (omega arith) in
      own_below (suc q) (omega arith) lt (own_at k (parent_of (suc q)) (omega (arith, less, le)) (omega (arith, less, lt)))

  pub owns_at : (q : ℕ) → q < n → (V q).owns ≡ true
  owns_at q lt =
      let x = found (Owns q) (at_place q) (V q).offers (whole_own (V q).offers q n (whole_at q lt)) (owning q lt (own_at q q (omega arith) lt)) in
      let of = x.2.0.own (grind (arith, nat_tests, x.1)) in
      sym of.owns ∙ x.2.1

-- a final verdict is said where each offer owns
pub final_owns : (top : ℕ) (os : List Offer) (key : Key) (i : ℕ) (v : Verdict) → final_of (verdict_of top os key i) ≡ Some v → all_own os key ≡ true
final_owns top os key i v e = go (i == 0) (all_own os key) e
  where
    go : (z b : Bool) → final_of (if z then Ready else (if b then picked (least_common top os key) else Retry)) ≡ Some v → b ≡ true
    go true b e = absurd (cc (e))
    go false true e = refl
    go false false e = absurd (cc (e))

-- the key owns the mask of each member where a final verdict is said
pub settle_owns : (top : ℕ) (w : World) (r : ℕ) (key : Key) (v : Verdict) → Kept top w → may_settle_offers r (part_at w r) key ≡ true → final_of (verdict_of top (part_at w r).gathered key (round_of (part_at w r).rounds key)) ≡ Some v
    → (q : ℕ) → has_rank key.members q ≡ true → is_key (part_at w q).owner key ≡ true
settle_owns top w r key v h may e q member =
    let f = first_whole top w r key may h in
    let own : own_of (of_key (part_at w r).gathered key) ≡ true = sym (all_own_is (part_at w r).gathered key) ∙ final_owns top (part_at w r).gathered key (round_of (part_at w r).rounds key) v e in
    let own0 : own_of (seat w.parts key 0).offers ≡ true = subst (λ (y : View). own_of y.offers ≡ true) (sym f.view) own in
    let p = member_place key.members q member in
    subst (λ z. is_key (part_at w z).owner key ≡ true) p.1 (owns_at top (length key.members) (member_at key.members) (seat w.parts key) (of_links w.links key) (h.each key f.good) f.whole own0 (place_in key.members q) p.0)
