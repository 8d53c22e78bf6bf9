-- Where nothing is on its way and no key is offered, no offer of a key past its first round is gathered.
use Rattle.std.proofs.Common.{◌≡◌, ◌<◌, ◌≤◌, ◌+◌, not, ℕ, Bool, true, false, List, [], ◌∷◌, length, Option, Some, None, refl, sym, ap, subst, ◌∙◌, arith, ⊎_elim}
use Rattle.std.specs.Prelude.{if◌then◌else◌}
use Rattle.std.proofs.lemmas.Bool.Decides.{nat_tests}
use Rattle.mpi_base.specs.declared.keys.Key.{Key}
use Rattle.mpi_base.specs.Keys.{same_key}
use Rattle.mpi_base.specs.MemberLists.{has_rank}
use Rattle.mpi_base.proofs.KeyFacts.{same_key_is}
use Rattle.agree_law.specs.declared.rows.Stage.{Stage}
use Rattle.agree_law.specs.declared.rows.Stage.TheVariants.{Sharing, Called, Waiting, Offered, Done}
use Rattle.agree_law.specs.Tree.{place_in, member_at, is_child}
use Rattle.agree_law.specs.Part.{Offer, stage_of}
use Rattle.agree_law.specs.Gather.{all_own}
use Rattle.agree_law.specs.Rule.{is_key}
use Rattle.agree_law.specs.Kinds.{is_share}
use Rattle.agree_law.specs.World.{World, part_at}
use Rattle.agree_law.specs.Facts.{OwnerHasOffered}
use Rattle.agree_law.proofs.Lists.{AllOf, tally, one}
use Rattle.agree_law.proofs.TreeFacts.{member_place, child_above}
use Rattle.agree_law.proofs.RowFacts.{of_key, at_place, is_whole, own_of, all_own_is}
use Rattle.agree_law.proofs.Decide.{whole_own}
use Rattle.agree_law.proofs.KeyKept.{View, stage_fits, Held, KeyKept}
use Rattle.agree_law.proofs.Kept.{is_good_at, OfferFits, seat, Kept}
use Rattle.agree_law.proofs.DownSteps.{seat_is}
use Rattle.agree_law.proofs.Subtrees.{was_whole}
use Rattle.agree_law.proofs.WorldFacts.{owners_have_offered}
use Rattle.mpi_protocol.specs.Order.{is_offered}
use Rattle.wayout_law.proofs.Rounds.{level_still}
use Rattle.wayout_law.proofs.AgreeFacts.{is_in_round, in_round, NoneFly, still_key}

-- a member that is not offered, past the first round, has no offer of its own
no_own : (s : Option Stage) (g c : ℕ) (owns : Bool) → 0 < g → is_offered s ≡ false → stage_fits s g c owns ≡ true → c ≡ 0
no_own None g c owns pos off e = grind (arith, nat_tests, e)
no_own (Some (Sharing s)) g c owns pos off e = absurd (cc)
no_own (Some Called) g c owns pos off e = absurd (grind (arith, nat_tests, e, pos))
no_own (Some (Waiting i)) g c owns pos off e = grind (arith, nat_tests, e)
no_own (Some (Offered i own)) g c owns pos off e = absurd (cc)
no_own (Some (Done o)) g c owns pos off e = grind (arith, nat_tests, e)

abbrev Offers : (n : ℕ) → (ℕ → View) → Type 0
Offers n V = (p : ℕ) → p < n → is_offered (V p).stage ≡ false

none_own : (top n : ℕ) (m : ℕ → ℕ) (V : ℕ → View) → KeyKept top n m V [] → 0 < (V 0).round → Offers n V → (p : ℕ) → p < n → tally (at_place p) (V p).offers ≡ 0
none_own top n m V h pos off p lt =
    let level = level_still top n m V h p p (omega arith) lt in
    no_own (V p).stage (V p).round (tally (at_place p) (V p).offers) (V p).owns (rw level pos) (off p lt) (h.fits p lt)

none_gathered : (top n : ℕ) (m : ℕ → ℕ) (V : ℕ → View) → KeyKept top n m V [] → 0 < (V 0).round → Offers n V → (p : ℕ) → p < n → (V p).offers ≡ []
none_gathered top n m V h pos off p lt = go (V p).offers refl
  where
    first : (o : Offer) (os : List Offer) → AllOf (Held top n (V p) p V) (o ∷ os) → Held top n (V p) p V o
    first o os a = a.0

    go : (os : List Offer) → (V p).offers ≡ os → (V p).offers ≡ []
    go [] e = e
    go (o ∷ os) e =
        let held = first o os (subst (λ z. AllOf (Held top n (V p) p V) z) e (h.held p lt)) in
        let has : 1 ≤ tally (at_place o.place) (V p).offers = rw e (one_more (at_place o.place) o os (grind (arith, nat_tests))) in
        ⊎_elim
        (λ (s : o.place ≡ p). (let z = none_own top n m V h pos off p lt in absurd (omega (arith, z, subst (λ q. 1 ≤ tally (at_place q) (V p).offers) s has))))
        (λ (c : (is_child p o.place ≡ true) × (o.place < n)).
        (let above = child_above p o.place c.0 in
        let t = subst (λ z. one (not (is_whole (V o.place).offers o.place n)) + 0 + 0 + tally (at_place o.place) (V z).offers ≡ 1) above.1 (h.token o.place above.2 c.1) in
        let whole = was_whole (is_whole (V o.place).offers o.place n) (omega (arith, t, has)) in
        let own = whole_own (V o.place).offers o.place n whole in
        let none = none_own top n m V h pos off o.place c.1 in
        absurd (omega (arith, own, none))))
        held.place
      where
        one_more : (p : Offer → Bool) (o : Offer) (os : List Offer) → p o ≡ true → 1 ≤ tally p (o ∷ os)
        one_more p o os e = rw e (omega arith)

of_key_none : (n q : ℕ) (os : List Offer) (key : Key) → has_rank key.members q ≡ false → AllOf (OfferFits n q) os → of_key os key ≡ []
of_key_none n q [] key e h = refl
of_key_none n q (o ∷ os) key e h = go (same_key o.key key) refl (of_key_none n q os key e h.1)
  where
    go : (b : Bool) → same_key o.key key ≡ b → of_key os key ≡ [] → (if b then o ∷ of_key os key else of_key os key) ≡ []
    go false s ih = ih
    go true s ih = let g = subst (λ k. is_good_at n q k ≡ true) (same_key_is o.key key s) h.0 in absurd (grind (arith, g, e))

pub kept-clear : (top : ℕ) (w : World) (r : ℕ) (key : Key) (s : Stage) (i : ℕ) → Kept top w → NoneFly w → ((q : ℕ) (k : Key) → is_offered (stage_of (part_at w q).opened k) ≡ false)
    → stage_of (part_at w r).opened key ≡ Some s → is_in_round s i ≡ true → (q : ℕ) → all_own (part_at w q).gathered key ≡ true
unfolding own_of
kept-clear top w r key s i h empty nobody e at q =
    let x = in_round top w r key s i h e at in
    let good = x.good in
    let k = still_key top w key h empty (grind (arith, good)) in
    let pr = member_place key.members r (grind (arith, good)) in
    let level = level_still top (length key.members) (member_at key.members) (seat w.parts key) k (place_in key.members r) (place_in key.members r) (omega arith) pr.0 in
    let here = x.here in
    let pos = x.pos in
    let zero : 0 < (seat w.parts key 0).round = omega (arith, level, here, pos) in
    let none = go (has_rank key.members q) refl (λ p lt. none_gathered top (length key.members) (member_at key.members) (seat w.parts key) k zero (λ z z_lt. nobody (member_at key.members z) key) p lt) in
    let a = all_own_is (part_at w q).gathered key in
    a ∙ subst (λ z. own_of z ≡ true) (sym none) refl
  where
    go : (b : Bool) → has_rank key.members q ≡ b → ((p : ℕ) → p < length key.members → (seat w.parts key p).offers ≡ []) → of_key (part_at w q).gathered key ≡ []
    go true m none = let p = member_place key.members q m in ap (λ (v : View). v.offers) (sym (seat_is w key q m)) ∙ none (place_in key.members q) p.0
    go false m none = of_key_none (length w.parts) q (part_at w q).gathered key m (h.offers q)

-- an owner is offered
pub kept-owner : (top : ℕ) (w : World) → Kept top w → (r : ℕ) (key : Key) → is_key (part_at w r).owner key ≡ true → is_offered (stage_of (part_at w r).opened key) ≡ true
kept-owner top w h r key e = let o : OwnerHasOffered w r key = owners_have_offered top w h r key e in let s = o.stage in rw s refl

-- a key in a round is no exchange
pub kept-plain : (top : ℕ) (w : World) (r : ℕ) (key : Key) (s : Stage) (i : ℕ) → Kept top w → stage_of (part_at w r).opened key ≡ Some s → is_in_round s i ≡ true → is_share key.kind ≡ false
kept-plain top w r key s i h e at = let x = in_round top w r key s i h e at in let good = x.good in grind (arith, good)
