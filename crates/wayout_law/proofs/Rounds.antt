-- The round of a key at its first member, against its members and the packets on their way. And the heart of the way out: where
-- no packet is on its way and no offer is due in a round, the round is whole at the first member.
use Rattle.std.proofs.Common.{◌≡◌, ◌<◌, ◌≤◌, ◌+◌, not, ℕ, zero, suc, Bool, true, false, List, [], ◌∷◌, slice_get, Option, Some, None, refl, sym, subst, ◌∙◌, arith}
use Rattle.std.specs.List.{list_all, list_any}
use Rattle.std.proofs.lemmas.Bool.Decides.{nat_tests}
use Rattle.mpi_base.specs.declared.keys.Key.{Key}
use Rattle.agree_law.specs.declared.rows.Stage.{Stage}
use Rattle.agree_law.specs.declared.rows.Stage.TheVariants.{Sharing, Called, Waiting, Offered, Done}
use Rattle.agree_law.specs.declared.rows.Verdict.{Verdict}
use Rattle.agree_law.specs.Tree.{parent_of, is_child, children_of}
use Rattle.agree_law.specs.Part.{Offer}
use Rattle.agree_law.specs.Packets.{Down}
use Rattle.agree_law.specs.Offers.{is_due}
use Rattle.agree_law.specs.World.{Flight}
use Rattle.agree_law.proofs.Lists.{AllOf, AllOf_at, tally, tally-without, tally_any, one}
use Rattle.agree_law.proofs.TreeFacts.{parent_below, child_above, AllOf_children}
use Rattle.agree_law.proofs.RowFacts.{at_place, is_whole}
use Rattle.agree_law.proofs.KeyKept.{View, down_to_rank, FliesAt, stage_fits, next_round, KeyKept}
use Rattle.agree_law.proofs.Links.{flight}
use Rattle.agree_law.proofs.Decide.{whole_child}

-- above a place whose gather is not whole all are in its round
level_above : (top n : ℕ) (m : ℕ → ℕ) (V : ℕ → View) (fs : List Flight) → KeyKept top n m V fs → (k p : ℕ) → p ≤ k → p < n → is_whole (V p).offers p n ≡ false → (V p).round ≡ (V 0).round
level_above top n m V fs h k zero le lt not_whole = refl
level_above top n m V fs h zero (suc p) le lt not_whole = absurd (omega (arith, le))
level_above top n m V fs h (suc k) (suc p) le lt not_whole =
    let pos : 0 < suc p = omega arith in
    let t = h.token (suc p) pos lt in
    let less = parent_below (suc p) pos in
    let z : one (not (is_whole (V (suc p)).offers (suc p) n)) ≡ 1 = rw not_whole refl in
    let downs : tally (down_to_rank (m (suc p))) fs ≡ 0 = omega (arith, t, z) in
    let above : tally (at_place (suc p)) (V (parent_of (suc p))).offers ≡ 0 = omega (arith, t, z) in
    let child : is_child (parent_of (suc p)) (suc p) ≡ true = grind (arith, nat_tests, pos) in
    let up : is_whole (V (parent_of (suc p))).offers (parent_of (suc p)) n ≡ false = lacks (is_whole (V (parent_of (suc p))).offers (parent_of (suc p)) n) refl child above in
    h.level (suc p) pos lt downs ∙ level_above top n m V fs h k (parent_of (suc p)) (omega (arith, le, less)) (omega (arith, less, lt)) up
  where
    lacks : (b : Bool) → is_whole (V (parent_of (suc p))).offers (parent_of (suc p)) n ≡ b → is_child (parent_of (suc p)) (suc p) ≡ true → tally (at_place (suc p)) (V (parent_of (suc p))).offers ≡ 0 → is_whole (V (parent_of (suc p))).offers (parent_of (suc p)) n ≡ false
    lacks false e c z = e
    lacks true e c z = let a = whole_child (V (parent_of (suc p))).offers (parent_of (suc p)) n (suc p) e c lt in absurd (omega (arith, a, z))

-- the first member is in the round to which a verdict on its way leads
pub down_round : (top n : ℕ) (m : ℕ → ℕ) (V : ℕ → View) (fs : List Flight) → KeyKept top n m V fs → (place from to i : ℕ) (key : Key) (v : Verdict) → slice_get fs place ≡ Some (flight from to (Down key i v)) → (V 0).round ≡ next_round i v
down_round top n m V fs h place from to i key v there =
    let flies : FliesAt top n m V (flight from to (Down key i v)) = AllOf_at (FliesAt top n m V) fs place (flight from to (Down key i v)) there h.flown in
    let p : ℕ = flies.0 in
    let e = flies.1 in
    let above = e.above in
    let low = e.low in
    let t = h.token p e.above e.inside in
    let has = tally-without (down_to_rank (m p)) fs place (flight from to (Down key i v)) there in
    let is : down_to_rank (m p) (flight from to (Down key i v)) ≡ true = grind (arith, nat_tests, low) in
    let z : one (down_to_rank (m p) (flight from to (Down key i v))) ≡ 1 = rw is refl in
    let none : tally (at_place p) (V (parent_of p)).offers ≡ 0 = omega (arith, t, has, z) in
    let child : is_child (parent_of p) p ≡ true = grind (arith, nat_tests, above) in
    let less = parent_below p e.above in
    let inside = e.inside in
    let up = lacks p e.inside (is_whole (V (parent_of p)).offers (parent_of p) n) refl child none in
    sym (level_above top n m V fs h (parent_of p) (parent_of p) (omega arith) (omega (arith, less, inside)) up) ∙ flies.3
  where
    lacks : (p : ℕ) → p < n → (b : Bool) → is_whole (V (parent_of p)).offers (parent_of p) n ≡ b → is_child (parent_of p) p ≡ true → tally (at_place p) (V (parent_of p)).offers ≡ 0 → is_whole (V (parent_of p)).offers (parent_of p) n ≡ false
    lacks p lt false e c z = e
    lacks p lt true e c z = let a = whole_child (V (parent_of p)).offers (parent_of p) n p e c lt in absurd (omega (arith, a, z))

-- with nothing on its way all members are in one round
pub level_still : (top n : ℕ) (m : ℕ → ℕ) (V : ℕ → View) → KeyKept top n m V [] → (k p : ℕ) → p ≤ k → p < n → (V p).round ≡ (V 0).round
level_still top n m V h k zero le lt = refl
level_still top n m V h zero (suc p) le lt = absurd (omega (arith, le))
level_still top n m V h (suc k) (suc p) le lt =
    let pos : 0 < suc p = omega arith in
    let less = parent_below (suc p) pos in
    h.level (suc p) pos lt refl ∙ level_still top n m V h k (parent_of (suc p)) (omega (arith, le, less)) (omega (arith, less, lt))

-- a member past the first round that owes no offer has its own gathered
own_there : (s : Option Stage) (g c : ℕ) (owns : Bool) → 0 < g → is_due s ≡ false → stage_fits s g c owns ≡ true → 1 ≤ c
own_there None g c owns pos due e = absurd (grind (arith, nat_tests, pos, e))
own_there (Some (Sharing s)) g c owns pos due e = absurd (cc)
own_there (Some Called) g c owns pos due e = absurd (grind (arith, nat_tests, pos, e))
own_there (Some (Waiting i)) g c owns pos due e = absurd (cc)
own_there (Some (Offered i own)) g c owns pos due e = let is : c ≡ 1 = grind (arith, nat_tests, e) in omega (arith, is)
own_there (Some (Done o)) g c owns pos due e = absurd (grind (arith, nat_tests, pos, e))

children_all : (f : ℕ → Bool) (p n : ℕ) → ((q : ℕ) → is_child p q ≡ true → q < n → f q ≡ true) → list_all f (children_of p n) ≡ true
children_all f p n h = go (children_of p n) (AllOf_children p n)
  where
    go : (qs : List ℕ) → AllOf (λ z. (is_child p z ≡ true) × (z < n)) qs → list_all f qs ≡ true
    go [] all = refl
    go (q ∷ qs) all = let a = h q all.0.0 all.0.1 in let ih = go qs all.1 in grind (arith, a, ih)

any_of : (os : List Offer) (q : ℕ) → 1 ≤ tally (at_place q) os → list_any (at_place q) os ≡ true
any_of os q le = let a = tally_any (at_place q) os in grind (arith, nat_tests, a, le)

-- with nothing on its way, where each member's own offer is gathered each place is whole
pub own_whole : (top n : ℕ) (m : ℕ → ℕ) (V : ℕ → View) → KeyKept top n m V [] → ((p : ℕ) → p < n → 1 ≤ tally (at_place p) (V p).offers) → (k p : ℕ) → n ≤ p + k → p < n → is_whole (V p).offers p n ≡ true
unfolding is_whole
own_whole top n m V h own zero p le lt = absurd (omega (arith, le, lt))
own_whole top n m V h own (suc k) p le lt =
    let here = any_of (V p).offers p (own p lt) in
    let below = children_all (λ q. list_any (at_place q) (V p).offers) p n (λ q child in_n. any_of (V p).offers q (under q child in_n (own_whole top n m V h own k q (higher q child) in_n))) in
    grind (arith, here, below)
  where
    higher : (q : ℕ) → is_child p q ≡ true → n ≤ q + k
    higher q child = let c = child_above p q child in omega (arith, c, le)

    under : (q : ℕ) → is_child p q ≡ true → q < n → is_whole (V q).offers q n ≡ true → 1 ≤ tally (at_place q) (V p).offers
    under q child in_n whole =
        let c = child_above p q child in
        let t = subst (λ z. one (not (is_whole (V q).offers q n)) + 0 + 0 + tally (at_place q) (V z).offers ≡ 1) c.1 (h.token q c.2 in_n) in
        let z : one (not (is_whole (V q).offers q n)) ≡ 0 = rw whole refl in
        omega (arith, t, z)

-- the heart: nothing on its way, no offer due, past the first round: each place is whole
pub round_whole : (top n : ℕ) (m : ℕ → ℕ) (V : ℕ → View) → KeyKept top n m V [] → 0 < (V 0).round → ((p : ℕ) → p < n → is_due (V p).stage ≡ false) → (k p : ℕ) → n ≤ p + k → p < n → is_whole (V p).offers p n ≡ true
round_whole top n m V h pos due k p le lt = own_whole top n m V h (λ q in_n. own q in_n) k p le lt
  where
    own : (q : ℕ) → q < n → 1 ≤ tally (at_place q) (V q).offers
    own q in_n = let level = level_still top n m V h q q (omega arith) in_n in own_there (V q).stage (V q).round (tally (at_place q) (V q).offers) (V q).owns (rw level pos) (due q in_n) (h.fits q in_n)
