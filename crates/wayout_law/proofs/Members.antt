-- A communicator has fewer other members than there are ranks.
use Rattle.std.proofs.Common.{◌≡◌, ◌<◌, ◌≤◌, ◌==◌, ◌||◌, not, ℕ, Bool, true, false, List, [], ◌∷◌, length, refl, arith, eqb}
use Rattle.std.specs.Prelude.{if◌then◌else◌, nat_lt}
use Rattle.std.specs.List.{list_any, list_all, AllByRecursion, IsDistinct}
use Rattle.std.proofs.lemmas.Bool.Decides.{nat_tests}
use Rattle.std.proofs.lemmas.Map.Steps.{length-le_from_distinct_below}
use Rattle.mpi_base.specs.MemberLists.{has_rank, are_distinct}
use Rattle.agree_law.proofs.Lists.{AllOf}
use Rattle.comm_law.specs.declared.rows.CommRow.{CommRow}
use Rattle.projection_law.specs.Premises.{are_distinct_ranks}
use Rattle.projection_law.proofs.Rows.{RowFits}
use Rattle.wayout_law.proofs.Leaves.{others, FewOthers}

-- distinct by the test of keys is distinct by std's word
distinct_is : (ms : List ℕ) → are_distinct ms ≡ true → IsDistinct eqb ms
unfolding IsDistinct
distinct_is [] d = tt
distinct_is (m ∷ ms) d = (apart ms m (grind (arith, d)), distinct_is ms (grind (arith, d)))
  where
    apart : (ms : List ℕ) (r : ℕ) → has_rank ms r ≡ false → AllByRecursion (λ y. eqb r y ≡ false) ms
    apart [] r n = tt
    apart (x ∷ xs) r n = (grind (arith, nat_tests, n), apart xs r (grind (arith, nat_tests, n)))

below : (n : ℕ) (ms : List ℕ) (q : ℕ) → list_all (λ m. nat_lt m n) ms ≡ true → list_any (eqb q) ms ≡ true → q < n
below n [] q b h = absurd (cc)
below n (m ∷ ms) q b h = go (eqb q m) refl h (below n ms q (grind (arith, b)))
  where
    go : (e : Bool) → eqb q m ≡ e → (e || list_any (eqb q) ms) ≡ true → (list_any (eqb q) ms ≡ true → q < n) → q < n
    go true e k ih = grind (arith, nat_tests, e, b)
    go false e k ih = ih k

-- distinct ranks are no more than there are
members_fit : (n : ℕ) (ms : List ℕ) → are_distinct_ranks n ms ≡ true → length ms ≤ n
members_fit n ms e = length-le_from_distinct_below ms n (distinct_is ms (grind (arith, e))) (λ q h. below n ms q (grind (arith, e)) h)

-- a member is none of the others
fewer_others : (r : ℕ) (ms : List ℕ) → length (others r ms) ≤ length ms
fewer_others r [] = omega arith
fewer_others r (m ∷ ms) = go (m == r) (fewer_others r ms)
  where
    go : (b : Bool) → length (others r ms) ≤ length ms → length (if not b then m ∷ others r ms else others r ms) ≤ length (m ∷ ms)
    go true ih = omega (arith, ih)
    go false ih = omega (arith, ih)

less_others : (r : ℕ) (ms : List ℕ) → has_rank ms r ≡ true → length (others r ms) < length ms
less_others r [] e = absurd (cc)
less_others r (m ∷ ms) e = go (m == r) refl (less_others r ms)
  where
    go : (b : Bool) → (m == r) ≡ b → (has_rank ms r ≡ true → length (others r ms) < length ms) → length (if not b then m ∷ others r ms else others r ms) < length (m ∷ ms)
    go true s ih = let f = fewer_others r ms in omega (arith, f)
    go false s ih = let i = ih (grind (arith, e, s)) in omega (arith, i)

pub few_others : (n top r : ℕ) (rows : List CommRow) → AllOf (RowFits n top r) rows → FewOthers n r rows
few_others n top r [] h = tt
few_others n top r (m ∷ ms) h =
    let fit = h.0 in
    let a = less_others r m.members fit.here in
    let b = members_fit n m.members fit.ranks in
    (omega (arith, a, b), few_others n top r ms h.1)
