-- The tree in code.
use Rattle.std.proofs.Common.{◌≡◌, ◌≢◌, ℕ, zero, suc, ◌+◌, ◌*◌, ◌/◌, ◌%◌, ◌-◌, ◌≤◌, ◌<◌, ◌==◌, ◌^◌, Bool, true, false, List, [], ◌∷◌, refl, sym, ◌∙◌, ap, arith, if◌then◌else◌}
use Rattle.std.specs.Prelude.{position, is_some, slice_get, unwrap_or}
use Rattle.std.specs.List.{list_any}
use Rattle.std.specs.Int.RustNames.{bit_and}
use Rattle.std.proofs.lemmas.Bool.Decides.{nat_tests}
use Rattle.std.proofs.lemmas.Nat.{and_block}
use Rattle.agree_law.specs.Tree.{cleared, parent_of, member_at}

-- an odd number without its last bit
and-odd : (q : ℕ) → bit_and (q * 2 ^ 1 + 1) (q * 2 ^ 1 + 0) ≡ bit_and q q * 2 ^ 1 + 0
and-odd q = and_block 1 q q 1 0 (omega arith) (omega arith)

-- an even number without its lowest bit
and-even : (q : ℕ) → bit_and (suc q * 2 ^ 1 + 0) (q * 2 ^ 1 + 1) ≡ bit_and (suc q) q * 2 ^ 1 + 0
and-even q = and_block 1 (suc q) q 0 1 (omega arith) (omega arith)

bit_same : (r : ℕ) → r < 2 → bit_and r r ≡ r
bit_same zero h = refl
bit_same (suc zero) h = refl
bit_same (suc (suc r)) h = absurd (omega (arith, h))

-- a number and itself
and_same : (n q : ℕ) → q ≤ n → bit_and q q ≡ q
and_same zero q le = let is : q ≡ 0 = omega (arith, le) in rw is refl
and_same (suc n) q le =
    let less : q % 2 < 2 = omega arith in
    let whole : q / 2 * 2 ^ 1 + q % 2 ≡ q = omega arith in
    let ih = and_same n (q / 2) (omega (arith, le)) in
    let one = bit_same (q % 2) less in
    let block = and_block 1 (q / 2) (q / 2) (q % 2) (q % 2) less less in
    ap (λ (x : ℕ). bit_and x x) (sym whole) ∙ (block ∙ (ap (λ (x : ℕ). x * 2 ^ 1 + bit_and (q % 2) (q % 2)) ih ∙ (ap (λ (x : ℕ). q / 2 * 2 ^ 1 + x) one ∙ whole)))

-- the and with the number before it clears the lowest bit
and_before : (n p : ℕ) → p ≤ n → bit_and p (p - 1) ≡ cleared n p
and_before zero p le = let is : p ≡ 0 = omega (arith, le) in rw is refl
and_before (suc n) p le = go (p % 2 == 1) refl (and_before n (p / 2) (omega (arith, le)))
  where
    odd : p % 2 ≡ 1 → bit_and p (p - 1) ≡ p - 1
    odd is =
        let whole : p ≡ p / 2 * 2 ^ 1 + 1 = omega (arith, is) in
        let less : p - 1 ≡ p / 2 * 2 ^ 1 + 0 = omega (arith, is) in
        ap (λ (x : ℕ). bit_and x (p - 1)) whole
        ∙ (ap (λ (x : ℕ). bit_and (p / 2 * 2 ^ 1 + 1) x) less
        ∙ (and-odd (p / 2) ∙ (ap (λ (x : ℕ). x * 2 ^ 1 + 0) (and_same (p / 2) (p / 2) (omega arith)) ∙ sym less)))

    even : p % 2 ≡ 0 → (q : ℕ) → p / 2 ≡ q → bit_and q (q - 1) ≡ cleared n q → bit_and p (p - 1) ≡ 2 * cleared n q
    even is zero half ih = let none : p ≡ 0 = omega (arith, is, half) in let twice : 2 * cleared n zero ≡ 0 = omega (arith, ih) in rw none (sym twice)
    even is (suc q) half ih =
        let whole : p ≡ suc q * 2 ^ 1 + 0 = omega (arith, is, half) in
        let less : p - 1 ≡ q * 2 ^ 1 + 1 = omega (arith, is, half) in
        let before : q ≡ suc q - 1 = omega arith in
        let twice : cleared n (suc q) * 2 ^ 1 + 0 ≡ 2 * cleared n (suc q) = omega arith in
        ap (λ (x : ℕ). bit_and x (p - 1)) whole
        ∙ (ap (λ (x : ℕ). bit_and (suc q * 2 ^ 1 + 0) x) less
        ∙ (and-even q ∙ (ap (λ (x : ℕ). x * 2 ^ 1 + 0) (ap (λ (x : ℕ). bit_and (suc q) x) before ∙ ih) ∙ twice)))

    go : (b : Bool) → (p % 2 == 1) ≡ b → bit_and (p / 2) (p / 2 - 1) ≡ cleared n (p / 2)
        → bit_and p (p - 1) ≡ (if b then p - 1 else 2 * cleared n (p / 2))
    go true e ih = odd (grind (arith, nat_tests, e))
    go false e ih =
        let other : p % 2 ≢ 1 = grind (arith, nat_tests, e) in
        let is : p % 2 ≡ 0 = omega (arith, other) in
        even is (p / 2) refl ih

pub parent_of-and : (p : ℕ) → bit_and p (p - 1) ≡ parent_of p
unfolding parent_of
parent_of-and p = and_before p p (omega arith)

-- a member has a place
pub is_some-position : (p : ℕ → Bool) (ms : List ℕ) → is_some (position p ms) ≡ list_any p ms
is_some-position p [] = refl
is_some-position p (m ∷ ms) = let ih = is_some-position p ms in grind (arith, ih)

pub member_at-get : (ms : List ℕ) (p : ℕ) → unwrap_or (slice_get ms p) 0 ≡ member_at ms p
member_at-get [] p = refl
member_at-get (m ∷ ms) zero = refl
member_at-get (m ∷ ms) (suc p) = member_at-get ms p

pub ruleset tree_facts = (parent_of-and, is_some-position, member_at-get)
