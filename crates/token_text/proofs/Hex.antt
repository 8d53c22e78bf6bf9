-- Bytes and their hexadecimal digits.
use Rattle.std.proofs.Common.{◌≡◌, ℕ, suc, ◌+◌, ◌*◌, ◌/◌, ◌%◌, ◌<◌, ◌≤◌, ◌&&◌, Bool, true, false, List, [], ◌∷◌, ◌++◌, length, drop, get_or, drop-cons, add-one, append_assoc, sym, ◌∙◌, refl, ap, arith}
use Rattle.std.proofs.lemmas.Bool.Decides.{nat_tests}
use Rattle.std.specs.List.{AllByRecursion, list_all}
use Rattle.token_text.specs.Reading.{Shows}
use Rattle.token_text.specs.Texts.{is_hex_digit, hex_digit, hex_digits, are_hex_digits, hex_form}
use Rattle.token_text.specs.Steps.{hex_value, hex_bytes}

-- a digit stands for a number below 16, and for no other
value_small : (b : ℕ) → is_hex_digit b ≡ true → (hex_value b < 16) × (hex_digit (hex_value b) ≡ b)
value_small b h = (grind (arith, nat_tests, h), grind (arith, nat_tests, h))

-- a number below 16 has a digit that stands for it
digit_good : (d : ℕ) → d < 16 → (is_hex_digit (hex_digit d) ≡ true) × (hex_value (hex_digit d) ≡ d)
digit_good d h = (grind (arith, nat_tests, h), grind (arith, nat_tests, h))

-- digits by pairs
are_pairs : List ℕ → Bool
are_pairs [] = true
are_pairs (a ∷ []) = false
are_pairs (a ∷ b ∷ bs) = is_hex_digit a && (is_hex_digit b && are_pairs bs)

-- two digits less are as even
two_less : (n : ℕ) → suc (suc n) % 2 ≡ n % 2
two_less n = omega arith

-- digits of an even number are pairs
pairs : (t : List ℕ) → length t % 2 ≡ 0 → list_all is_hex_digit t ≡ true → are_pairs t ≡ true
unfolding are_pairs
pairs [] h k = refl
pairs (a ∷ []) h k = absurd (omega (arith, h))
pairs (a ∷ b ∷ bs) h k =
    let x : is_hex_digit a ≡ true = grind (arith, k) in
    let y : is_hex_digit b ≡ true = grind (arith, k) in
    let z : list_all is_hex_digit bs ≡ true = grind (arith, k) in
    let ih = pairs bs (sym (two_less (length bs)) ∙ h) z in
    rw (x, y) ih

-- pairs of digits are those of the bytes that they stand for
pairs_found : (t : List ℕ) → are_pairs t ≡ true → (hex_digits (hex_bytes t) ≡ t) × AllByRecursion (λ b. b < 256) (hex_bytes t) × (2 * length (hex_bytes t) ≡ length t)
unfolding are_pairs
pairs_found [] h = (refl, tt, refl)
pairs_found (a ∷ []) h = absurd (cc)
pairs_found (a ∷ b ∷ bs) h =
    let x : is_hex_digit a ≡ true = grind (arith, h) in
    let y : is_hex_digit b ≡ true = grind (arith, h) in
    let z : are_pairs bs ≡ true = grind (arith, h) in
    let p = value_small a x in
    let q = value_small b y in
    let ih = pairs_found bs z in
    let u : (16 * hex_value a + hex_value b) / 16 ≡ hex_value a = omega (arith, p.0, q.0) in
    let v : (16 * hex_value a + hex_value b) % 16 ≡ hex_value b = omega (arith, p.0, q.0) in
    (rw (u, v, p.1, q.1, ih.0) refl, (omega (arith, p.0, q.0), ih.1), omega (arith, ih.2))

-- the same of a token
digits_found : (t : List ℕ) → are_hex_digits t ≡ true → (hex_digits (hex_bytes t) ≡ t) × AllByRecursion (λ b. b < 256) (hex_bytes t) × (2 * length (hex_bytes t) ≡ length t)
digits_found t h = let e : length t % 2 ≡ 0 = grind (arith, nat_tests, h) in let k : list_all is_hex_digit t ≡ true = grind (arith, h) in pairs_found t (pairs t e k)

-- how many bytes the digits of a token stand for
pub hex_half : (t : List ℕ) → are_hex_digits t ≡ true → 2 * length (hex_bytes t) ≡ length t
hex_half t h = (digits_found t h).2

-- digits that are not too many show the bytes that they stand for
pub hex_found : (t : List ℕ) → are_hex_digits t ≡ true → length t ≤ 512 → Shows hex_form t (hex_bytes t)
hex_found t h l = go (hex_bytes t) refl
  where
    go : (bs : List ℕ) → hex_bytes t ≡ bs → Shows hex_form t bs
    go [] q = absurd (let m = (digits_found t h).2 in let z = ap length q in let n : 0 < length t = grind (arith, nat_tests, h) in omega (arith, m, z, n))
    go (b ∷ bs) q =
        let f = digits_found t h in
        let m = f.2 in
        let z = ap length q in
        record {
          good = grind (arith, nat_tests, h, l);
          text = (let g = f.0 in rw q at (sym g));
          fits = record { each = (let g = f.1 in rw q at g); short = omega (arith, m, z, l) };
        }

-- the digits of bytes are hex digits that stand for them
pub digits_again : (bs : List ℕ) → AllByRecursion (λ b. b < 256) bs → (list_all is_hex_digit (hex_digits bs) ≡ true) × (hex_bytes (hex_digits bs) ≡ bs) × (length (hex_digits bs) ≡ 2 * length bs)
digits_again [] h = (refl, refl, refl)
digits_again (b ∷ bs) h =
    let ih = digits_again bs h.1 in
    let low = h.0 in
    let x : b / 16 < 16 = omega (arith, low) in
    let y : b % 16 < 16 = omega arith in
    let p = digit_good (b / 16) x in
    let q = digit_good (b % 16) y in
    let s : 16 * (b / 16) + b % 16 ≡ b = omega arith in
    (rw (p.0, q.0) ih.0, rw (p.1, q.1, s) (ap (λ (r : List ℕ). b ∷ r) ih.1), omega (arith, ih.2))

-- one byte more, where a loop over the pairs stands
hex_step : (t : List ℕ) (i : ℕ) → 2 * i + 1 < length t
    → hex_bytes (drop (2 * i) t) ≡ (16 * hex_value (get_or t (2 * i) 0) + hex_value (get_or t (2 * i + 1) 0)) ∷ hex_bytes (drop (2 * (i + 1)) t)
hex_step t i h =
    let a : 2 * i < length t = omega (arith, h) in
    let e : 2 * (i + 1) ≡ suc (suc (2 * i)) = omega arith in
    let p = drop-cons t (2 * i) 0 a in
    let b : suc (2 * i) < length t = omega (arith, h) in
    let q = drop-cons t (suc (2 * i)) 0 b in
    rw (p, q, e, add-one) refl

-- the same where a byte was pushed
pub hex_pushed : (old new t : List ℕ) (i x y : ℕ) → 2 * i + 1 < length t → x ≡ hex_value (get_or t (2 * i) 0) → y ≡ hex_value (get_or t (2 * i + 1) 0)
    → new ≡ old ++ (16 * x + y) ∷ [] → old ++ hex_bytes (drop (2 * i) t) ≡ hex_bytes t → new ++ hex_bytes (drop (2 * (i + 1)) t) ≡ hex_bytes t
hex_pushed old new t i x y h p q e k =
    rw (e, append_assoc, p, q) (rw (hex_step t i h) at k)

-- one byte more, where a loop over the bytes stands
pub pairs_on : (bs : List ℕ) (i : ℕ) → i < length bs → hex_digits (drop i bs) ≡ hex_digit (get_or bs i 0 / 16) ∷ hex_digit (get_or bs i 0 % 16) ∷ hex_digits (drop (i + 1) bs)
pairs_on bs i h = rw (add-one, drop-cons bs i 0) refl
