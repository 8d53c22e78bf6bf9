-- Numbers and their digits.
use Rattle.std.proofs.Common.{◌≡◌, ℕ, zero, suc, ◌+◌, ◌-◌, ◌*◌, ◌^◌, ◌<◌, ◌≤◌, ◌==◌, ◌&&◌, Bool, true, false, cond, List, [], ◌∷◌, length, get_or, Option, Some, None, decimal, nat_le, refl, sym, ap, drop, drop-cons, add-one, ◌∙◌, subst, arith, ℤ, pos, negsuc, slice_index, take, to_z, of_z, w32, ◌-ℤ◌, ◌≢◌}
use Rattle.std.proofs.lemmas.Bool.Decides.{nat_tests}
use Rattle.std.proofs.lemmas.Str.{digit_value_digit}
use Rattle.std.proofs.lemmas.Fmt.{decimal-digits_value, digits_decimal, digits_value-decimal, decimal_nonempty, first_decimal, decimal_digit}
use Rattle.std.proofs.lemmas.Str.Parse.{IsNumeralModel, numerals_by_value, tells_all_ascii_digits}
use Rattle.std.proofs.lemmas.Int.{to_z-of_z, to_z_pos}
use Rattle.std.proofs.lemmas.List.{take_all}
use Rattle.std.specs.Char.{digit_value}
use Rattle.std.specs.Str.{all_ascii_digits}
use Rattle.std.specs.Str.Parse.{digits_value, digits_value_after}
use Rattle.mpi_base.specs.Texts.{between}
use Rattle.token_text.specs.Forms.{fault_of}
use Rattle.token_text.specs.Reading.{Shows}
use Rattle.token_text.specs.Numbers.{is_unpadded, is_numeral, is_number, number_form, int_form}
use Rattle.token_text.specs.Steps.{digits_on}
use Rattle.token_text.specs.declared.faults.TokenFault.TheVariants.{NotOfForm}

-- one more digit, where a loop over the text stands
pub digits_step : (most n i : ℕ) (t : List ℕ) → i < length t
    → digits_on most n (drop i t) ≡ cond (between 48 57 (get_or t i 0) && nat_le (n * 10 + (get_or t i 0 - 48)) most) (digits_on most (n * 10 + (get_or t i 0 - 48)) (drop (i + 1) t)) None
digits_step most n i t h = rw (add-one, drop-cons t i 0) refl

-- behind the last digit
pub digits_done : (most n : ℕ) (t : List ℕ) → digits_on most n (drop (length t) t) ≡ Some n
digits_done most n [] = refl
digits_done most n (b ∷ bs) = digits_done most n bs

pub ruleset digit_steps = (digits_step, digits_done, nat_tests)

-- more digits make no number smaller
value_rises : (n : ℕ) (t : List ℕ) → n ≤ digits_value_after 10 n t
value_rises n [] = omega arith
value_rises n (b ∷ bs) = let ih = value_rises (n * 10 + digit_value b) bs in omega (arith, ih)

-- the number of a text, if it has digits alone and is not too great
number_if : ℕ → ℕ → List ℕ → Option ℕ
number_if most n t = cond (all_ascii_digits t && nat_le (digits_value_after 10 n t) most) (Some (digits_value_after 10 n t)) None

-- the steps over the digits give the number of the whole text
digits_on_is : (most n : ℕ) (t : List ℕ) → n ≤ most → digits_on most n t ≡ number_if most n t
unfolding number_if
digits_on_is most n [] h = grind (arith, nat_tests, h)
digits_on_is most n (b ∷ bs) h = go (between 48 57 b) (nat_le (n * 10 + (b - 48)) most) refl refl (digits_on_is most (n * 10 + (b - 48)) bs)
  where
    go : (d s : Bool) → between 48 57 b ≡ d → nat_le (n * 10 + (b - 48)) most ≡ s → (n * 10 + (b - 48) ≤ most → digits_on most (n * 10 + (b - 48)) bs ≡ number_if most (n * 10 + (b - 48)) bs)
        → digits_on most n (b ∷ bs) ≡ number_if most n (b ∷ bs)
    go false s d e ih = grind (arith, nat_tests, d)
    go true s d e ih =
        let v : digit_value b ≡ b - 48 = omega (arith, digit_value_digit b (grind (arith, nat_tests, d))) in
        let r = value_rises (n * 10 + digit_value b) bs in
        grind (arith, nat_tests, d, e, ih, v, r)

-- std's numerals have the digits that `all_ascii_digits` tells
pub own : IsNumeralModel (λ ds. all_ascii_digits ds ≡ true) (digits_value 10)
own = numerals_by_value _ tells_all_ascii_digits

-- a numeral is the text of its value
numeral_found : (t : List ℕ) → is_numeral t ≡ true → digits_value 10 t < 2 ^ 64 → t ≡ decimal (digits_value 10 t)
numeral_found [] h s = absurd (cc)
numeral_found (b ∷ []) h s = sym (decimal-digits_value own (b ∷ []) (grind (arith, h)) (omega arith) (λ _. refl) s)
numeral_found (b ∷ c ∷ cs) h s =
    let d : all_ascii_digits (b ∷ c ∷ cs) ≡ true = grind (arith, h) in
    let z : (b == 48) ≡ false = grind (arith, h) in
    sym (decimal-digits_value own (b ∷ c ∷ cs) d (omega arith) (λ q. absurd (grind (arith, nat_tests, q, z))) s)

-- digits of which the first is not `0`, but for one digit, are a numeral
numeral_of : (t : List ℕ) → all_ascii_digits t ≡ true → 0 < length t → (get_or t 0 0 ≡ 48 → length t ≡ 1) → is_numeral t ≡ true
numeral_of [] d some first = absurd (omega arith)
numeral_of (b ∷ []) d some first = d
numeral_of (b ∷ c ∷ cs) d some first = let z : (b == 48) ≡ false = grind (arith, nat_tests, first) in grind (arith, d, z)

-- the text of a number is a numeral
pub decimal_numeral : (n : ℕ) → n < 2 ^ 64 → is_numeral (decimal n) ≡ true
decimal_numeral n h = numeral_of (decimal n) (digits_decimal own n h) (decimal_nonempty n h) (go n refl)
  where
    go : (m : ℕ) → n ≡ m → get_or (decimal n) 0 0 ≡ 48 → length (decimal n) ≡ 1
    go zero e q = ap length (decimal_digit n (omega (arith, e)))
    go (suc m) e q = absurd (let f = first_decimal n (omega (arith, e)) h in omega (arith, f, q))

-- the text of a number is of the form of numbers
pub decimal_number : (most n : ℕ) → n ≤ most → most < 2 ^ 64 → is_number most (decimal n) ≡ true
decimal_number most n s h =
    let a = decimal_numeral n (omega arith) in
    let v = digits_value-decimal own n (omega arith) in
    let l : nat_le n most ≡ true = grind (arith, nat_tests, s) in
    rw (a, v) l

-- a token of the form is the text of a number
pub number_found : (most : ℕ) (t : List ℕ) → most < 2 ^ 64 → is_number most t ≡ true → Shows (number_form most) t (digits_value 10 t)
number_found most t h e =
    let a : is_numeral t ≡ true = grind (arith, e) in
    let l : digits_value 10 t ≤ most = grind (arith, nat_tests, e) in
    record { good = rw e refl; text = numeral_found t a (omega (arith, l, h)); fits = l }

-- where the steps over the digits find a number, the token shows it
pub digits_good : (most n : ℕ) (t : List ℕ) → digits_on most 0 t ≡ Some n → is_unpadded t ≡ true → most < 2 ^ 64 → Shows (number_form most) t n
unfolding number_if
digits_good most n t e a h = go (is_number most t) refl (sym (digits_on_is most 0 t (omega arith)) ∙ e)
  where
    go : (d : Bool) → is_number most t ≡ d → number_if most 0 t ≡ Some n → Shows (number_form most) t n
    go true p q = let v : digits_value 10 t ≡ n = grind (arith, a, p, q) in subst (λ (m : ℕ). Shows (number_form most) t m) v (number_found most t h p)
    go false p q = absurd (grind (arith, a, p, q))

-- where they find none, it is not of the form
pub digits_bad : (most : ℕ) (t : List ℕ) → digits_on most 0 t ≡ None → is_unpadded t ≡ true → fault_of (number_form most) t ≡ Some NotOfForm
unfolding number_if
digits_bad most t e a = let q = sym (digits_on_is most 0 t (omega arith)) ∙ e in grind (arith, a, q)

-- a text is its first byte and what stands behind it
pub behind_first : (a : ℕ) (t : List ℕ) → 1 ≤ length t → slice_index t 0 ≡ a → t ≡ a ∷ take (length t - 1) (drop 1 t)
behind_first a [] l f = absurd (omega arith)
behind_first a (b ∷ bs) l f = let e : length (b ∷ bs) - 1 ≡ length bs = omega arith in rw (e, take_all (length bs) bs (omega arith)) (ap (λ (c : ℕ). c ∷ bs) f)

-- `-0` is no number
pub negative_zero : (t size : List ℕ) → t ≡ 45 ∷ size → Shows (number_form 2147483648) size 0 → fault_of int_form t ≡ Some NotOfForm
negative_zero t size e s =
    let d : size ≡ 48 ∷ [] = s.text ∙ decimal_digit 0 (omega arith) in
    rw (e, d) refl

-- `-` and a number that is not 0
negative_found : (t size : List ℕ) (n : ℕ) → t ≡ 45 ∷ size → Shows (number_form 2147483648) size (suc n) → Shows int_form t (negsuc n)
negative_found t size n e s =
    let x = s.fits in
    let z = s.good in
    let u = first_decimal (suc n) (omega arith) (omega (arith, x)) in
    let q = s.text in
    record { good = rw e (go size (rw (← q) at u) z); text = cc (e, q); fits = omega (arith, x) }
  where
    go : (bs : List ℕ) → 48 < get_or bs 0 0 → fault_of (number_form 2147483648) bs ≡ None → fault_of int_form (45 ∷ bs) ≡ None
    go [] u z = absurd (cc)
    go (b ∷ bs) u z = grind (arith, nat_tests, u, z)

-- one below a negative number
below_zero : (n : ℕ) → negsuc 0 -ℤ pos n ≡ negsuc n
below_zero zero = refl
below_zero (suc n) = ap negsuc (omega arith)

-- a number with a minus in front, as the machine computes it
minus_is : (n : ℕ) → n ≤ 2147483647 → to_z w32 (of_z w32 (negsuc 0 -ℤ to_z w32 (suc n - 1))) ≡ negsuc n
minus_is n h =
    let e : suc n - 1 ≡ n = omega arith in
    ap (λ m. to_z w32 (of_z w32 (negsuc 0 -ℤ to_z w32 m))) e
    ∙ ap (λ z. to_z w32 (of_z w32 (negsuc 0 -ℤ z))) (to_z_pos w32 n (omega (arith, h)))
    ∙ ap (λ z. to_z w32 (of_z w32 z)) (below_zero n)
    ∙ to_z-of_z w32 (negsuc n) (omega (arith, h))

-- the same where the size is a number that is not 0
pub negative_read : (t size : List ℕ) (n : ℕ) → t ≡ 45 ∷ size → n ≢ 0 → Shows (number_form 2147483648) size n → Shows int_form t (to_z w32 (of_z w32 (negsuc 0 -ℤ to_z w32 (n - 1))))
negative_read t size zero e z s = absurd (z refl)
negative_read t size (suc n) e z s = let x = s.fits in subst (λ (i : ℤ). Shows int_form t i) (sym (minus_is n (omega (arith, x)))) (negative_found t size n e s)
