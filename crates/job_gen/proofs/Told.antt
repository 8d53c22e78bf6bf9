-- What a reader of numbers says of a word.
use Rattle.std.proofs.Common.{◌≡◌, ℕ, ◌<◌, ◌≤◌, ◌^◌, Bool, true, false, if◌then◌else◌, nat_le, List, Option, Some, None, Ok, refl, ap, ◌∙◌, arith}
use Rattle.std.proofs.lemmas.Bool.Decides.{nat_tests}
use Rattle.std.specs.Str.Parse.{digits_value}
use Rattle.std.proofs.lemmas.Fmt.{decimal_is_IsNumeral}
use Rattle.token_text.specs.declared.faults.TokenFault.{TokenFault}
use Rattle.token_text.specs.declared.faults.TokenFault.TheVariants.{NotOfForm}
use Rattle.token_text.specs.Reading.{Reads}
use Rattle.token_text.specs.Numbers.{is_number, number_form}
use Rattle.job_gen.specs.Words.{told_by}

abbrev fault_if : Bool → Option TokenFault
fault_if b = if b then None else Some NotOfForm

no_fault : (b : Bool) → fault_if b ≡ None → b ≡ true
no_fault true e = refl
no_fault false e = absurd (cc (e))

-- what is read is a number, and this is its value
is_read : (most : ℕ) (word : List ℕ) (v : ℕ) → Reads (number_form most) word (Ok v) → is_number most word ≡ true
is_read most word v shows = no_fault (is_number most word) shows.good

value_read : (most : ℕ) (word : List ℕ) (v : ℕ) → most < 2 ^ 64 → Reads (number_form most) word (Ok v) → digits_value 10 word ≡ v
value_read most word v small shows =
    let fits = shows.fits in
    ap (digits_value 10) shows.text ∙ (decimal_is_IsNumeral v (omega (arith, fits, small))).1

-- two words that are read
both_read : (number ops : List ℕ) (n most : ℕ) → Reads (number_form 18446744073709551615) number (Ok n) → Reads (number_form 16384) ops (Ok most)
    → told_by number ops ≡ (if nat_le 20 most then Some (n, most) else None)
both_read number ops n most a b =
    rw (is_read _ number n a, is_read _ ops most b, value_read _ number n (omega arith) a, value_read _ ops most (omega arith) b) refl

-- the second of them too low, or not
module _ (number ops : List ℕ) (n most : ℕ) (a : Reads (number_form 18446744073709551615) number (Ok n)) (b : Reads (number_form 16384) ops (Ok most)) where
  pub read_few : most < 20 → told_by number ops ≡ None
  read_few l = let test : nat_le 20 most ≡ false = grind (arith, nat_tests, l) in both_read number ops n most a b ∙ rw test refl

  pub read_enough : 20 ≤ most → told_by number ops ≡ Some (n, most)
  read_enough l = let test : nat_le 20 most ≡ true = grind (arith, nat_tests, l) in both_read number ops n most a b ∙ rw test refl
