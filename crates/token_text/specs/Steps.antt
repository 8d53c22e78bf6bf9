-- Words for the private steps of reading; no public contract rests on them.
use Rattle.std.specs.Prelude.{ℕ, ◌+◌, ◌-◌, ◌*◌, ◌==◌, if◌then◌else◌, List, [], ◌∷◌, nat_lt, nat_le, ◌&&◌, Option, Some, None, ◌≡◌, Bool, true, false, ℤ, Result, Ok, Err}
use Rattle.std.specs.List.{slice_split}
use Rattle.std.specs.Fmt.{signed_decimal}
use Rattle.mpi_base.specs.Texts.{between}
use Rattle.token_text.specs.Numbers.{is_int, IsInt}
use Rattle.token_text.specs.declared.faults.TokenFault.{TokenFault}
use Rattle.token_text.specs.declared.faults.TokenFault.TheVariants.{NotOfForm}

-- the number that a hex digit stands for
abbrev pub hex_value : ℕ → ℕ
hex_value b = if nat_lt b 58 then b - 48 else b - 87

-- the bytes that hex digits stand for, two for each
abbrev pub hex_bytes : List ℕ → List ℕ
hex_bytes [] = []
hex_bytes (a ∷ []) = []
hex_bytes (a ∷ b ∷ bs) = (16 * hex_value a + hex_value b) ∷ hex_bytes bs

-- the parts of a text that are still to come, and the mark between them
pub record Ahead : Type 0 where
  pub mark : ℕ
  pub parts : List (List ℕ)

-- the parts of the rest of a text, if there is a rest
abbrev pub parts_ahead : ℕ → Option (List ℕ) → List (List ℕ)
parts_ahead mark None = []
parts_ahead mark (Some rest) = slice_split (λ b. b == mark) rest

-- the first of some parts, if there is one
abbrev pub first_of : List (List ℕ) → Option (List ℕ)
first_of [] = None
first_of (t ∷ ts) = Some t

-- the others
abbrev pub others_of : List (List ℕ) → List (List ℕ)
others_of [] = []
others_of (t ∷ ts) = ts

-- the number so far with more digits behind it; None where another byte is among them, or the number is too great
abbrev pub digits_on : ℕ → ℕ → List ℕ → Option ℕ
digits_on most n [] = Some n
digits_on most n (b ∷ bs) = if between 48 57 b && nat_le (n * 10 + (b - 48)) most then digits_on most (n * 10 + (b - 48)) bs else None

-- whether the first of some parts is a number
abbrev pub begins_with_int : List (List ℕ) → Bool
begins_with_int [] = false
begins_with_int (t ∷ ts) = is_int t

-- the first of some parts is taken as a number
abbrev pub TakesInt : List (List ℕ) → Result ℤ TokenFault → List (List ℕ) → Type 0
TakesInt old (Ok z) new = (old ≡ signed_decimal z ∷ new) × (is_int (signed_decimal z) ≡ true) × IsInt z
TakesInt old (Err fault) new = (fault ≡ NotOfForm) × (begins_with_int old ≡ false)
