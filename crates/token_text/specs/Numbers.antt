-- Numbers in decimal digits.
use Rattle.std.specs.Prelude.{ℕ, ◌≤◌, ◌==◌, ◌&&◌, not, Bool, true, false, if◌then◌else◌, List, [], ◌∷◌, nat_le, ℤ, pos, negsuc, decimal}
use Rattle.std.specs.Fmt.{signed_decimal}
use Rattle.std.specs.Str.{all_ascii_digits}
use Rattle.std.specs.Str.Parse.{digits_value}
use Rattle.token_text.specs.Forms.{Form}

-- whether the first byte is this one
abbrev pub begins_with : ℕ → List ℕ → Bool
begins_with byte [] = false
begins_with byte (b ∷ bs) = b == byte

-- one byte, or more of them of which the first is not `0`
abbrev pub is_unpadded : List ℕ → Bool
is_unpadded [] = false
is_unpadded (b ∷ []) = true
is_unpadded (b ∷ c ∷ cs) = not (b == 48)

-- digits without a `0` in front, but for `0` itself
abbrev pub is_numeral : List ℕ → Bool
is_numeral t = is_unpadded t && all_ascii_digits t

-- a numeral of at most a greatest value
abbrev pub is_number : ℕ → List ℕ → Bool
is_number most t = is_numeral t && nat_le (digits_value 10 t) most

-- a number of 32 bits, or `-` and one that does not begin with `0`
abbrev pub is_int : List ℕ → Bool
is_int [] = false
is_int (b ∷ bs) = if b == 45 then (is_number 2147483648 bs && not (begins_with 48 bs)) else is_number 2147483647 (b ∷ bs)

-- from -2,147,483,648 to 2,147,483,647
abbrev pub IsInt : ℤ → Type 0
IsInt (pos n) = n ≤ 2147483647
IsInt (negsuc n) = n ≤ 2147483647

-- numbers of at most a greatest value
abbrev pub number_form : ℕ → Form ℕ
number_form most = record { text = decimal; Fits = λ n. n ≤ most; has = is_number most; is_long = λ t. false }

-- numbers without a sign, as operations have them
abbrev pub num_form : Form ℕ
num_form = number_form 2147483647

-- numbers with or without a sign
abbrev pub int_form : Form ℤ
int_form = record { text = signed_decimal; Fits = IsInt; has = is_int; is_long = λ t. false }
