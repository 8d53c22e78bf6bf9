-- Names, tags and bytes.
use Rattle.std.specs.Prelude.{ℕ, ◌<◌, ◌≤◌, ◌+◌, ◌-◌, ◌/◌, ◌%◌, ◌==◌, ◌&&◌, ◌||◌, Bool, if◌then◌else◌, List, [], ◌∷◌, ◌++◌, nat_lt, nat_le, length, slice_index, take, drop, codes, bytes_eq}
use Rattle.std.specs.List.{list_all, AllByRecursion}
use Rattle.mpi_base.specs.Texts.{between, begins_with_letter_lem, is_name_byte, is_pset_byte, is_tag_byte, IsName, IsPsetName, IsTag}
use Rattle.token_text.specs.Forms.{Form}

-- names: their bytes
abbrev pub name_form : Form (List ℕ)
name_form = record { text = λ s. s; Fits = IsName; has = λ t. begins_with_letter_lem t && list_all is_name_byte t; is_long = λ t. nat_lt 16 (length t) }

-- names of process sets: their bytes
abbrev pub pset_name_form : Form (List ℕ)
pset_name_form = record { text = λ s. s; Fits = IsPsetName; has = λ t. nat_lt 0 (length t) && list_all is_pset_byte t; is_long = λ t. nat_lt 32 (length t) }

-- whether a text has these two bytes at its ends
abbrev pub is_wrapped : ℕ → ℕ → List ℕ → Bool
is_wrapped first last t = nat_le 2 (length t) && ((slice_index t 0 == first) && (slice_index t (length t - 1) == last))

-- what stands between the first byte and the last
abbrev pub inside : List ℕ → List ℕ
inside t = take (length t - 2) (drop 1 t)

-- string tags, between quotes
abbrev pub tag_form : Form (List ℕ)
tag_form = record {
  text = λ s. 34 ∷ (s ++ 34 ∷ []);
  Fits = IsTag;
  has = λ t. is_wrapped 34 34 t && list_all is_tag_byte (inside t);
  is_long = λ t. nat_lt 63 (length (inside t));
}

-- `0` to `9` or `a` to `f`
abbrev pub is_hex_digit : ℕ → Bool
is_hex_digit b = between 48 57 b || between 97 102 b

-- the digit of a number below 16
abbrev pub hex_digit : ℕ → ℕ
hex_digit d = if nat_lt d 10 then 48 + d else 87 + d

-- two digits for each byte
abbrev pub hex_digits : List ℕ → List ℕ
hex_digits [] = []
hex_digits (b ∷ bs) = hex_digit (b / 16) ∷ hex_digit (b % 16) ∷ hex_digits bs

-- two digits for each byte, and `-` where there is none
abbrev pub hex_text : List ℕ → List ℕ
hex_text [] = codes "-"
hex_text (b ∷ bs) = hex_digits (b ∷ bs)

-- some hex digits, of an even number
abbrev pub are_hex_digits : List ℕ → Bool
are_hex_digits t = nat_lt 0 (length t) && (length t % 2 == 0) && list_all is_hex_digit t

-- at most 256 bytes
pub record IsBytes (bytes : List ℕ) : Type 0 where
  pub each : AllByRecursion (λ b. b < 256) bytes
  pub short : length bytes ≤ 256

-- the bytes of a message
abbrev pub hex_form : Form (List ℕ)
hex_form = record { text = hex_text; Fits = IsBytes; has = λ t. bytes_eq t (codes "-") || are_hex_digits t; is_long = λ t. nat_lt 512 (length t) }
