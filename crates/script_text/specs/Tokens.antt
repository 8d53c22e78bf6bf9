-- The tokens of a line: what stands between spaces.
use Rattle.std.specs.Prelude.{ℕ, ◌+◌, ◌==◌, not, Bool, true, false, if◌then◌else◌, List, [], ◌∷◌, ◌++◌, map, find, Option, Some, None}
use Rattle.std.specs.List.{flat_map}

-- some bytes of a line, and the column of the first of them; columns count bytes from 1
pub record Token : Type 0 where
  pub column : ℕ
  pub text : List ℕ

-- whether a token goes on in these bytes
abbrev pub goes_on : List ℕ → Bool
goes_on [] = false
goes_on (b ∷ bs) = not (b == 32)

-- a byte at this column, before tokens of which the first goes on behind it
abbrev pub onto : ℕ → ℕ → List Token → List Token
onto column b [] = record { column = column; text = b ∷ [] } ∷ []
onto column b (t ∷ ts) = record { column = column; text = b ∷ t.text } ∷ ts

-- the tokens of bytes that begin at this column
unfoldable pub tokens : ℕ → List ℕ → List Token
tokens column [] = []
tokens column (b ∷ bs) =
    if b == 32 then tokens (column + 1) bs
    else if goes_on bs then onto column b (tokens (column + 1) bs)
    else record { column = column; text = b ∷ [] } ∷ tokens (column + 1) bs

-- tokens without their columns
abbrev pub texts : List Token → List (List ℕ)
texts ts = map (λ t. t.text) ts

-- the tokens of a line, without their columns
abbrev pub words : List ℕ → List (List ℕ)
words line = texts (tokens 1 line)

-- tokens with a space before each
abbrev pub spaced : List (List ℕ) → List ℕ
spaced ts = flat_map (λ t. 32 ∷ t) ts

-- tokens with one space between two
abbrev pub in_line : List (List ℕ) → List ℕ
in_line [] = []
in_line (t ∷ ts) = t ++ spaced ts

-- whether there is no byte here, or a `#`
abbrev pub is_none_or_mark : Option ℕ → Bool
is_none_or_mark None = true
is_none_or_mark (Some b) = b == 35

-- whether a line has only spaces, or `#` as its first byte that is no space
abbrev pub is_blank_line : List ℕ → Bool
is_blank_line line = is_none_or_mark (find (λ b. not (b == 32)) line)
