-- How many of something each context has.
use Rattle.std.specs.Prelude.{ℕ, nat_eq, List, Option, Some, None}
use Rattle.std.specs.Map.{lookup}

-- the counts by context, and for how many more contexts there is room
pub record Tally : Type 0 where
  pub counts : List (ℕ × ℕ)
  pub spare : ℕ

abbrev pub or_zero : Option ℕ → ℕ
or_zero None = 0
or_zero (Some n) = n

-- the count of a context, 0 where there is none
abbrev pub count_in : List (ℕ × ℕ) → ℕ → ℕ
count_in counts c = or_zero (lookup (nat_eq c) counts)
