-- The least context of a mask.
use Rattle.std.specs.Prelude.{ℕ, Bool, List, position, Option}

-- the least context that is free in the mask
abbrev pub least_true : List Bool → Option ℕ
least_true xs = position (λ b. b) xs
