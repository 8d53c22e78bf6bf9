-- How many receives of a box are posted on a context: a word of the tables of code.
use Rattle.std.specs.Prelude.{ℕ, ◌==◌, filter, length}
use Rattle.match_law.specs.Box.{Box}

-- how many receives are posted on a context
abbrev pub posted_on : Box → ℕ → ℕ
posted_on b c = length (filter (λ x. x.ctx == c) b.posted)
