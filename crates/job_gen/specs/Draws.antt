-- Numbers that are drawn, and the rounds that they tell. This project's own; the numbers are those of a linear congruential
-- generator modulo 2 to the 64th, of which the upper 31 bits are given.
use Rattle.std.specs.Prelude.{ℕ, ◌+◌, ◌*◌, ◌/◌, ◌%◌, ◌^◌, ◌==◌, if◌then◌else◌}
use Rattle.job_gen.specs.declared.parts.Part.{Part}
use Rattle.job_gen.specs.declared.parts.Part.TheVariants.{Duplicate, Split, Message, Create}

-- the state after one draw more
unfoldable pub next_state : ℕ → ℕ
next_state x = (x * 6364136223846793005 + 1442695040888963407) % 2 ^ 64

-- what the draw gives that led to a state
abbrev pub drawn : ℕ → ℕ
drawn x = x / 2 ^ 33

-- the same, as one of four
abbrev pub one_of_four : ℕ → ℕ
one_of_four x = drawn x % 4

-- a round, and the state that its draws leave
pub record Drawn : Type 0 where
  pub part : Part
  pub state : ℕ

-- the round with a number, of one of four kinds; its ranks are drawn next
abbrev pub round_of : ℕ → ℕ → ℕ → Drawn
round_of kind number x =
    if kind == 0 then record { part = Duplicate; state = x }
    else if kind == 1 then record { part = Split (one_of_four (next_state x)); state = next_state x }
    else if kind == 2 then record { part = Message (one_of_four (next_state x)) (one_of_four (next_state (next_state x))) number; state = next_state (next_state x) }
    else record { part = Create; state = x }

-- the round with a number that is drawn from a state: the first draw tells its kind
abbrev pub round_from : ℕ → ℕ → Drawn
round_from number x = round_of (one_of_four (next_state x)) number (next_state x)
