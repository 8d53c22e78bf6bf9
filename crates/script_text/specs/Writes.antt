-- What writing values says.
use Rattle.std.specs.Prelude.{◌≡◌, ℕ, ◌+◌, ◌≤◌, List, ◌++◌, length, map}
use Rattle.script_text.specs.Tokens.{spaced, in_line}
use Rattle.script_text.specs.Spelling.{Value, text_of, tokens_of}
use Rattle.mpi_base.specs.declared.ops.Op.{Op}

-- the tokens of these values are added, with a space before each, in at most so many bytes
pub record Puts (most : ℕ) (vs : List Value) (old new : List ℕ) : Type 0 where
  pub added : new ≡ old ++ spaced (map text_of vs)
  pub short : length new ≤ length old + most

-- the spelling with one space between two tokens
abbrev pub line_of : Op → List ℕ
line_of op = in_line (tokens_of op)
