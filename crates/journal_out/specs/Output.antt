-- What collecting lines before they are written does.
use Rattle.std.specs.Prelude.{◌≡◌, ℕ, List, ◌++◌, Option}
use Rattle.io_edge.specs.Sink.{Takes}

-- a line was put behind a piece: what was written of both, and the piece that is left, are the two together
pub record Collects (before : Option (List ℕ)) (piece line : List ℕ) (after : Option (List ℕ)) (left : List ℕ) : Type 0 where
  pub gone : List ℕ
  pub taken : Takes before gone after
  pub all : gone ++ left ≡ piece ++ line
