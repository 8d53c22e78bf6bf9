-- The form of payloads.
use Rattle.std.specs.Prelude.{ℕ, ◌≤◌, List, length}

-- at most 256 bytes of any value
pub record IsPayload (bytes : List ℕ) : Type 0 where
  pub short : length bytes ≤ 256
