-- What a read does to the bytes that a source has left, where it tells them.
use Rattle.std.specs.Prelude.{◌≡◌, ℕ, ◌<◌, List, length, Option}
use Rattle.std.specs.Io.KnownBytes.{prepend_known, IsAtEnd}

-- the bytes left before are the given ones and then those left after; who does not tell the ones does not tell the others
abbrev pub Gives : Option (List ℕ) → List ℕ → Option (List ℕ) → Type 0
Gives before given after = before ≡ prepend_known given after

-- a read of no byte into a buffer with room came at the end of the input
abbrev pub EndsAtNothing : List ℕ → Option (List ℕ) → ℕ → Type 0
EndsAtNothing buf before n = n ≡ 0 → 0 < length buf → IsAtEnd before
