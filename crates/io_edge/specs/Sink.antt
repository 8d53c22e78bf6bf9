-- What a write does to the bytes that were written to a sink, where it tells them.
use Rattle.std.specs.Prelude.{◌≡◌, ℕ, ◌≤◌, ◌<◌, List, length, take, Option}
use Rattle.std.specs.Io.KnownBytes.{append_known}

-- the bytes written after are those before and then the taken ones; who does not tell the ones does not tell the others
abbrev pub Takes : Option (List ℕ) → List ℕ → Option (List ℕ) → Type 0
Takes before taken after = after ≡ append_known before taken

-- a front of the piece was taken, perhaps the empty one
abbrev pub TakesFront : Option (List ℕ) → List ℕ → Option (List ℕ) → Type 0
TakesFront before piece after = (k : ℕ) × (k ≤ length piece) × Takes before (take k piece) after

-- of a piece that is not empty something was taken
abbrev pub TakesSomething : List ℕ → ℕ → Type 0
TakesSomething piece n = 0 < length piece → 0 < n
