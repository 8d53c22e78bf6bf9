-- What reading up to a limit gives.
use Rattle.std.specs.Prelude.{◌≡◌, ℕ, ◌<◌, ◌≤◌, List, length, drop, Option, Some}

-- a source that tells its bytes was read to its end, or to the byte after the most that an input may have
pub record ReadsAll (before after : Option (List ℕ)) : Type 0 where
  pub left : (xs : List ℕ) → before ≡ Some xs → after ≡ Some (drop 4194305 xs)

-- of a source that tells its bytes, at most so many were read
pub record ReadsAtMost (most : ℕ) (before after : Option (List ℕ)) : Type 0 where
  pub front : (xs : List ℕ) → before ≡ Some xs → (n : ℕ) × (n ≤ most) × (after ≡ Some (drop n xs))

-- a source that tells its bytes has more than 4 MiB
pub record TellsLong (before : Option (List ℕ)) : Type 0 where
  pub long : (xs : List ℕ) → before ≡ Some xs → 4194304 < length xs
