-- The part of a mask in code that the agreement speaks of.
use Rattle.std.specs.Prelude.{ℕ, ◌+◌, ◌*◌, ◌<◌, ◌≤◌, Bool, List, take}

-- the places up to the greatest context
abbrev pub front : ℕ → List Bool → List Bool
front top mask = take (top + 1) mask

-- a mask of so many words has a place for each context
pub record HasPlaces (words top : ℕ) : Type 0 where
  pub some : 1 ≤ words
  pub few : words ≤ 32
  pub wide : top < 64 * words
