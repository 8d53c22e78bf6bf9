-- A list with the places of those elements that pass a test, and with the place of the first element with two numbers. This project's own.
use Rattle.std.specs.Prelude.{◌≡◌, ℕ, ◌==◌, Bool, if◌then◌else◌, List, Option, Some, None}
use Rattle.std.specs.List.{position}
use Rattle.central_comms.specs.declared.pairs.Pair.{Pair}
use Rattle.central_comms.specs.Pairs.{found_by}
use Rattle.central_comms.specs.Places.{places_where}

-- of rows: the places of those that pass, and the place of the first with two numbers
pub record IsIndexed {A : Type 0} (passes : A → Bool) (numbered : ℕ → ℕ → A → Bool) (kept : List ℕ) (places : List (Pair × ℕ)) (rows : List A) : Type 0 where
  pub passing : kept ≡ places_where passes rows
  pub first : (a b : ℕ) → found_by places a b ≡ position (numbered a b) rows

-- a place, unless it is this one
abbrev pub but_not : ℕ → Option ℕ → Option ℕ
but_not place None = None
but_not place (Some k) = if k == place then None else Some k
