-- What is found without a walk over all creations. This project's own.
use Rattle.std.specs.Prelude.{ℕ, ◌≡◌, ◌&&◌, if◌then◌else◌, Bool, List, Option, Some, None, position, unwrap_or}
use Rattle.central_comms.specs.declared.pairs.Pair.{Pair}
use Rattle.central_comms.specs.Pairs.{found_by}
use Rattle.central_comms.specs.Places.{places_where}
use Rattle.mpi_law.specs.Registry.State.{Creation, CreationName, Group_and_tag, Nth_dup, Nth_split, Group_on}
use Rattle.mpi_law.specs.Registry.Creations.{called_on, has_called, is_counted_on, same_name}
use Rattle.central_creations.specs.Waiting.{is_waiting}

-- how many calls of a rank on the communicator at a place are counted
abbrev pub count_in : List (Pair × ℕ) → ℕ → ℕ → ℕ
count_in calls p r = unwrap_or (found_by calls p r) 0

-- whether a creation counts as a call of a rank on the communicator at a place
abbrev pub counts_for : ℕ → ℕ → Creation → Bool
counts_for p r c = is_counted_on p c.name && has_called c r

-- the communicator on which a creation of this name counts, by its place
abbrev pub counted_parent : CreationName → Option ℕ
counted_parent (Group_and_tag group tag) = None
counted_parent (Nth_dup p n) = Some p
counted_parent (Nth_split p n) = Some p
counted_parent (Group_on p tag group) = None

-- the communicator on which a call of a rank would count
abbrev pub newly_counted : Creation → ℕ → Option ℕ
newly_counted c r = if has_called c r then None else counted_parent c.name

-- the place of the first split of this name
abbrev pub split_in : List (Pair × ℕ) → CreationName → Option ℕ
split_in splits (Group_and_tag group tag) = None
split_in splits (Nth_dup p n) = None
split_in splits (Nth_split p n) = found_by splits p n
split_in splits (Group_on p tag group) = None

-- what is found, or else a place where a test has passed
abbrev pub first_or : Option ℕ → Bool → ℕ → Option ℕ
first_or (Some q) passes place = Some q
first_or None passes place = if passes then Some place else None

-- the parent and the number of a split
abbrev pub split_of : CreationName → Option (ℕ × ℕ)
split_of (Group_and_tag group tag) = None
split_of (Nth_dup p n) = None
split_of (Nth_split p n) = Some (p, n)
split_of (Group_on p tag group) = None

-- the places of the creations that are not picked yet, each rank's counts of calls, and the place of the first split of each
-- name
pub record AreFound (waiting : List ℕ) (calls splits : List (Pair × ℕ)) (cs : List Creation) : Type 0 where
  pub places : waiting ≡ places_where is_waiting cs
  pub counts : (p r : ℕ) → count_in calls p r ≡ called_on cs p r
  pub firsts : (p n : ℕ) → found_by splits p n ≡ position (λ c. same_name c.name (Nth_split p n)) cs
