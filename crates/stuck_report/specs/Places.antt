-- The places of the last entries, kept for each thread of each rank. This project's own.
use Rattle.std.specs.Prelude.{◌≡◌, ℕ, ◌+◌, ◌*◌, ◌<◌, ◌&&◌, Bool, if◌then◌else◌, List, [], get_or, set, take, reverse, nat_lt, slice_get, Option, Some, None}
use Rattle.std.specs.Option.{option_and_then}
use Rattle.mpi_base.specs.declared.members.TheConstants.{MOST_RANKS}
use Rattle.mpi_base.specs.declared.entries.Entry.{Entry}
use Rattle.mpi_law.specs.declared.setting.TheConstants.{THREADS}
use Rattle.stuck_report.specs.Waits.{thread_in, last_of}
use Rattle.stuck_report.specs.Missing.{before_last}

-- where the table has the place of a thread
abbrev pub slot_of : ℕ → ℕ → ℕ
slot_of r t = THREADS * r + t

-- whether the table has a place for a thread
abbrev pub is_in_table : ℕ → ℕ → Bool
is_in_table r t = nat_lt r MOST_RANKS && nat_lt t THREADS

-- the table, once a step at a rank stands at a place
abbrev pub noted_at : List (Option ℕ) → ℕ → ℕ → Option ℕ → List (Option ℕ)
noted_at places place r None = places
noted_at places place r (Some t) = if is_in_table r t then set places (slot_of r t) (Some place) else places

abbrev pub noted : List (Option ℕ) → ℕ → Entry → List (Option ℕ)
noted places place e = noted_at places place e.choice.rank (thread_in e.choice.act)

-- the entry at a place, where there is one
abbrev pub entry_at : List Entry → Option ℕ → Option Entry
entry_at es place = option_and_then (λ p. slice_get es p) place

-- the entries before a place, from the latest back
abbrev pub before_place : List Entry → Option ℕ → List Entry
before_place es None = []
before_place es (Some p) = reverse (take p es)

-- the table has the place of the last entry of each thread, of the entries that were seen
pub record TellsLast (places : List (Option ℕ)) (es seen : List Entry) : Type 0 where
  pub each : (r t : ℕ) → r < MOST_RANKS → t < THREADS → entry_at es (get_or places (slot_of r t) None) ≡ last_of seen r t
  pub before : (r t : ℕ) → r < MOST_RANKS → t < THREADS → before_place es (get_or places (slot_of r t) None) ≡ before_last seen r t
