-- Whether threads wait.
use Rattle.std.specs.Prelude.{◌≡◌, ℕ, ◌<◌, true}
use Rattle.mpi_law.specs.declared.setting.TheConstants.{THREADS}
use Rattle.mpi_protocol.specs.Rank.{thread_at, is_idle}
use Rattle.mpi_protocol.specs.World.{World, rank_at}

-- no thread of a rank waits
abbrev pub ThreadsAreIdle : World → ℕ → Type 0
ThreadsAreIdle w r = (t : ℕ) → t < THREADS → is_idle (thread_at (rank_at w r) t).waits ≡ true

-- no thread of so many ranks waits
abbrev pub RanksAreIdle : ℕ → World → Type 0
RanksAreIdle ranks w = (r : ℕ) → r < ranks → ThreadsAreIdle w r
