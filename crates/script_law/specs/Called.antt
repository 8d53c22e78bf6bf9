-- What the calls of a journal have to do with the scripts, and when each script is ended. All of it is this project's own.
use Rattle.std.specs.Prelude.{◌≡◌, ℕ, ◌<◌, true, List, length, take, None}
use Rattle.mpi_base.specs.declared.entries.Entry.{Entry}
use Rattle.mpi_law.specs.declared.setting.TheConstants.{THREADS}
use Rattle.mpi_law.specs.ScriptLists.{AllScripts, script_of, next_op}
use Rattle.mpi_protocol.specs.Rank.{thread_at, is_idle}
use Rattle.mpi_protocol.specs.World.{World, rank_at}
use Rattle.mpi_protocol.specs.Run.{calls_of}

-- what each thread has called in the journal is the beginning of its script, as far as the world counts its calls
pub record AreOfScripts (scripts : AllScripts) (w : World) (journal : List Entry) : Type 0 where
  pub calls : (r t : ℕ) → r < length w.ranks → t < THREADS → calls_of r t journal ≡ take (thread_at (rank_at w r) t).calls (script_of scripts r t)
  pub count : (r t : ℕ) → r < length w.ranks → t < THREADS → (thread_at (rank_at w r) t).calls ≡ length (calls_of r t journal)

-- every script is ended: each of its operations has been called and answered. No thread waits for anything, and none has a next
-- operation
pub record AreEnded (scripts : AllScripts) (w : World) : Type 0 where
  pub idle : (r t : ℕ) → r < length w.ranks → t < THREADS → is_idle (thread_at (rank_at w r) t).waits ≡ true
  pub last : (r t : ℕ) → r < length w.ranks → t < THREADS → next_op scripts r t (thread_at (rank_at w r) t).calls ≡ None
