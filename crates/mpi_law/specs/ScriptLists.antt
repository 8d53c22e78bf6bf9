-- Scripts, this project's own: a list of operations for each rank and thread.
use Rattle.std.specs.Prelude.{ℕ, ◌+◌, ◌*◌, List, [], get_or, slice_get, Option, sum_by, length}
use Rattle.mpi_base.specs.declared.ops.Op.{Op}
use Rattle.mpi_law.specs.declared.setting.TheConstants.{THREADS}

-- the ranks, and the script of thread t of rank r at the place of THREADS times r, plus t
pub record AllScripts : Type 0 where
  pub ranks : ℕ
  pub lists : List (List Op)

-- the script of a thread of a rank
abbrev pub script_of : AllScripts → ℕ → ℕ → List Op
script_of scripts r t = get_or scripts.lists (THREADS * r + t) []

-- the operation that a thread calls next, when it has made so many calls
abbrev pub next_op : AllScripts → ℕ → ℕ → ℕ → Option Op
next_op scripts r t calls = slice_get (script_of scripts r t) calls

-- how many operations there are in all
abbrev pub total_of : AllScripts → ℕ
total_of scripts = sum_by length scripts.lists
