-- How the code holds scripts, and adds to them.
use Rattle.std.specs.Prelude.{◌≡◌, ℕ, ◌+◌, ◌*◌, ◌^◌, ◌<◌, ◌≤◌, List, [], sum_by, length, set, ◌++◌, ◌∷◌}
use Rattle.mpi_base.specs.declared.members.TheConstants.{MOST_RANKS}
use Rattle.mpi_base.specs.declared.ops.Op.{Op}
use Rattle.mpi_law.specs.declared.setting.TheConstants.{THREADS}
use Rattle.mpi_law.specs.ScriptLists.{AllScripts, script_of}

-- the scripts with one more operation at the end of one of them
abbrev pub with_op : AllScripts → ℕ → ℕ → Op → AllScripts
with_op scripts r t op = record { ranks = scripts.ranks; lists = set scripts.lists (THREADS * r + t) (script_of scripts r t ++ op ∷ []) }

-- THREADS scripts for each rank, and their operations counted
pub record IsScripts (ranks total : ℕ) (lists : List (List Op)) : Type 0 where
  pub few : ranks ≤ MOST_RANKS
  pub each : length lists ≡ THREADS * ranks
  pub counted : total ≡ sum_by length lists
  pub small : total < 2 ^ 32
