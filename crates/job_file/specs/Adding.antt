-- Scripts to which what lines spell was added.
use Rattle.std.specs.Prelude.{◌≡◌, ℕ, ◌+◌, ◌*◌, List, ◌++◌, set}
use Rattle.mpi_base.specs.declared.ops.Op.{Op}
use Rattle.mpi_law.specs.declared.setting.TheConstants.{THREADS}
use Rattle.mpi_law.specs.ScriptLists.{AllScripts, script_of}
use Rattle.job_file.specs.Lines.{Spell}

-- the scripts with these operations at the end of one of them
abbrev pub with_ops : AllScripts → ℕ → ℕ → List Op → AllScripts
with_ops scripts r t ops = record { ranks = scripts.ranks; lists = set scripts.lists (THREADS * r + t) (script_of scripts r t ++ ops) }

-- what lines spell was added at the end of the script of a thread
pub record AddsLines (lines : List (List ℕ)) (r t : ℕ) (old new : AllScripts) : Type 0 where
  pub ops : List Op
  pub spelled : Spell lines ops
  pub added : new ≡ with_ops old r t ops
