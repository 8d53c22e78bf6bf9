-- The job of one rank whose thread 0 has a script, and what is wrong with bytes that are no such script.
use Rattle.std.specs.Prelude.{◌≡◌, ℕ, ◌<◌, ◌≤◌, List, [], ◌∷◌, length, Some}
use Rattle.mpi_base.specs.declared.ops.Op.{Op}
use Rattle.mpi_law.specs.declared.setting.Setting.{Setting}
use Rattle.mpi_law.specs.declared.setting.TheConstants.{MOST_CONTEXTS}
use Rattle.mpi_law.specs.ScriptLists.{AllScripts}
use Rattle.pset_reg.specs.Sets.{start_of}
use Rattle.job_file.specs.declared.faults.JobFault.{JobFault}
use Rattle.job_file.specs.declared.faults.JobFault.TheVariants.{NotUtf8, NotToml, UnknownKey, Missing, WrongKind, OutOfRange, PsetMember, ScriptName, ScriptLong, Line, TooManyOps, Memory}
use Rattle.job_file.specs.declared.lines.TheConstants.{MOST_LINES}
use Rattle.job_file.specs.Lines.{lines_of, Spell, first_fault}

-- one rank, the contexts from 1 to 63, and the two process sets that are always there
abbrev pub solo_setting : Setting
solo_setting = record { ranks = 1; contexts = MOST_CONTEXTS; psets = start_of 1 }

-- these operations at thread 0, and none at the other seven threads
abbrev pub solo_of : List Op → AllScripts
solo_of ops = record { ranks = 1; lists = ops ∷ [] ∷ [] ∷ [] ∷ [] ∷ [] ∷ [] ∷ [] ∷ [] }

-- a script of one thread: at most MOST_LINES lines, which spell these operations
pub record IsSoloScript (bytes : List ℕ) (ops : List Op) : Type 0 where
  pub few : length (lines_of bytes) ≤ MOST_LINES
  pub spelled : Spell (lines_of bytes) ops

-- what is wrong with bytes that are no such script: too many lines, else the first fault of a line; both are of the one
-- thread 0 of rank 0
abbrev pub IsSoloFault : List ℕ → JobFault → Type 0
IsSoloFault bytes (ScriptLong rank thread) = (rank ≡ 0) × (thread ≡ 0) × (MOST_LINES < length (lines_of bytes))
IsSoloFault bytes (Line rank thread line fault) =
    (rank ≡ 0) × (thread ≡ 0) × (length (lines_of bytes) ≤ MOST_LINES) × (first_fault 1 (lines_of bytes) ≡ Some (line, fault))
IsSoloFault bytes (NotUtf8 line column) = ⊥
IsSoloFault bytes (NotToml line column) = ⊥
IsSoloFault bytes (UnknownKey key) = ⊥
IsSoloFault bytes (Missing key) = ⊥
IsSoloFault bytes (WrongKind key entry) = ⊥
IsSoloFault bytes (OutOfRange key least greatest) = ⊥
IsSoloFault bytes (PsetMember name) = ⊥
IsSoloFault bytes (ScriptName key) = ⊥
IsSoloFault bytes TooManyOps = ⊥
IsSoloFault bytes Memory = ⊥
