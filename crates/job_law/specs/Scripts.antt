-- Well-formed scripts.
use Rattle.std.specs.Prelude.{ℕ, ◌<◌, All}
use Rattle.script_text.specs.Spelling.{IsOp}
use Rattle.mpi_law.specs.declared.setting.TheConstants.{THREADS}
use Rattle.mpi_law.specs.ScriptLists.{AllScripts, script_of}

-- each operation in the scripts of so many ranks is well formed
abbrev pub ScriptsAreOps : ℕ → AllScripts → Type 0
ScriptsAreOps ranks scripts = (r t : ℕ) → r < ranks → t < THREADS → All IsOp (script_of scripts r t)
