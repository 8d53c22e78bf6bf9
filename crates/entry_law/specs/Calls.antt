-- What the law of entries asks of the calls of a journal.
use Rattle.std.specs.Prelude.{ℕ, ◌<◌, List, All}
use Rattle.mpi_base.specs.declared.entries.Entry.{Entry}
use Rattle.script_text.specs.Spelling.{IsOp}
use Rattle.mpi_law.specs.declared.setting.Setting.{Setting}
use Rattle.mpi_law.specs.declared.setting.TheConstants.{THREADS}
use Rattle.mpi_protocol.specs.Run.{calls_of}

-- each operation that a thread calls is well formed
abbrev pub CallsAreOps : Setting → List Entry → Type 0
CallsAreOps s journal = (r t : ℕ) → r < s.ranks → t < THREADS → All IsOp (calls_of r t journal)
