-- The calls of a journal are well formed.
use Rattle.std.proofs.Common.{◌≡◌, List, length, sym, subst, arith}
use Rattle.std.specs.Prelude.{All}
use Rattle.std.proofs.lemmas.List.Elements.{All-take}
use Rattle.mpi_base.specs.declared.entries.Entry.{Entry}
use Rattle.script_text.specs.Spelling.{IsOp}
use Rattle.mpi_law.specs.declared.setting.Setting.{Setting}
use Rattle.mpi_law.specs.ScriptLists.{AllScripts, script_of}
use Rattle.mpi_protocol.specs.Rank.{thread_at}
use Rattle.mpi_protocol.specs.World.{rank_at}
use Rattle.mpi_protocol.specs.Run.{end_of}
use Rattle.script_law.specs.Called.{AreOfScripts}
use Rattle.entry_law.specs.Calls.{CallsAreOps}
use Rattle.job_law.specs.Scripts.{ScriptsAreOps}

-- they are where the scripts are
pub calls_are_ops : (s : Setting) (scripts : AllScripts) (journal : List Entry) → length (end_of s journal).ranks ≡ s.ranks → AreOfScripts scripts (end_of s journal) journal → ScriptsAreOps s.ranks scripts → CallsAreOps s journal
calls_are_ops s scripts journal many called ops r t lr lt =
    subst (All IsOp) (sym (called.calls r t (omega (arith, many, lr)) lt)) (All-take IsOp (thread_at (rank_at (end_of s journal) r) t).calls (script_of scripts r t) (ops r t lr lt))
