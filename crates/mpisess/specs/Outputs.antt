-- What a command writes of the journal of a job that was run.
use Rattle.std.specs.Prelude.{ℕ, List}
use Rattle.mpi_base.specs.declared.entries.Entry.{Entry}
use Rattle.history_text.specs.Text.{journal_text}
use Rattle.journal_summary.specs.Summaries.{summary_of, summary_text}
use Rattle.mpisess.specs.declared.command.Command.{Command}
use Rattle.mpisess.specs.declared.command.Command.TheVariants.{Serial, Solo, Gen}

-- its text, or its summary
abbrev pub output_of : Command → List Entry → List ℕ
output_of Serial journal = journal_text journal
output_of Solo journal = journal_text journal
output_of (Gen number ops) journal = summary_text (summary_of journal)
