use Rattle.std.proofs.Common.{◌≡◌, take}
use Rattle.history_text.specs.Text.{journal_text}
use Rattle.journal_out.proofs.Written.{Gone}
use Rattle.journal_out.proofs.write_journal.Given as goal

abbrev pub invariant-loop-entry : goal.invariant-loop-entry
invariant-loop-entry g l = record {
  gone : Gone (g.K.Sink.written l.fn.sink) (journal_text (take l.entry-index l.entries)) (g.K.Sink.written l.sink) l.piece.items;
  count : g.K.Sink.faults l.sink ≡ g.K.Sink.faults l.fn.sink;
}
