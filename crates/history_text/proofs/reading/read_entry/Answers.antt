use Rattle.std.proofs.Common.{Some, ap}
use Rattle.mpi_base.specs.declared.entries.Entry.{Entry}
use Rattle.history_text.proofs.Found.{not_stopped, read_again, same_line}
use Rattle.history_text.proofs.reading.read_entry.Goals as goal

pub returns-in_err-entry-clause-only : goal.returns-in_err-entry-clause-only
returns-in_err-entry-clause-only c = λ e h q. absurd (not_stopped c.args.line.now c.new-reader.result e c.new-reader.ensures.tokens h q c.in_err-entry.ensures)

pub returns-then-eq-clause-only : goal.returns-then-eq-clause-only
returns-then-eq-clause-only c = λ e h q. ap (λ (x : Entry). Some x) (read_again c.args.line.now c.new-reader.result c.read_tokens.new.reader c.in_ok-entry.entry e c.new-reader.ensures.tokens c.in_ok-entry.ensures h q)

pub returns-else-eq-clause-only : goal.returns-else-eq-clause-only
returns-else-eq-clause-only c = λ e h q.
    let p = read_again c.args.line.now c.new-reader.result c.read_tokens.new.reader c.in_ok-entry.entry e c.new-reader.ensures.tokens c.in_ok-entry.ensures h q in
    absurd (same_line c.args.line.now _ _ c.in_ok-entry.entry e p q c.as_slice.ensures.value c.write_entry.ensures.text c.if-eq.ensures)
