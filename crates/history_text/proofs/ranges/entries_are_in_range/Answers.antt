use Rattle.std.proofs.Common.{List, All, subst}
use Rattle.std.proofs.lemmas.List.{take_all}
use Rattle.std.proofs.lemmas.List.Elements.{All-more}
use Rattle.mpi_base.specs.declared.entries.Entry.{Entry}
use Rattle.history_text.specs.Ranges.{EntryInRange}
use Rattle.history_text.proofs.ranges.entries_are_in_range.Goals as goal

pub loop-entry-preserved : goal.loop-entry-preserved
loop-entry-preserved c =
    All-more EntryInRange c.args.entries.now c.loop-entry.entry-index c.entry-item.result c.loop-entry-test.true c.loop-entry.invariant
    (subst EntryInRange c.entry-item.is c.entry_in_range.ensures)

pub returns : goal.returns
returns c = subst (λ (es : List Entry). All EntryInRange es) (take_all c.loop-entry.entry-index c.args.entries.now c.loop-entry-test.false) c.loop-entry.invariant
