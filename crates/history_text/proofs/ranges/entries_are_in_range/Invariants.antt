use Rattle.std.specs.Prelude.{All, take}
use Rattle.history_text.specs.Ranges.{EntryInRange}
use Rattle.history_text.proofs.ranges.entries_are_in_range.Given as goal

abbrev pub invariant-loop-entry : goal.invariant-loop-entry
invariant-loop-entry l = All EntryInRange (take l.entry-index l.entries)
