use Rattle.std.proofs.Common.{◌≡◌, ◌*◌, ◌-◌, ◌^◌, ◌≤◌, take}
use Rattle.journal_summary.specs.Summaries.{summary_of}
use Rattle.journal_summary.proofs.counts.Summary.of.Given as goal

abbrev pub invariant-loop-entry : goal.invariant-loop-entry
invariant-loop-entry l = record {
  counts : l.summary ≡ summary_of (take l.entry-index l.entries);
  dropped : l.summary.dropped ≤ l.entry-index * (2 ^ 64 - 1);
}
