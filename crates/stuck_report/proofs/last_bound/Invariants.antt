use Rattle.std.proofs.Common.{◌≡◌, reverse, take}
use Rattle.stuck_report.specs.Missing.{last_bound}
use Rattle.stuck_report.proofs.last_bound.Given as goal

abbrev pub invariant-loop-entry : goal.invariant-loop-entry
invariant-loop-entry l = l.last ≡ last_bound (reverse (take l.entry-index l.entries)) l.rank l.name
