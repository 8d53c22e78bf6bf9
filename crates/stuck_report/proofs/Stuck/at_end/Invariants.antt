use Rattle.std.proofs.Common.{take}
use Rattle.stuck_report.specs.Places.{TellsLast}
use Rattle.stuck_report.proofs.Stuck.at_end.Given as goal

abbrev pub invariant-loop-place : goal.invariant-loop-place
invariant-loop-place l = TellsLast l.places l.entries (take l.place l.entries)
