use Rattle.std.proofs.Common.{◌≡◌, not, take}
use Rattle.std.specs.List.{filter}
use Rattle.stuck_report.specs.Missing.{has_called}
use Rattle.stuck_report.proofs.Stuck.not_calling.Given as goal

abbrev pub invariant-loop-place : goal.invariant-loop-place
invariant-loop-place l = l.missing ≡ filter (λ r. not (has_called l.self l.op l.members r)) (take l.place l.members)
