use Rattle.std.proofs.Common.{◌≡◌, ◌==◌, ◌++◌, if◌then◌else◌, map, take, drop}
use Rattle.comm_law.specs.declared.rows.CommStage.TheVariants.{Left}
use Rattle.comm_law.specs.Comms.{with_stage}
use Rattle.comm_tab.proofs.comms.leave_context.Given as goal

abbrev pub invariant-loop-row : goal.invariant-loop-row
invariant-loop-row l = l.row-items ≡ map (λ m. if m.ctx == l.ctx then with_stage Left m else m) (take l.row-index l.initial.row-items) ++ drop l.row-index l.initial.row-items
