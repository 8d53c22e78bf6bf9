use Rattle.std.proofs.Common.{◌≡◌, ◌==◌, ◌++◌, if◌then◌else◌, map, take, drop}
use Rattle.comm_law.specs.Comms.{one_call_more}
use Rattle.comm_tab.proofs.comms.count_calls.Given as goal

abbrev pub invariant-loop-row : goal.invariant-loop-row
invariant-loop-row l = l.row-items ≡ map (λ m. if m.ctx == l.ctx then one_call_more m else m) (take l.row-index l.initial.row-items) ++ drop l.row-index l.initial.row-items
