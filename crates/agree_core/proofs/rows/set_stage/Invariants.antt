use Rattle.std.proofs.Common.{◌≡◌, ◌++◌, take, drop, map}
use Rattle.agree_law.specs.Part.{staged}
use Rattle.agree_core.proofs.rows.set_stage.Given as goal

abbrev pub invariant-loop-row : goal.invariant-loop-row
invariant-loop-row l = l.row-items ≡ map (staged l.key l.stage) (take l.row-index l.initial.row-items) ++ drop l.row-index l.initial.row-items
