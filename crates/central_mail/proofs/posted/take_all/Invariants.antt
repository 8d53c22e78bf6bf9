use Rattle.std.proofs.Common.{◌≡◌, ◌++◌, map, take, drop}
use Rattle.central_mail.specs.Rows.{taking_if}
use Rattle.central_mail.proofs.posted.take_all.Given as goal

abbrev pub invariant-loop-row : goal.invariant-loop-row
invariant-loop-row l = l.rows ≡ map (taking_if l.rank l.number l.message) (take l.row-index l.initial.rows) ++ drop l.row-index l.initial.rows
