use Rattle.std.proofs.Common.{◌≡◌, ◌++◌, map, take, drop}
use Rattle.central_mail.specs.Rows.{matched_if}
use Rattle.central_mail.proofs.sent.match_all.Given as goal

abbrev pub invariant-loop-row : goal.invariant-loop-row
invariant-loop-row l = l.rows ≡ map (matched_if l.from l.number) (take l.row-index l.initial.rows) ++ drop l.row-index l.initial.rows
