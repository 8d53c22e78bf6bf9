use Rattle.std.proofs.Common.{◌≡◌, take}
use Rattle.std.specs.List.{fold}
use Rattle.central_mail.specs.Rows.{dropped_at}
use Rattle.central_mail.proofs.sent.drop_at.Given as goal

abbrev pub invariant-loop-place : goal.invariant-loop-place
invariant-loop-place l = l.rows ≡ fold (dropped_at l.comm l.rank) l.initial.rows (take l.place-index l.places)
