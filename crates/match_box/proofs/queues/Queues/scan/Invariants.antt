use Rattle.std.proofs.Common.{◌≡◌}
use Rattle.match_box.specs.Rows.{spot}
use Rattle.match_box.specs.Filing.{queue_at}
use Rattle.match_box.proofs.Scans.{among}
use Rattle.match_box.proofs.queues.Queues.scan.Given as goal

abbrev pub invariant-loop-place : goal.invariant-loop-place
invariant-loop-place g l = l.best ≡ spot (λ x. among l.wanted (queue_at l.self-inside.index.places l.wanted.ctx) l.place x) l.self.rows
