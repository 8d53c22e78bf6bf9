use Rattle.std.proofs.Common.{◌≡◌, ◌≤◌, length}
use Rattle.match_box.specs.Rows.{off}
use Rattle.match_box.proofs.queues.Queues.drop_ctx.Given as goal

abbrev pub invariant-loop-queue : goal.invariant-loop-queue
invariant-loop-queue g l = record {
  rest : off l.ctx l.self.rows ≡ off l.ctx l.initial.self.rows;
  come : l.self.count ≡ l.initial.self.count;
  spare : l.initial.self.spare ≤ l.self.spare;
}

abbrev pub decreases-loop-queue : goal.decreases-loop-queue
decreases-loop-queue g l = length l.self.rows
