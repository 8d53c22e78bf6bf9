use Rattle.std.proofs.Common.{◌≡◌, ◌==◌, true, false, subst}
use Rattle.std.specs.Option.{MatchOption, IsSome}
use Rattle.match_box.specs.declared.queue.Queue.{Queue}
use Rattle.match_box.specs.Rows.{Table, Row, AllOf, first_of}
use Rattle.match_box.specs.Filing.{ends_at}
use Rattle.match_box.proofs.Scans.{on_is}
use Rattle.match_box.proofs.queues.Queues.queue_on.Goals as goal

pub returns : goal.returns
returns g c =
    subst (λ (t : Table g.row.T.Denot). MatchOption c.last_on.result (AllOf (λ (r : Row g.row.T.Denot). (r.queue.ctx == c.args.ctx) ≡ false) t.rows) (λ (q : Queue). ((q.ctx == c.args.ctx) ≡ true) × IsSome (first_of q t.rows))) c.self.view_is
    (on_is c.args.ctx c.self.inside.nodes.slots c.self.inside.count (ends_at c.self.inside.index.entries) c.last_on.result c.self.invariant.queued c.last_on.ensures.none c.last_on.ensures.some)
