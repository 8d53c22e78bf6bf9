use Rattle.std.proofs.Common.{◌≡◌, Some, None, ap, sym, subst, ◌∙◌, rules}
use Rattle.std.specs.Option.{IsSome}
use Rattle.match_box.specs.Rows.{Table, IsRising, spot, same_queue}
use Rattle.match_box.specs.Filing.{ends_at}
use Rattle.match_box.proofs.Spots.{rows_rise}
use Rattle.match_box.proofs.Steps.{first_found, head_some, head_none}
use Rattle.match_box.proofs.queues.Queues.head.Goals as goal

pub returns-in_err-ends-clause-value : goal.returns-in_err-ends-clause-value
returns-in_err-ends-clause-value g c =
    let absent : ends_at c.self.inside.index.entries c.args.queue.now ≡ None = search rules in
    c.from_residual.ensures ∙ head_none c.self.inside.nodes.slots (ends_at c.self.inside.index.entries) c.self.inside.count c.args.queue.now c.self.invariant.queued absent
    ∙ ap (λ (t : Table g.row.T.Denot). spot (λ q. same_queue c.args.queue.now q) t.rows) c.self.view_is

pub returns-in_err-ends-clause-form : goal.returns-in_err-ends-clause-form
returns-in_err-ends-clause-form g c = subst (λ (t : Table g.row.T.Denot). IsRising t.rows) c.self.view_is (rows_rise c.self.inside.nodes.slots c.self.inside.count)

pub index-node-requires : goal.index-node-requires
index-node-requires g c =
    let here : ends_at c.self.inside.index.entries c.args.queue.now ≡ Some c.in_ok-ends.ends = search rules in
    let node = first_found c.self.inside.nodes.slots (ends_at c.self.inside.index.entries) c.self.inside.count c.args.queue.now c.in_ok-ends.ends c.self.invariant.queued here in
    subst IsSome (sym node.1) (search rules)

pub returns-clause-value : goal.returns-clause-value
returns-clause-value g c =
    let here : ends_at c.self.inside.index.entries c.args.queue.now ≡ Some c.in_ok-ends.ends = search rules in
    head_some c.self.inside.nodes.slots (ends_at c.self.inside.index.entries) c.self.inside.count c.args.queue.now c.in_ok-ends.ends c.index-node.result.now c.self.invariant.queued here c.index-node.ensures
    ∙ ap (λ (t : Table g.row.T.Denot). spot (λ q. same_queue c.args.queue.now q) t.rows) c.self.view_is

pub returns-clause-form : goal.returns-clause-form
returns-clause-form g c = subst (λ (t : Table g.row.T.Denot). IsRising t.rows) c.self.view_is (rows_rise c.self.inside.nodes.slots c.self.inside.count)
