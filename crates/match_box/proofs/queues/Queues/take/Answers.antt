use Rattle.std.proofs.Common.{◌≡◌, ◌-◌, ◌==◌, if◌then◌else◌, Option, Some, None, option_map, length, List, ap, sym, subst, ◌∙◌, rules, arith}
use Rattle.std.specs.Option.{IsSome}
use Rattle.slab.specs.Slab.{slab_len}
use Rattle.match_box.specs.declared.node.Ends.{Ends}
use Rattle.match_box.specs.Rows.{Table, Row, on, first_of, without_first_of}
use Rattle.match_box.specs.Filing.{ends_at}
use Rattle.match_box.specs.Nodes.{nodes_in, rows_of}
use Rattle.match_box.proofs.Rooms.{room-more, le_from, slab_more}
use Rattle.match_box.proofs.NodeFacts.{numbered-less}
use Rattle.match_box.proofs.Steps.{first_found, none_first, some_first, taken, puts_from, on-without, on-less, lowered}
use Rattle.match_box.proofs.queues.Queues.take.Goals as goal

pub returns-in_err-ends-clause-item : goal.returns-in_err-ends-clause-item
returns-in_err-ends-clause-item g c =
    let absent : ends_at c.self.inside.index.entries c.args.queue.now ≡ None = search rules in
    c.from_residual.ensures
    ∙ sym (ap (option_map (λ (r : Row g.row.T.Denot). r.item)) (none_first c.self.inside.nodes.slots (ends_at c.self.inside.index.entries) c.self.inside.count c.args.queue.now c.self.invariant.queued absent).0)
    ∙ ap (λ (t : Table g.row.T.Denot). option_map (λ (r : Row g.row.T.Denot). r.item) (first_of c.args.queue.now t.rows)) c.self.view_is

pub returns-in_err-ends-clause-rows : goal.returns-in_err-ends-clause-rows
returns-in_err-ends-clause-rows g c =
    let absent : ends_at c.self.inside.index.entries c.args.queue.now ≡ None = search rules in
    ap (λ (t : Table g.row.T.Denot). t.rows) (sym c.self.view_is)
    ∙ sym (none_first c.self.inside.nodes.slots (ends_at c.self.inside.index.entries) c.self.inside.count c.args.queue.now c.self.invariant.queued absent).1
    ∙ ap (λ (t : Table g.row.T.Denot). without_first_of c.args.queue.now t.rows) c.self.view_is

pub remove-node-requires : goal.remove-node-requires
remove-node-requires g c =
    let here : ends_at c.self.inside.index.entries c.args.queue.now ≡ Some c.in_ok-ends.ends = search rules in
    let node = first_found c.self.inside.nodes.slots (ends_at c.self.inside.index.entries) c.self.inside.count c.args.queue.now c.in_ok-ends.ends c.self.invariant.queued here in
    subst IsSome (sym node.1) (search rules)

pub lower-requires : goal.lower-requires
lower-requires g c =
    let here : ends_at c.self.inside.index.entries c.args.queue.now ≡ Some c.in_ok-ends.ends = search rules in
    let some = some_first c.self.inside.nodes.slots (ends_at c.self.inside.index.entries) c.self.inside.count c.args.queue.now c.self.invariant.queued
    (subst (λ (e : Option Ends). IsSome e) (sym here) (search rules)) in
    omega (arith, c.self.invariant.many c.args.queue.now.ctx, on-less c.args.queue.now (rows_of (nodes_in c.self.inside.nodes.slots c.self.inside.count)) some)

pub invariant_of-self : goal.invariant_of-self
invariant_of-self g c =
    let here : ends_at c.self.inside.index.entries c.args.queue.now ≡ Some c.in_ok-ends.ends = search rules in
    let some = some_first c.self.inside.nodes.slots (ends_at c.self.inside.index.entries) c.self.inside.count c.args.queue.now c.self.invariant.queued
    (subst (λ (e : Option Ends). IsSome e) (sym here) (search rules)) in
    let puts = puts_from c.self.inside.nodes c.remove-node.new.self c.in_ok-ends.ends.first None c.remove-node.ensures.updates in
    let all = taken c.self.inside.nodes.slots c.remove-node.new.self.slots (ends_at c.self.inside.index.entries) (ends_at c.take.new.self.entries) c.self.inside.count c.args.queue.now c.in_ok-ends.ends
    c.remove-node.result c.self.invariant.numbered c.self.invariant.queued here c.remove-node.ensures.value puts c.take.ensures.each in
    record {
      numbered = numbered-less c.self.inside.nodes.slots c.remove-node.new.self.slots c.in_ok-ends.ends.first c.self.inside.count puts c.self.invariant.numbered;
      queued = all.0;
      many = λ k. c.lower.ensures.each k ∙ ap (λ n. if c.args.queue.now.ctx == k then n - 1 else n)
          (c.self.invariant.many k ∙ on-without k c.args.queue.now (rows_of (nodes_in c.self.inside.nodes.slots c.self.inside.count)) some)
          ∙ lowered (c.args.queue.now.ctx == k) (length (on k (without_first_of c.args.queue.now (rows_of (nodes_in c.self.inside.nodes.slots c.self.inside.count)))))
          ∙ sym (ap (λ (rs : List (Row g.row.T.Denot)). length (on k rs)) all.1);
      sized = λ k. omega (arith, c.take.ensures.sizes k, c.self.invariant.sized k);
    }

pub returns-clause-item : goal.returns-clause-item
returns-clause-item g c =
    let here : ends_at c.self.inside.index.entries c.args.queue.now ≡ Some c.in_ok-ends.ends = search rules in
    let puts = puts_from c.self.inside.nodes c.remove-node.new.self c.in_ok-ends.ends.first None c.remove-node.ensures.updates in
    (taken c.self.inside.nodes.slots c.remove-node.new.self.slots (ends_at c.self.inside.index.entries) (ends_at c.take.new.self.entries) c.self.inside.count c.args.queue.now c.in_ok-ends.ends
    c.remove-node.result c.self.invariant.numbered c.self.invariant.queued here c.remove-node.ensures.value puts c.take.ensures.each).2
    ∙ ap (λ (t : Table g.row.T.Denot). option_map (λ (r : Row g.row.T.Denot). r.item) (first_of c.args.queue.now t.rows)) c.self.view_is

pub returns-clause-rows : goal.returns-clause-rows
returns-clause-rows g c =
    let here : ends_at c.self.inside.index.entries c.args.queue.now ≡ Some c.in_ok-ends.ends = search rules in
    let puts = puts_from c.self.inside.nodes c.remove-node.new.self c.in_ok-ends.ends.first None c.remove-node.ensures.updates in
    (taken c.self.inside.nodes.slots c.remove-node.new.self.slots (ends_at c.self.inside.index.entries) (ends_at c.take.new.self.entries) c.self.inside.count c.args.queue.now c.in_ok-ends.ends
    c.remove-node.result c.self.invariant.numbered c.self.invariant.queued here c.remove-node.ensures.value puts c.take.ensures.each).1
    ∙ ap (λ (t : Table g.row.T.Denot). without_first_of c.args.queue.now t.rows) c.self.view_is

pub returns-clause-spare : goal.returns-clause-spare
returns-clause-spare g c =
    le_from (ap (λ (t : Table g.row.T.Denot). t.spare) c.self.view_is)
    (room-more (c.self.inside.nodes.capacity - slab_len c.self.inside.nodes) c.self.inside.index.spare c.self.inside.waiting.spare
    (c.remove-node.new.self.capacity - slab_len c.remove-node.new.self) c.take.new.self.spare c.lower.new.self.spare
    (slab_more c.self.inside.nodes.capacity (slab_len c.self.inside.nodes) c.remove-node.new.self.capacity (slab_len c.remove-node.new.self) c.remove-node.ensures.capacity c.remove-node.ensures.len)
    c.take.ensures.spare c.lower.ensures.spare)
