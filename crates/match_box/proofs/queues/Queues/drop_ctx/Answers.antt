use Rattle.std.proofs.Common.{◌≡◌, ◌==◌, true, false, List, length, ap, sym, ◌∙◌, rules, arith}
use Rattle.std.specs.Option.{IsSome}
use Rattle.match_box.specs.Rows.{Row, AllOf, off, first_of}
use Rattle.match_box.proofs.Contexts.{off-without, less-without, off-all}
use Rattle.match_box.proofs.queues.Queues.drop_ctx.Goals as goal

pub loop-queue-smaller-in-Some : goal.loop-queue-smaller-in-Some
loop-queue-smaller-in-Some g c =
    let met : IsSome (first_of c.in-Some.queue c.loop-queue.self.rows) = search rules in
    let less = less-without c.in-Some.queue c.loop-queue.self.rows met in
    let new = ap (λ (rows : List (Row g.row.T.Denot)). length rows) c.take.ensures.rows in
    omega (arith, less, new)

pub loop-queue-preserved-in-Some : goal.loop-queue-preserved-in-Some
loop-queue-preserved-in-Some g c =
    let met : (c.in-Some.queue.ctx == c.args.ctx) ≡ true = search rules in
    record {
      rest = ap (off c.args.ctx) c.take.ensures.rows ∙ off-without c.args.ctx c.in-Some.queue c.loop-queue.self.rows met ∙ c.loop-queue.invariant.rest;
      come = c.take.ensures.count ∙ c.loop-queue.invariant.come;
      spare = omega (arith, c.take.ensures.spare, c.loop-queue.invariant.spare);
    }

pub returns-clause-rows : goal.returns-clause-rows
returns-clause-rows g c =
    let none : AllOf (λ (r : Row g.row.T.Denot). (r.queue.ctx == c.args.ctx) ≡ false) c.loop-queue.self.rows = search rules in
    sym (off-all c.args.ctx c.loop-queue.self.rows none) ∙ c.loop-queue.invariant.rest
