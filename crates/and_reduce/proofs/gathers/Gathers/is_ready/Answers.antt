use Rattle.std.proofs.Common.{arith}
use Rattle.and_reduce.proofs.RowFacts.{is_ready-each}
use Rattle.and_reduce.proofs.gathers.Gathers.is_ready.Goals as goal

pub returns-then-has : goal.returns-then-has
returns-then-has g c =
    let each = is_ready-each c.args.self.now.offers c.args.key.now c.args.place in grind (arith, each, c.has.ensures, c.if-has.true, c.has_children.ensures)

pub returns-else-has : goal.returns-else-has
returns-else-has g c =
    let each = is_ready-each c.args.self.now.offers c.args.key.now c.args.place in grind (arith, each, c.has.ensures, c.if-has.false)
