use Rattle.std.proofs.Common.{arith}
use Rattle.std.proofs.lemmas.Bool.Decides.{nat_tests}
use Rattle.call_plan.proofs.GroupFacts.{no_place}
use Rattle.call_plan.proofs.creations.lacks.Goals as goal

pub returns-then-not-is_empty : goal.returns-then-not-is_empty
returns-then-not-is_empty c =
    let none = no_place c.args.group.now c.args.rank in
    grind (arith, nat_tests, none, c.is_empty.ensures, c.members.ensures.value, c.if-not-is_empty.true, c.is_none.ensures, c.rank_of.ensures)
