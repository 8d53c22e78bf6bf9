use Rattle.std.proofs.Common.{arith}
use Rattle.std.proofs.lemmas.Bool.Decides.{nat_tests}
use Rattle.call_plan.proofs.GroupFacts.{no_place}
use Rattle.call_plan.proofs.call.Call.is_astray.Goals as goal

pub returns-then-is_none : goal.returns-then-is_none
returns-then-is_none g c =
    let none = no_place c.args.group.now c.args.self.now.rank in
    grind (arith, nat_tests, none, c.if-is_none.true, c.is_none.ensures, c.rank_of.ensures)

pub returns-else-is_none : goal.returns-else-is_none
returns-else-is_none g c =
    let none = no_place c.args.group.now c.args.self.now.rank in
    grind (arith, nat_tests, none, c.if-is_none.false, c.is_none.ensures, c.rank_of.ensures, c.is_within.ensures, c.of.ensures, c.members.ensures)
