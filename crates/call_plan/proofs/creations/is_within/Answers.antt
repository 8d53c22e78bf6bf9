use Rattle.std.proofs.Common.{arith}
use Rattle.mpi_base.specs.MemberLists.{has_rank}
use Rattle.call_plan.proofs.GroupFacts.{none_fail}
use Rattle.call_plan.proofs.creations.is_within.Goals as goal

pub returns : goal.returns
returns c =
    let each = none_fail (λ m. has_rank c.args.other.now m) c.args.group.now in
    grind (arith, each, c.is_empty.ensures, c.members.ensures.value, c.difference.ensures)
