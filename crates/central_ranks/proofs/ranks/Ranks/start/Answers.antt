use Rattle.central_ranks.proofs.PartFacts.{parts_blank}
use Rattle.central_ranks.proofs.ranks.Ranks.start.Goals as goal

pub invariant_of-result : goal.invariant_of-result
invariant_of-result c = rw c.loop.invariant (parts_blank c.loop.counter)
