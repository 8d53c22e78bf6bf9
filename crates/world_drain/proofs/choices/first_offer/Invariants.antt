use Rattle.world_drain.specs.Searches.{IsLeast}
use Rattle.world_drain.proofs.choices.first_offer.Given as goal

abbrev pub invariant-loop-rank : goal.invariant-loop-rank
invariant-loop-rank g l = IsLeast l.world.world l.offered l.rank l.least
