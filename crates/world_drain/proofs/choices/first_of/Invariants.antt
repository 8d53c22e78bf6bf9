use Rattle.world_drain.proofs.Searched.{NoneAt}
use Rattle.world_drain.proofs.choices.first_of.Given as goal

abbrev pub invariant-loop-rank : goal.invariant-loop-rank
invariant-loop-rank g l = NoneAt l.world.world l.kind l.rank
