use Rattle.world_drain.proofs.Searched.{NoneFrom, NoneTo}
use Rattle.world_drain.proofs.choices.first_delivery.Given as goal

abbrev pub invariant-loop-rank : goal.invariant-loop-rank
invariant-loop-rank g l = NoneTo l.world.world l.from l.rank

abbrev pub invariant-loop-from : goal.invariant-loop-from
invariant-loop-from g l = NoneFrom l.world.world l.from
