use Rattle.world_drain.proofs.Searched.{NoneCalls, NoneCallsAt}
use Rattle.world_drain.proofs.choices.first_call.Given as goal

abbrev pub invariant-loop-thread : goal.invariant-loop-thread
invariant-loop-thread g l = NoneCallsAt l.world.world l.scripts l.rank l.thread

abbrev pub invariant-loop-rank : goal.invariant-loop-rank
invariant-loop-rank g l = NoneCalls l.world.world l.scripts l.rank
