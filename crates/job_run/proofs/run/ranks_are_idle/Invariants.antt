use Rattle.job_run.specs.Idle.{RanksAreIdle}
use Rattle.job_run.proofs.run.ranks_are_idle.Given as goal

abbrev pub invariant-loop-rank : goal.invariant-loop-rank
invariant-loop-rank l = RanksAreIdle l.rank l.world.world
