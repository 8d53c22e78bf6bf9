use Rattle.std.proofs.Common.{◌-◌}
use Rattle.mpi_law.specs.ScriptLists.{total_of}
use Rattle.job_gen.proofs.Rounds.{Goes}
use Rattle.job_gen.proofs.job.generate.Given as goal

abbrev pub invariant-loop-draws : goal.invariant-loop-draws
invariant-loop-draws l = Goes l.ops l.number l.scripts l.rounds l.draws.state

abbrev pub decreases-loop-draws : goal.decreases-loop-draws
decreases-loop-draws l = l.ops - total_of l.scripts
