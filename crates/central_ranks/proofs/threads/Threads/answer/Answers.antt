use Rattle.std.proofs.Common.{ap}
use Rattle.mpi_law.specs.Registry.State.{ThreadPart, is_within_call}
use Rattle.central_ranks.proofs.PartFacts.{threads_set}
use Rattle.central_ranks.proofs.threads.Threads.answer.Goals as goal

pub invariant_of-self : goal.invariant_of-self
invariant_of-self c =
    threads_set c.self.inside.rows.items c.args.thread c.set_wait.new.self
    (ap (λ (t : ThreadPart). is_within_call t.wait) c.set_wait.ensures) c.self.invariant
