use Rattle.std.proofs.Common.{◌≡◌, ◌<◌, ℕ, true}
use Rattle.mpi_protocol.specs.Rank.{thread_at, is_idle}
use Rattle.mpi_protocol.specs.World.{rank_at}
use Rattle.job_run.proofs.run.threads_are_idle.Given as goal

abbrev pub invariant-loop-thread : goal.invariant-loop-thread
invariant-loop-thread l = (t : ℕ) → t < l.thread → is_idle (thread_at (rank_at l.world.world l.rank) t).waits ≡ true
