use Rattle.std.proofs.Common.{◌≡◌, replicate}
use Rattle.mpi_law.specs.Registry.State.{idle_thread}
use Rattle.central_ranks.proofs.threads.Threads.idle.Given as goal

abbrev pub invariant-loop : goal.invariant-loop
invariant-loop l = l.rows.items ≡ replicate l.counter idle_thread
