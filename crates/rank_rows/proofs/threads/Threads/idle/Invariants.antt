use Rattle.std.proofs.Common.{◌≡◌, replicate}
use Rattle.mpi_protocol.specs.Rank.{idle_thread}
use Rattle.rank_rows.proofs.threads.Threads.idle.Given as goal

abbrev pub invariant-loop : goal.invariant-loop
invariant-loop l = l.rows.items ≡ replicate l.counter idle_thread
