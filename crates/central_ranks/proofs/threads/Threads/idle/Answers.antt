use Rattle.std.proofs.Common.{◌≡◌, replicate, ap, ◌∙◌, arith}
use Rattle.mpi_law.specs.Registry.State.{idle_thread}
use Rattle.mpi_law.specs.declared.setting.TheConstants.{THREADS}
use Rattle.central_ranks.proofs.PartFacts.{threads_idle}
use Rattle.central_ranks.proofs.threads.Threads.idle.Goals as goal

pub invariant_of-result : goal.invariant_of-result
invariant_of-result c =
    let all : c.loop.counter ≡ THREADS = omega (arith, c.loop.auto.counter-end, c.loop-test.false) in
    rw (c.loop.invariant ∙ ap (λ n. replicate n idle_thread) all) threads_idle
