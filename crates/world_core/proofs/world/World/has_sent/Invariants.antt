use Rattle.std.proofs.Common.{◌≡◌, ◌<◌, ℕ, false}
use Rattle.mpi_base.specs.declared.entries.Act.TheVariants.{Deliver}
use Rattle.mpi_protocol.specs.World.{has_packet}
use Rattle.world_core.proofs.world.World.has_sent.Given as goal

abbrev pub invariant-loop-rank : goal.invariant-loop-rank
invariant-loop-rank g l = (r : ℕ) → r < l.rank → has_packet l.self.world r (Deliver l.from) ≡ false
