use Rattle.std.proofs.Common.{drop}
use Rattle.mpi_protocol.specs.World.{rank_at}
use Rattle.world_drain.proofs.Offers.{IsLeastSoFar}
use Rattle.world_drain.proofs.choices.keep_least_of.Given as goal

abbrev pub invariant-loop-row : goal.invariant-loop-row
invariant-loop-row g l = IsLeastSoFar l.world.world l.offered l.rank l.least (drop l.row-index (rank_at l.world.world l.rank).agree.opened)
