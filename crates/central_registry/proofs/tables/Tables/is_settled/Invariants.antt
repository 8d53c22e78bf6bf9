use Rattle.std.proofs.Common.{◌≡◌, true, take}
use Rattle.std.specs.List.{list_all}
use Rattle.mpi_law.specs.Closed.{is_back_or_held}
use Rattle.central_registry.proofs.tables.Tables.is_settled.Given as goal

abbrev pub invariant-loop-place : goal.invariant-loop-place
invariant-loop-place l = list_all (is_back_or_held l.self.state l.comm) (take l.place l.members) ≡ true
