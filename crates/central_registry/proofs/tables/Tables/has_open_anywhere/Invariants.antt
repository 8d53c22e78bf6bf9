use Rattle.std.proofs.Common.{◌≡◌, false, take}
use Rattle.std.specs.List.{list_any}
use Rattle.mpi_law.specs.Registry.Creations.{has_open_under}
use Rattle.central_registry.proofs.tables.Tables.has_open_anywhere.Given as goal

abbrev pub invariant-loop-place : goal.invariant-loop-place
invariant-loop-place l = list_any (has_open_under l.self.state l.comm) (take l.place l.members) ≡ false
