use Rattle.std.proofs.Common.{◌≡◌, true, take}
use Rattle.std.specs.List.{list_all}
use Rattle.mpi_law.specs.Registry.Creations.{has_called}
use Rattle.central_creations.proofs.rows.CreationRow.all_called.Given as goal

abbrev pub invariant-loop-place : goal.invariant-loop-place
invariant-loop-place l = list_all (has_called l.self) (take l.place l.self.group) ≡ true
