use Rattle.std.proofs.Common.{◌≡◌, true, take}
use Rattle.std.specs.List.{list_all}
use Rattle.mpi_law.specs.Closed.{is_served}
use Rattle.central_creations.proofs.rows.CreationRow.all_served.Given as goal

abbrev pub invariant-loop-place : goal.invariant-loop-place
invariant-loop-place l = list_all (is_served l.self) (take l.place l.self.group) ≡ true
