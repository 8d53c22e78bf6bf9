use Rattle.std.proofs.Common.{◌≡◌, false, take}
use Rattle.std.specs.List.{list_any}
use Rattle.mpi_law.specs.Registry.Contexts.{in_use}
use Rattle.central_registry.proofs.tables.Tables.is_taken.Given as goal

abbrev pub invariant-loop-place : goal.invariant-loop-place
invariant-loop-place l = list_any (λ m. in_use l.self.state.comms m l.ctx) (take l.place l.key.members) ≡ false
