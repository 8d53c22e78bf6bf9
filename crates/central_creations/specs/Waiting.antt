-- The creations that a call may still join. This project's own.
use Rattle.std.specs.Prelude.{Bool, not}
use Rattle.mpi_law.specs.Registry.State.{Creation}
use Rattle.mpi_law.specs.Registry.Creations.{is_picked}

abbrev pub is_waiting : Creation → Bool
is_waiting c = not (is_picked c)
