-- What a thread waits for, as the registry has it. This project's own.
use Rattle.mpi_law.specs.Registry.State as registry
use Rattle.central_ranks.specs.declared.wait.Wait.{Wait}
use Rattle.central_ranks.specs.declared.wait.Wait.TheVariants.{Idle, Creating, Freeing, Ending, Receiving, Awaiting}

-- a wait within a call is none of these
abbrev pub wait_of : Wait → registry.Wait
wait_of Idle = registry.Idle
wait_of (Creating place) = registry.Creating place
wait_of (Freeing place) = registry.Freeing place
wait_of (Ending session) = registry.Ending session
wait_of (Receiving number) = registry.Receiving number
wait_of (Awaiting name) = registry.Awaiting name
