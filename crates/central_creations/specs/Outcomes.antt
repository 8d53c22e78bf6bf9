-- What was picked in code, as the registry's. This project's own.
use Rattle.mpi_law.specs.Registry.State as state
use Rattle.central_creations.specs.declared.picks.Outcome.{Outcome}
use Rattle.central_creations.specs.declared.picks.Outcome.TheVariants.{Made, NoneFree}

abbrev pub outcome_seen : Outcome → state.Outcome
outcome_seen (Made place) = state.Made place
outcome_seen NoneFree = state.NoneFree
