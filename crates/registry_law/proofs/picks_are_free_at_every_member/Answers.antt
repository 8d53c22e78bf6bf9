use Rattle.mpi_protocol.specs.World.{opening}
use Rattle.mpi_protocol.specs.Run.{end_of}
use Rattle.projection_law.specs.Events.{agreement_events}
use Rattle.projection_law.proofs.Laws.{picks_are_free_there}
use Rattle.registry_law.proofs.Runs.{end_together}
use Rattle.registry_law.proofs.picks_are_free_at_every_member.Goals as goal

pub returns : goal.returns
returns c = λ s journal sets run. picks_are_free_there s (end_of s journal) (agreement_events (opening s) journal) (end_together s sets journal run).follows.projected
