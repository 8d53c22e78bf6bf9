use Rattle.mpi_protocol.specs.World.{opening}
use Rattle.mpi_protocol.specs.Run.{end_of}
use Rattle.projection_law.specs.Events.{agreement_events}
use Rattle.projection_law.proofs.Laws.{exhausted_is_taken_there}
use Rattle.registry_law.proofs.Runs.{end_together}
use Rattle.registry_law.proofs.exhausted_only_where_all_are_taken.Goals as goal

pub returns : goal.returns
returns c = λ s journal sets run. exhausted_is_taken_there s (end_of s journal) (agreement_events (opening s) journal) (end_together s sets journal run).follows.projected
