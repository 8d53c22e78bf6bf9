use Rattle.mpi_protocol.specs.World.{opening}
use Rattle.mpi_protocol.specs.Run.{end_of}
use Rattle.projection_law.specs.Events.{agreement_events}
use Rattle.projection_law.proofs.SoundRuns.{runs_follow}
use Rattle.projection_law.proofs.Laws.{settled_shares_are_told_there}
use Rattle.projection_law.proofs.settled_shares_are_told.Goals as goal

pub returns : goal.returns
returns c = λ s journal sets known run. settled_shares_are_told_there s (end_of s journal) (agreement_events (opening s) journal) (runs_follow s journal sets run known).projected
