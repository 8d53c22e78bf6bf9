use Rattle.mpi_protocol.specs.World.{opening}
use Rattle.mpi_protocol.specs.Run.{end_of}
use Rattle.projection_law.specs.Events.{agreement_events}
use Rattle.projection_law.proofs.SoundRuns.{runs_follow}
use Rattle.projection_law.proofs.MaskLaw.{masks_stay_in_runs}
use Rattle.projection_law.proofs.masks_stay.Goals as goal

pub returns : goal.returns
returns c = λ s journal sets known run. masks_stay_in_runs s (end_of s journal) (agreement_events (opening s) journal) sets (runs_follow s journal sets run known)
