use Rattle.agree_law.specs.World as agreement
use Rattle.mpi_protocol.specs.World.{opening}
use Rattle.mpi_protocol.specs.Run.{end_of}
use Rattle.projection_law.specs.Events.{agreement_events}
use Rattle.due_law.specs.Runs.{dues_of}
use Rattle.due_law.proofs.Finds.{untold}
use Rattle.due_law.proofs.RunFinds.{end_belongs}
use Rattle.due_law.proofs.nothing_is_due_untold.Goals as goal

pub returns : goal.returns
returns c = λ s journal sets known runs. untold s (end_of s journal) (agreement.run s.contexts (agreement_events (opening s) journal) (agreement.opening s.ranks s.contexts)) (dues_of s journal) (end_belongs s journal sets known runs)
