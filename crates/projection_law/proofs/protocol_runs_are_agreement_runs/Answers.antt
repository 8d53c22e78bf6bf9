use Rattle.projection_law.proofs.RunLaws.{runs_are_agreement_runs}
use Rattle.projection_law.proofs.protocol_runs_are_agreement_runs.Goals as goal

pub returns : goal.returns
returns c = λ s journal sets known run. runs_are_agreement_runs s journal sets known run
