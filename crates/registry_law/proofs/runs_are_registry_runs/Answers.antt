use Rattle.registry_law.proofs.Runs.{registry_runs}
use Rattle.registry_law.proofs.runs_are_registry_runs.Goals as goal

pub returns : goal.returns
returns c = λ s journal sets run. registry_runs s sets journal run
