use Rattle.registry_law.proofs.Runs.{names_are_known}
use Rattle.registry_law.proofs.callers_names_are_known.Goals as goal

pub returns : goal.returns
returns c = λ s journal sets run. names_are_known s sets journal run
