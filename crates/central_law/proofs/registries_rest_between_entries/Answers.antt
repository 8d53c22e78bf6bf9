use Rattle.mpi_law.specs.Registry.State.{registry_opening}
use Rattle.central_law.proofs.Rest.{rest_opening}
use Rattle.central_law.proofs.Entries.{rest_goes_on, rest_after}
use Rattle.central_law.proofs.registries_rest_between_entries.Goals as goal

pub returns-clause-opening : goal.returns-clause-opening
returns-clause-opening c = λ s. rest_opening s

pub returns-clause-entry : goal.returns-clause-entry
returns-clause-entry c = λ s g e rest run. rest_goes_on s g e rest run

pub returns-clause-journal : goal.returns-clause-journal
returns-clause-journal c = λ s journal run. rest_after s (registry_opening s) journal (rest_opening s) run
