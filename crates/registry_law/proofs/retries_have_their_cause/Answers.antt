use Rattle.projection_law.proofs.RetryLaw.{retries_are_caused_in_journals}
use Rattle.registry_law.proofs.Runs.{names_are_known}
use Rattle.registry_law.proofs.retries_have_their_cause.Goals as goal

pub returns : goal.returns
returns c = λ s journal sets run. retries_are_caused_in_journals s journal sets run (names_are_known s sets journal run)
