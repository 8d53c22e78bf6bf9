use Rattle.projection_law.proofs.RunLaws.{picks_are_contexts_in_runs}
use Rattle.projection_law.proofs.picks_are_contexts.Goals as goal

pub returns : goal.returns
returns c = λ s journal run. picks_are_contexts_in_runs s journal run
