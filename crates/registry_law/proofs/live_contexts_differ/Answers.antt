use Rattle.registry_law.proofs.Runs.{apart_at_end}
use Rattle.registry_law.proofs.live_contexts_differ.Goals as goal

pub returns : goal.returns
returns c = λ s journal sets run. apart_at_end s sets journal run
