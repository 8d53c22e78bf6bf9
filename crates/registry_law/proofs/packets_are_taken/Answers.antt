use Rattle.registry_law.proofs.Runs.{taken_at_end}
use Rattle.registry_law.proofs.packets_are_taken.Goals as goal

pub returns : goal.returns
returns c = λ s journal sets run. taken_at_end s sets journal run
