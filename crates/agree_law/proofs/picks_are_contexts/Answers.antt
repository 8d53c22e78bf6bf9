use Rattle.agree_law.specs.World.{run, opening}
use Rattle.agree_law.proofs.PickedContexts.{picks_are_contexts}
use Rattle.agree_law.proofs.picks_are_contexts.Goals as goal

pub returns : goal.returns
returns c = λ ranks top events. picks_are_contexts top (run top events (opening ranks top))
