use Rattle.agree_law.specs.World.{run, opening}
use Rattle.agree_law.proofs.Law.{holds_always}
use Rattle.agree_law.proofs.OpenRows.{opens_fit}
use Rattle.agree_law.proofs.opens_fit.Goals as goal

pub returns : goal.returns
returns c = λ ranks top events. opens_fit top (run top events (opening ranks top)) (holds_always ranks top events).kept
