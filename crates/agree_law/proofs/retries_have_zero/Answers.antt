use Rattle.agree_law.specs.World.{run, opening}
use Rattle.agree_law.proofs.Law.{holds_always}
use Rattle.agree_law.proofs.WorldFacts.{retries_have_zero}
use Rattle.agree_law.proofs.retries_have_zero.Goals as goal

pub returns : goal.returns
returns c = λ ranks top events. retries_have_zero top (run top events (opening ranks top)) (holds_always ranks top events).kept
