use Rattle.agree_law.specs.World.{run, opening}
use Rattle.agree_law.proofs.Law.{holds_always}
use Rattle.share_law.proofs.Exchanges.{exchanges_always, settled_shares_are_told}
use Rattle.share_law.proofs.settled_shares_are_told.Goals as goal

pub returns : goal.returns
returns c = λ ranks top events. settled_shares_are_told top (run top events (opening ranks top)) (holds_always ranks top events) (exchanges_always ranks top events)
