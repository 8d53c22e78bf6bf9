use Rattle.agree_law.specs.World.{run, opening}
use Rattle.share_law.proofs.Exchanges.{exchanges_always}
use Rattle.share_law.proofs.OwnShares.{shares_are_own}
use Rattle.share_law.proofs.shares_are_own.Goals as goal

pub returns : goal.returns
returns c = λ ranks top events. shares_are_own (run top events (opening ranks top)) (exchanges_always ranks top events)
