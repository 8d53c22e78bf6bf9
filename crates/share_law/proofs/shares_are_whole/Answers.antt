use Rattle.agree_law.specs.World.{run, opening}
use Rattle.agree_law.proofs.Law.{holds_always}
use Rattle.share_law.proofs.Exchanges.{exchanges_always, shares_are_whole}
use Rattle.share_law.proofs.shares_are_whole.Goals as goal

pub returns : goal.returns
returns c = λ ranks top events. shares_are_whole top (run top events (opening ranks top)) (holds_always ranks top events).kept (exchanges_always ranks top events)
