use Rattle.agree_law.specs.World.{run, opening}
use Rattle.share_law.proofs.Exchanges.{exchanges_always}
use Rattle.share_law.proofs.ShareFacts.{one_share}
use Rattle.share_law.proofs.one_share.Goals as goal

pub returns : goal.returns
returns c = λ ranks top events. one_share (run top events (opening ranks top)) (exchanges_always ranks top events)
