use Rattle.agree_law.specs.World.{run, opening}
use Rattle.agree_law.proofs.Law.{holds_always}
use Rattle.share_law.proofs.Exchanges.{exchanges_always, arrivers_are_taken}
use Rattle.share_law.proofs.arrivers_are_taken.Goals as goal

pub returns : goal.returns
returns c = λ ranks top events. arrivers_are_taken top (run top events (opening ranks top)) (holds_always ranks top events).kept (exchanges_always ranks top events)
