use Rattle.agree_law.specs.World.{run, opening}
use Rattle.due_law.specs.Dues.{dues_after}
use Rattle.due_law.proofs.Law.{holding_always}
use Rattle.due_law.proofs.DueFacts.{none_due_at_settles}
use Rattle.due_law.proofs.none_due_at_settles.Goals as goal

pub returns : goal.returns
returns c = λ ranks top events. none_due_at_settles top (run top events (opening ranks top)) (dues_after ranks top events) (holding_always ranks top events)
