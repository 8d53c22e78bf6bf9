use Rattle.closed_law.proofs.Laws.{takes_no_message}
use Rattle.closed_law.proofs.quiet_ends_take_no_message.Goals as goal

pub returns : goal.returns
returns c = λ s scripts journal sets run quiet. takes_no_message s scripts journal sets run quiet
