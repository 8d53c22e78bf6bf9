use Rattle.closed_law.proofs.Laws.{closed_here}
use Rattle.closed_law.proofs.quiet_ends_are_closed.Goals as goal

pub returns : goal.returns
returns c = λ s scripts journal sets run quiet. closed_here s scripts journal sets run quiet
