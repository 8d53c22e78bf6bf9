use Rattle.closed_law.proofs.Laws.{decides_no_creation}
use Rattle.closed_law.proofs.quiet_ends_decide_no_creation.Goals as goal

pub returns : goal.returns
returns c = λ s scripts journal n sets run quiet ln. decides_no_creation s scripts journal sets run quiet n ln
