use Rattle.closed_law.proofs.GoingOn.{goes_on}
use Rattle.closed_law.proofs.what_is_not_closed_goes_on.Goals as goal

pub returns : goal.returns
returns c = λ s scripts journal sets run open_yet. goes_on s sets scripts journal run open_yet
