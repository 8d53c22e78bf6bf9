use Rattle.wayout_law.proofs.DrainEnds.{drains_end}
use Rattle.wayout_law.proofs.drains_end.Goals as goal

pub returns : goal.returns
returns c = λ s scripts journal sets known run. drains_end s scripts journal sets known run
