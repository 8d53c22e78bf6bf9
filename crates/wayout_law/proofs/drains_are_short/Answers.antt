use Rattle.wayout_law.proofs.RunLaw.{drains_are_short}
use Rattle.wayout_law.proofs.drains_are_short.Goals as goal

pub returns : goal.returns
returns c = λ s scripts journal es sets known run along drained. drains_are_short s scripts journal es sets known run along drained
