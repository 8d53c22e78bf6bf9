use Rattle.wayout_law.proofs.FromOpening.{jobs_are_short}
use Rattle.wayout_law.proofs.jobs_are_short.Goals as goal

pub returns : goal.returns
returns c = λ s scripts es sets known drained. jobs_are_short s scripts es sets known drained
