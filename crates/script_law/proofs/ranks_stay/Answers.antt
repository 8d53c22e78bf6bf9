use Rattle.script_law.proofs.Laws.{ranks_at_end}
use Rattle.script_law.proofs.ranks_stay.Goals as goal

pub returns : goal.returns
returns c = λ s journal. ranks_at_end s journal
