use Rattle.central_law.proofs.Change.{part_here, part_elsewhere}
use Rattle.central_law.proofs.calls_change_one_rank.Goals as goal

pub returns-clause-rank : goal.returns-clause-rank
returns-clause-rank c = λ s g r t e m rest rank. part_here s g r t e m rest rank

pub returns-clause-others : goal.returns-clause-others
returns-clause-others c = λ g r t q e m ne. part_elsewhere g r t q e m ne
