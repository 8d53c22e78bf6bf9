use Rattle.closed_law.proofs.Laws.{gives_nothing_back}
use Rattle.closed_law.proofs.quiet_ends_give_nothing_back.Goals as goal

pub returns : goal.returns
returns c = λ s scripts journal p sets run quiet lp. gives_nothing_back s scripts journal sets run quiet p lp
