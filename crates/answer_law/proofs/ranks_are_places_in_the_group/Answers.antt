use Rattle.answer_law.proofs.Told.{rank_told, size_told}
use Rattle.answer_law.proofs.ranks_are_places_in_the_group.Goals as goal

pub returns-clause-rank : goal.returns-clause-rank
returns-clause-rank c = λ s events n r ctx rank size run a. rank_told s events run n r ctx rank size a

pub returns-clause-size : goal.returns-clause-size
returns-clause-size c = λ s events n r ctx rank size run a. size_told s events run n r ctx rank size a
