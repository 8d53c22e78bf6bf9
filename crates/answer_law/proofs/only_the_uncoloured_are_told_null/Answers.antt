use Rattle.answer_law.proofs.Told.{null_told, outcome_told}
use Rattle.answer_law.proofs.only_the_uncoloured_are_told_null.Goals as goal

pub returns-clause-null : goal.returns-clause-null
returns-clause-null c = λ s events n r said run a u. null_told s events run n r said a u

pub returns-clause-others : goal.returns-clause-others
returns-clause-others c = λ s events n r said run a u. outcome_told s events run n r said a u
