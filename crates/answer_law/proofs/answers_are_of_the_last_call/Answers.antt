use Rattle.answer_law.proofs.Called.{called_last}
use Rattle.answer_law.proofs.answers_are_of_the_last_call.Goals as goal

pub returns : goal.returns
returns c = λ s events n r said run a. called_last s events n r said run a
