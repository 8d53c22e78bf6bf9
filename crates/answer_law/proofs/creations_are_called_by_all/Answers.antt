use Rattle.answer_law.proofs.Callers.{caller_called, all_have_called}
use Rattle.answer_law.proofs.creations_are_called_by_all.Goals as goal

pub returns-clause-callers : goal.returns-clause-callers
returns-clause-callers c = λ s events n r run called. caller_called s events n r run called

pub returns-clause-all : goal.returns-clause-all
returns-clause-all c = λ s events n r said run a. all_have_called s events n r said run a
