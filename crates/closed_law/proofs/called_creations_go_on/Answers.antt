use Rattle.closed_law.proofs.GoingOn.{under_way}
use Rattle.closed_law.proofs.called_creations_go_on.Goals as goal

pub returns : goal.returns
returns c = λ s journal n r sets run ln all member unanswered. under_way s sets journal run n r ln all member unanswered
