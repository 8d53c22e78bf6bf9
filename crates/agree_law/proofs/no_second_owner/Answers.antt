use Rattle.agree_law.proofs.RuleFacts.{no_second_owner}
use Rattle.agree_law.proofs.no_second_owner.Goals as goal

pub returns : goal.returns
returns c = λ a. no_second_owner a
