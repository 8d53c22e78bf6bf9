use Rattle.agree_law.proofs.RuleFacts.{no_give_back_while_owned}
use Rattle.agree_law.proofs.no_give_back_while_owned.Goals as goal

pub returns : goal.returns
returns c = λ top a. no_give_back_while_owned top a
