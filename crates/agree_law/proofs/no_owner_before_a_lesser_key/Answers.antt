use Rattle.agree_law.proofs.RuleFacts.{no_owner_before_a_lesser_key}
use Rattle.agree_law.proofs.no_owner_before_a_lesser_key.Goals as goal

pub returns : goal.returns
returns c = λ a. no_owner_before_a_lesser_key a
