use Rattle.agree_law.proofs.RuleFacts.{offers_are_by_the_rule}
use Rattle.agree_law.proofs.offers_are_by_the_rule.Goals as goal

pub returns : goal.returns
returns c = λ r top a. offers_are_by_the_rule r top a
