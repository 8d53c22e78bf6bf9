use Rattle.answer_law.proofs.Classes.{class_has}
use Rattle.answer_law.proofs.Order.{class_in_order}
use Rattle.answer_law.proofs.split_groups_are_in_order.Goals as goal

pub returns-clause-members : goal.returns-clause-members
returns-clause-members c = λ share members colour m. class_has share members colour m

pub returns-clause-order : goal.returns-clause-order
returns-clause-order c = λ share members colour a b ha hb. class_in_order share members colour a b ha hb
