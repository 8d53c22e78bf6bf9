use Rattle.std.proofs.Common.{true, refl}
use Rattle.and_reduce.proofs.FrontFacts.{front-set}
use Rattle.agree_core.proofs.MoveFacts.{became-back}
use Rattle.agree_core.proofs.agreements.Agreements.give_back.Goals as goal

pub returns-clause-part : goal.returns-clause-part
returns-clause-part g c =
    became-back _ _ _ c.args.ctx c.self.view_is refl refl
    (rw (c.set.ensures.value, front-set c.self.inside.gathers.top c.args.ctx c.self.inside.mask true (rw (← c.self.view_is) at c.requires.context.1)) refl)
