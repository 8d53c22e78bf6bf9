use Rattle.agree_core.proofs.ShareMoves.{made-take_shares}
use Rattle.agree_core.proofs.agreements.Agreements.take_shares.Goals as goal

pub returns-clause-step : goal.returns-clause-step
returns-clause-step g c =
    made-take_shares c.args.self.now _ c.args.from c.args.key.now _ c.args.list.now _ _ c.requires.taken c.own_colour-colour.ensures c.divide.ensures.step
