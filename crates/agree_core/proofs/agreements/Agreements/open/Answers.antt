use Rattle.std.proofs.Common.{refl}
use Rattle.and_reduce.specs.Fronts.{front}
use Rattle.and_reduce.proofs.FrontFacts.{front-none_of}
use Rattle.agree_core.proofs.MoveFacts.{made-begin}
use Rattle.agree_core.proofs.agreements.Agreements.open.Goals as goal

pub returns-clause-step : goal.returns-clause-step
returns-clause-step g c =
    made-begin _ _ _ c.args.key.now c.place_in.result (front c.self.inside.gathers.top c.none.result) _ _ c.self.view_is refl c.put.ensures.top
    (rw (c.put.ensures.top, c.put.ensures.offers, c.put.ensures.rounds, c.push_reserved.ensures.items, c.copy.ensures.same) refl)
    c.place_in.ensures
    (rw c.none.ensures.value (front-none_of c.self.inside.gathers.top _ c.self.invariant.places.wide))
    c.send_up.ensures.sent
