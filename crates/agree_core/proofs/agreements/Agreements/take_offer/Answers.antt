use Rattle.std.proofs.Common.{ap, refl}
use Rattle.and_reduce.specs.Fronts.{front}
use Rattle.agree_core.specs.Held.{Held}
use Rattle.agree_core.proofs.MoveFacts.{made-take_up}
use Rattle.agree_core.proofs.agreements.Agreements.take_offer.Goals as goal

pub returns-clause-step : goal.returns-clause-step
returns-clause-step g c =
    made-take_up _ _ _ c.args.from c.args.key.now c.args.round c.place_in.result c.args.own (front c.self.inside.gathers.top c.copy.result) _ _ _ c.self.view_is refl c.put.ensures.top c.requires.taken
    (rw (c.put.ensures.top, c.put.ensures.offers, c.put.ensures.rounds) refl)
    c.place_in.ensures
    (rw c.copy.ensures.value (ap (λ (h : Held). front h.top c.args.mask.now) c.self.view_is))
    c.send_up.ensures.sent
