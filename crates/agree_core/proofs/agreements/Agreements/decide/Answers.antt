use Rattle.std.proofs.Common.{◌∙◌, ap}
use Rattle.agree_law.specs.Tree.{place_in}
use Rattle.agree_core.specs.Held.{Held}
use Rattle.agree_core.proofs.MoveFacts.{made-decide}
use Rattle.agree_core.proofs.agreements.Agreements.decide.Goals as goal

pub returns-clause-step : goal.returns-clause-step
returns-clause-step g c =
    made-decide c.args.self.now _ c.args.key.now c.args.round c.args.verdict _ _ c.place_in.result c.take.ensures.part
    (c.place_in.ensures ∙ ap (λ (h : Held). place_in c.args.key.now.members h.rank) c.self.view_is)
    (c.send_down.ensures.sent c.args.self.now.top)
