use Rattle.std.proofs.Common.{◌∙◌, ap}
use Rattle.agree_law.specs.Part.{round_of}
use Rattle.agree_law.specs.Gather.{verdict_of}
use Rattle.agree_core.specs.Held.{Held}
use Rattle.agree_core.proofs.MoveFacts.{made-settle}
use Rattle.agree_core.proofs.agreements.Agreements.settle.Goals as goal

pub returns-clause-step : goal.returns-clause-step
returns-clause-step g c =
    made-settle c.args.self.now _ c.args.key.now c.round-round.result c.verdict-verdict.result _ _
    (c.round-round.ensures ∙ ap (λ (h : Held). round_of h.part.rounds c.args.key.now) c.self.view_is)
    (c.verdict-verdict.ensures.value ∙ ap (λ (h : Held). verdict_of h.top h.part.gathered c.args.key.now (round_of h.part.rounds c.args.key.now)) c.self.view_is)
    c.decide.ensures.step
