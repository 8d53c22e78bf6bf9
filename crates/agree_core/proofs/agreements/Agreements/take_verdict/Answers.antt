use Rattle.std.proofs.Common.{ap, rules, subst, sym}
use Rattle.and_reduce.specs.Rows.{IsPick}
use Rattle.agree_core.specs.Held.{Held}
use Rattle.agree_core.proofs.MoveFacts.{made-take_down, taken-pick}
use Rattle.agree_core.proofs.agreements.Agreements.take_verdict.Goals as goal

pub decide-requires : goal.decide-requires
decide-requires g c =
    let pick : IsPick c.args.self.now.top c.args.verdict =
    subst (λ (h : Held). IsPick h.top c.args.verdict) c.self.view_is
    (taken-pick c.args.self.now.rank c.self.inside.gathers.top c.self.inside.mask c.args.self.now.part c.args.from c.args.key.now c.args.round c.args.verdict
    (ap (λ (h : Held). h.part.mask) (sym c.self.view_is)) c.self.invariant.low c.requires.taken) in
    search rules

pub returns-clause-step : goal.returns-clause-step
returns-clause-step g c = made-take_down c.args.self.now _ c.args.key.now c.args.round c.args.verdict _ _ c.args.from c.requires.taken c.decide.ensures.step

pub returns-clause-pick : goal.returns-clause-pick
returns-clause-pick g c =
    subst (λ (h : Held). IsPick h.top c.args.verdict) c.self.view_is
    (taken-pick c.args.self.now.rank c.self.inside.gathers.top c.self.inside.mask c.args.self.now.part c.args.from c.args.key.now c.args.round c.args.verdict
    (ap (λ (h : Held). h.part.mask) (sym c.self.view_is)) c.self.invariant.low c.requires.taken)
