use Rattle.std.proofs.Common.{◌≡◌, ◌<◌, ◌-◌, ◌^◌, ◌∙◌, true, ap, refl, rules, sym}
use Rattle.mpi_protocol.specs.Moves.{Move}
use Rattle.rank_core.specs.Held.{Held}
use Rattle.rank_core.proofs.ActFacts.{sent_by-made, sent_by-nothing}
use Rattle.agree_law.specs.Verdicts.{takes_down}
use Rattle.rank_core.proofs.CountFacts.{verdict-low}
use Rattle.rank_core.proofs.CommFacts.{rank-verdict}
use Rattle.rank_core.proofs.DeliverFacts.{refused-down, delivered-down}
use Rattle.rank_core.proofs.rank.RankState.take_down.Goals as goal

pub returns-then-may_take_verdict-clause-state : goal.returns-then-may_take_verdict-clause-state
returns-then-may_take_verdict-clause-state g c = ap (λ (m : Move). m.state) (delivered-down _ _ c.args.from c.args.key.now _ c.take_verdict.new.self _ _ c.self.view_is refl c.self.invariant.reach refl c.args.round c.args.verdict c.take_context.new.comms.comms (sym c.may_take_verdict.ensures ∙ c.if-may_take_verdict.true) c.take_verdict.ensures.step c.take_context.ensures.comms)

pub returns-then-may_take_verdict-clause-sent : goal.returns-then-may_take_verdict-clause-sent
returns-then-may_take_verdict-clause-sent g c =
    sent_by-made _ _ _ _ _ _ 0 _ _ c.self.view_is c.self.invariant.reach c.out.view_is c.requires.ready c.take_verdict.ensures.step ∙ ap (λ (m : Move). m.sent) (delivered-down _ _ c.args.from c.args.key.now _ c.take_verdict.new.self _ _ c.self.view_is refl c.self.invariant.reach refl c.args.round c.args.verdict c.take_context.new.comms.comms (sym c.may_take_verdict.ensures ∙ c.if-may_take_verdict.true) c.take_verdict.ensures.step c.take_context.ensures.comms)

pub returns-else-may_take_verdict-clause-state : goal.returns-else-may_take_verdict-clause-state
returns-else-may_take_verdict-clause-state g c = sym (ap (λ (h : Held). h.state) c.self.view_is) ∙ ap (λ (m : Move). m.state) (refused-down _ _ c.args.from c.args.key.now c.self.view_is c.args.round c.args.verdict (sym c.may_take_verdict.ensures ∙ c.if-may_take_verdict.false))

pub returns-else-may_take_verdict-clause-sent : goal.returns-else-may_take_verdict-clause-sent
returns-else-may_take_verdict-clause-sent g c = sent_by-nothing _ _ _ 0 c.out.view_is c.requires.ready ∙ ap (λ (m : Move). m.sent) (refused-down _ _ c.args.from c.args.key.now c.self.view_is c.args.round c.args.verdict (sym c.may_take_verdict.ensures ∙ c.if-may_take_verdict.false))

pub invariant_of-self : goal.invariant_of-self
invariant_of-self g c =
    rank-verdict _ _ c.take_context.ensures.rank c.self.invariant _ _ c.self.inside.threads c.args.key.now c.args.verdict c.take_verdict.ensures.step.becomes.rank c.take_verdict.ensures.step.becomes.top
    c.take_verdict.ensures.pick c.take_context.ensures.comms

pub take_verdict-requires : goal.take_verdict-requires
take_verdict-requires g c =
    let taken : takes_down c.self.inside.agree.rank c.self.inside.agree.part c.args.from c.args.key.now c.args.round c.args.verdict ≡ true = sym c.may_take_verdict.ensures ∙ c.if-may_take_verdict.true in
    let round : c.args.round < 2 ^ 64 - 1 = verdict-low _ _ c.args.from c.args.key.now c.args.round c.args.verdict c.self.view_is c.requires.counts taken in
    search rules
