use Rattle.std.proofs.Common.{◌≡◌, ◌<◌, ◌-◌, ◌^◌, ◌∙◌, true, ap, refl, rules}
use Rattle.agree_law.specs.Part.{round_of}
use Rattle.agree_law.specs.Verdicts.{may_settle_offers}
use Rattle.mpi_protocol.specs.Moves.{Move}
use Rattle.rank_core.proofs.ActFacts.{sent_by-made}
use Rattle.rank_core.proofs.AgreeFacts.{may-settle-offers, settled-offers}
use Rattle.rank_core.proofs.CommFacts.{rank-verdict}
use Rattle.rank_core.proofs.CountFacts.{round-low}
use Rattle.rank_core.proofs.rank.RankState.settle_offers.Goals as goal

pub settle-verdict-requires : goal.settle-verdict-requires
settle-verdict-requires g c =
    let whole : may_settle_offers c.self.inside.agree.rank c.self.inside.agree.part c.args.key.now ≡ true = may-settle-offers _ _ c.args.key.now c.self.view_is c.requires.enabled c.requires.offers in
    let round : round_of c.self.inside.agree.part.rounds c.args.key.now < 2 ^ 64 - 1 = round-low _ _ c.args.key.now c.self.view_is c.requires.counts in
    search rules

pub invariant_of-self : goal.invariant_of-self
invariant_of-self g c =
    rank-verdict _ _ c.take_context.ensures.rank c.self.invariant _ _ c.self.inside.threads c.args.key.now c.settle-verdict.result c.settle-verdict.ensures.step.becomes.rank c.settle-verdict.ensures.step.becomes.top
    c.settle-verdict.ensures.pick c.take_context.ensures.comms

pub returns-clause-state : goal.returns-clause-state
returns-clause-state g c =
    ap (λ (m : Move). m.state)
    (settled-offers _ _ c.args.key.now _ c.settle-verdict.new.self _ _ c.self.view_is refl c.self.invariant.reach refl c.settle-verdict.result c.take_context.new.comms.comms c.requires.offers c.settle-verdict.ensures.step
    c.settle-verdict.ensures.verdict c.take_context.ensures.comms)

pub returns-clause-sent : goal.returns-clause-sent
returns-clause-sent g c =
    sent_by-made _ _ _ _ _ _ 0 _ _ c.self.view_is c.self.invariant.reach c.out.view_is c.requires.ready c.settle-verdict.ensures.step
    ∙ ap (λ (m : Move). m.sent)
    (settled-offers _ _ c.args.key.now _ c.settle-verdict.new.self _ _ c.self.view_is refl c.self.invariant.reach refl c.settle-verdict.result c.take_context.new.comms.comms c.requires.offers c.settle-verdict.ensures.step
    c.settle-verdict.ensures.verdict c.take_context.ensures.comms)
