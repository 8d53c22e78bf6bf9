use Rattle.std.proofs.Common.{◌∙◌, ap, refl, sym}
use Rattle.mpi_protocol.specs.Moves.{Move}
use Rattle.rank_core.specs.Held.{Held}
use Rattle.rank_core.proofs.ActFacts.{sent_by-made, sent_by-nothing}
use Rattle.rank_core.proofs.DeliverFacts.{refused-up, delivered-up}
use Rattle.rank_core.proofs.rank.RankState.take_up.Goals as goal

pub returns-then-may_take_offer-clause-state : goal.returns-then-may_take_offer-clause-state
returns-then-may_take_offer-clause-state g c = ap (λ (m : Move). m.state) (delivered-up _ _ c.args.from c.args.key.now _ c.take_offer.new.self _ _ c.self.view_is refl c.self.invariant.reach refl c.args.round c.args.own c.args.mask.now (sym c.may_take_offer.ensures ∙ c.if-may_take_offer.true) c.take_offer.ensures.step)

pub returns-then-may_take_offer-clause-sent : goal.returns-then-may_take_offer-clause-sent
returns-then-may_take_offer-clause-sent g c =
    sent_by-made _ _ _ _ _ _ 0 _ _ c.self.view_is c.self.invariant.reach c.out.view_is c.requires.ready c.take_offer.ensures.step ∙ ap (λ (m : Move). m.sent) (delivered-up _ _ c.args.from c.args.key.now _ c.take_offer.new.self _ _ c.self.view_is refl c.self.invariant.reach refl c.args.round c.args.own c.args.mask.now (sym c.may_take_offer.ensures ∙ c.if-may_take_offer.true) c.take_offer.ensures.step)

pub returns-else-may_take_offer-clause-state : goal.returns-else-may_take_offer-clause-state
returns-else-may_take_offer-clause-state g c = sym (ap (λ (h : Held). h.state) c.self.view_is) ∙ ap (λ (m : Move). m.state) (refused-up _ _ c.args.from c.args.key.now c.self.view_is c.args.round c.args.own c.args.mask.now (sym c.may_take_offer.ensures ∙ c.if-may_take_offer.false))

pub returns-else-may_take_offer-clause-sent : goal.returns-else-may_take_offer-clause-sent
returns-else-may_take_offer-clause-sent g c = sent_by-nothing _ _ _ 0 c.out.view_is c.requires.ready ∙ ap (λ (m : Move). m.sent) (refused-up _ _ c.args.from c.args.key.now c.self.view_is c.args.round c.args.own c.args.mask.now (sym c.may_take_offer.ensures ∙ c.if-may_take_offer.false))
