use Rattle.std.proofs.Common.{[], ◌∙◌, ap, refl, sym}
use Rattle.mpi_protocol.specs.Moves.{Move}
use Rattle.rank_core.specs.Held.{Held}
use Rattle.rank_core.proofs.DeliverFacts.{refused-share, delivered-share, take_share-sent}
use Rattle.rank_core.proofs.rank.RankState.take_share.Goals as goal

pub returns-then-may_take_share-clause-state : goal.returns-then-may_take_share-clause-state
returns-then-may_take_share-clause-state g c = ap (λ (m : Move). m.state) (delivered-share {w = 0} _ _ c.args.from c.args.key.now c.self.inside.agree c.take_share.new.self [] [] c.self.view_is refl c.self.invariant.reach refl c.args.share (sym c.may_take_share.ensures ∙ c.if-may_take_share.true) c.take_share.ensures.part (take_share-sent _ c.self.inside.agree c.args.from c.args.key.now c.args.share (sym c.may_take_share.ensures ∙ c.if-may_take_share.true)))

pub returns-then-may_take_share-clause-sent : goal.returns-then-may_take_share-clause-sent
returns-then-may_take_share-clause-sent g c =
    ap (λ (m : Move). m.sent) (delivered-share {w = 0} _ _ c.args.from c.args.key.now c.self.inside.agree c.take_share.new.self [] [] c.self.view_is refl c.self.invariant.reach refl c.args.share (sym c.may_take_share.ensures ∙ c.if-may_take_share.true) c.take_share.ensures.part (take_share-sent _ c.self.inside.agree c.args.from c.args.key.now c.args.share (sym c.may_take_share.ensures ∙ c.if-may_take_share.true)))

pub returns-else-may_take_share-clause-state : goal.returns-else-may_take_share-clause-state
returns-else-may_take_share-clause-state g c = sym (ap (λ (h : Held). h.state) c.self.view_is) ∙ ap (λ (m : Move). m.state) (refused-share _ _ c.args.from c.args.key.now c.self.view_is c.args.share (sym c.may_take_share.ensures ∙ c.if-may_take_share.false))

pub returns-else-may_take_share-clause-sent : goal.returns-else-may_take_share-clause-sent
returns-else-may_take_share-clause-sent g c = ap (λ (m : Move). m.sent) (refused-share _ _ c.args.from c.args.key.now c.self.view_is c.args.share (sym c.may_take_share.ensures ∙ c.if-may_take_share.false))
