use Rattle.std.proofs.Common.{◌∙◌, ap, refl, sym}
use Rattle.mpi_protocol.specs.Moves.{Move}
use Rattle.rank_core.specs.Held.{Held}
use Rattle.rank_core.proofs.ActFacts.{sent_by-made, sent_by-nothing}
use Rattle.rank_core.proofs.DeliverFacts.{refused-shares, delivered-shares}
use Rattle.rank_core.proofs.rank.RankState.take_shares.Goals as goal

pub returns-then-may_take_shares-clause-state : goal.returns-then-may_take_shares-clause-state
returns-then-may_take_shares-clause-state g c = ap (λ (m : Move). m.state) (delivered-shares _ _ c.args.from c.args.key.now _ c.take_shares-next.new.self _ _ c.self.view_is refl c.self.invariant.reach refl c.args.list.now c.take_shares-next.result c.go_on.new.self (sym c.may_take_shares.ensures ∙ c.if-may_take_shares.true) c.take_shares-next.ensures.step c.take_shares-next.ensures.opened c.go_on.ensures)

pub returns-then-may_take_shares-clause-sent : goal.returns-then-may_take_shares-clause-sent
returns-then-may_take_shares-clause-sent g c =
    sent_by-made _ _ _ _ _ _ 0 _ _ c.self.view_is c.self.invariant.reach c.out.view_is c.requires.ready c.take_shares-next.ensures.step ∙ ap (λ (m : Move). m.sent) (delivered-shares _ _ c.args.from c.args.key.now _ c.take_shares-next.new.self _ _ c.self.view_is refl c.self.invariant.reach refl c.args.list.now c.take_shares-next.result c.go_on.new.self (sym c.may_take_shares.ensures ∙ c.if-may_take_shares.true) c.take_shares-next.ensures.step c.take_shares-next.ensures.opened c.go_on.ensures)

pub returns-else-may_take_shares-clause-state : goal.returns-else-may_take_shares-clause-state
returns-else-may_take_shares-clause-state g c = sym (ap (λ (h : Held). h.state) c.self.view_is) ∙ ap (λ (m : Move). m.state) (refused-shares _ _ c.args.from c.args.key.now c.self.view_is c.args.list.now (sym c.may_take_shares.ensures ∙ c.if-may_take_shares.false))

pub returns-else-may_take_shares-clause-sent : goal.returns-else-may_take_shares-clause-sent
returns-else-may_take_shares-clause-sent g c = sent_by-nothing _ _ _ 0 c.out.view_is c.requires.ready ∙ ap (λ (m : Move). m.sent) (refused-shares _ _ c.args.from c.args.key.now c.self.view_is c.args.list.now (sym c.may_take_shares.ensures ∙ c.if-may_take_shares.false))
