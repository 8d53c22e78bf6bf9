use Rattle.std.proofs.Common.{◌∙◌, sym, refl}
use Rattle.agree_core.proofs.ShareMoves.{made-settle_share, made-not_taken, settled-class}
use Rattle.agree_core.proofs.agreements.Agreements.settle_share.Goals as goal

pub returns-then-may_take_shares-clause-opened : goal.returns-then-may_take_shares-clause-opened
returns-then-may_take_shares-clause-opened g c =
    settled-class _ _ _ c.args.key.now c.list-list.result c.take_shares.result c.self.view_is refl c.list-list.ensures c.take_shares.ensures.opened

pub returns-then-may_take_shares-clause-step : goal.returns-then-may_take_shares-clause-step
returns-then-may_take_shares-clause-step g c =
    made-settle_share _ _ _ _ c.args.key.now c.list-list.result _ _ _ c.self.view_is refl refl (rw c.remove.ensures.rows refl) c.list-list.ensures (c.send_shares.ensures.sent _) c.take_shares.ensures.step

pub returns-else-may_take_shares-clause-opened : goal.returns-else-may_take_shares-clause-opened
returns-else-may_take_shares-clause-opened g c =
    settled-class _ _ _ c.args.key.now c.list-list.result c.own_class.result c.self.view_is refl c.list-list.ensures c.own_class.ensures

pub returns-else-may_take_shares-clause-step : goal.returns-else-may_take_shares-clause-step
returns-else-may_take_shares-clause-step g c =
    made-settle_share _ _ _ _ c.args.key.now c.list-list.result _ _ _ c.self.view_is refl refl (rw c.remove.ensures.rows refl) c.list-list.ensures (c.send_shares.ensures.sent _)
    (made-not_taken _ _ c.args.key.now c.list-list.result _ (sym c.may_take_shares.ensures ∙ c.if-may_take_shares.false))
