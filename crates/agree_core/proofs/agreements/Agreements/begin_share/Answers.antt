use Rattle.std.proofs.Common.{◌∙◌, sym, refl}
use Rattle.agree_core.proofs.ShareMoves.{made-share-first, made-share-other}
use Rattle.agree_core.proofs.agreements.Agreements.begin_share.Goals as goal

pub returns-then-is_first-clause-step : goal.returns-then-is_first-clause-step
returns-then-is_first-clause-step g c =
    made-share-first _ _ _ c.args.key.now c.args.share _ c.self.view_is refl refl (sym c.is_first.ensures ∙ c.if-is_first.true)
    (rw (c.push_reserved.ensures.items, c.copy.ensures.same, c.put.ensures.rows) refl)

pub returns-else-is_first-clause-step : goal.returns-else-is_first-clause-step
returns-else-is_first-clause-step g c =
    rw c.push_reserved-else-is_first.ensures.items
    (made-share-other _ _ _ c.args.key.now c.args.share _ _ c.self.view_is refl refl (sym c.is_first.ensures ∙ c.if-is_first.false)
    (rw (c.push_reserved.ensures.items, c.copy.ensures.same) refl)
    (rw (c.member_at.ensures, c.copy-else-is_first.ensures.same) refl))
