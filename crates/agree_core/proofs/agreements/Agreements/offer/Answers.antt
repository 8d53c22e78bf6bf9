use Rattle.std.proofs.Common.{◌≡◌, ◌+◌, ◌∙◌, Some, ap, sym, subst, refl, if◌then◌else◌}
use Rattle.ctx_mask.specs.Masks.{none_of}
use Rattle.agree_law.specs.declared.rows.Stage.TheVariants.{Waiting}
use Rattle.agree_law.specs.Part.{stage_of}
use Rattle.agree_law.specs.Rule.{may_own}
use Rattle.and_reduce.specs.Fronts.{front}
use Rattle.agree_core.specs.Held.{Held}
use Rattle.agree_core.proofs.MoveFacts.{due-round, made-offer, round_due-some}
use Rattle.agree_core.proofs.agreements.Agreements.offer.Goals as goal

pub unreachable-requires : goal.unreachable-requires
unreachable-requires g c = due-round _ c.requires.due (sym c.round_due.ensures ∙ c.in_default.is)

pub returns-clause-step : goal.returns-clause-step
returns-clause-step g c =
    let stage : stage_of c.args.self.now.part.opened c.args.key.now ≡ Some (Waiting c.in-Some.round) = round_due-some _ _ (sym c.round_due.ensures ∙ c.in-Some.is) in
    let mask =
    subst (λ (h : Held). front h.top c.offered_mask-mask.result ≡ (if c.may_own-own.result then h.part.mask else none_of (h.top + 1))) (sym c.self.view_is) c.offered_mask-mask.ensures in
    made-offer _ _ _ c.args.key.now c.in-Some.round c.place_in.result c.may_own-own.result (front c.self.inside.gathers.top c.offered_mask-mask.result) _ _ c.self.view_is refl c.put.ensures.top
    (ap (λ (h : Held). stage_of h.part.opened c.args.key.now) c.self.view_is ∙ stage)
    (c.may_own-own.ensures ∙ ap (λ (h : Held). may_own h.part c.args.key.now) (sym c.self.view_is))
    (rw (c.put.ensures.top, c.put.ensures.offers, c.put.ensures.rounds, c.own_mask.ensures, c.set_stage.ensures.rows) refl)
    c.place_in.ensures
    mask
    c.send_up.ensures.sent
