use Rattle.std.proofs.Common.{◌<◌, length, get_or, set, sym, ap, ◌∙◌, arith}
use Rattle.std.proofs.lemmas.List.{get_or_default}
use Rattle.std.proofs.lemmas.List.Sums.{fold_more}
use Rattle.central_mail.specs.Rows.{blank_message, dropped_if, dropped_at}
use Rattle.central_mail.proofs.sent.drop_at.Goals as goal

pub loop-place-preserved : goal.loop-place-preserved
loop-place-preserved c =
    let in' : c.loop-place.place-index < length c.args.places.now = c.loop-place-test.true in
    let within : get_or c.args.places.now c.loop-place.place-index 0 < length c.loop-place.rows = omega (arith, c.requires c.loop-place.place-index 0 in', c.loop-place.auto.rows) in
    ap (λ m. set c.loop-place.rows (get_or c.args.places.now c.loop-place.place-index 0) m)
    (c.drop_if.ensures ∙ ap (dropped_if c.args.comm c.args.rank) (get_or_default c.loop-place.rows (get_or c.args.places.now c.loop-place.place-index 0) c.index-rows-place.result blank_message within))
    ∙ ap (λ ms. dropped_at c.args.comm c.args.rank ms (get_or c.args.places.now c.loop-place.place-index 0)) c.loop-place.invariant
    ∙ sym (fold_more (dropped_at c.args.comm c.args.rank) c.args.rows.now c.args.places.now c.loop-place.place-index 0 in')
