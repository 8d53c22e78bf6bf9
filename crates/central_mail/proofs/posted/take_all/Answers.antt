use Rattle.std.proofs.Common.{◌<◌, length, set, sym, ap, ◌∙◌, arith}
use Rattle.std.proofs.lemmas.List.Edits.{map_over_more}
use Rattle.central_mail.specs.Rows.{taking_if}
use Rattle.central_mail.proofs.posted.take_all.Goals as goal

pub loop-row-preserved : goal.loop-row-preserved
loop-row-preserved c =
    let within : c.loop-row.row-index < length c.args.rows.now = omega (arith, c.loop-row-test.true) in
    ap (λ m. set c.loop-row.rows c.loop-row.row-index m) c.take_if.ensures
    ∙ ap (λ m. set c.loop-row.rows c.loop-row.row-index (taking_if c.args.rank c.args.number c.args.message.now m)) (sym c.row-item.is)
    ∙ map_over_more (taking_if c.args.rank c.args.number c.args.message.now) c.args.rows.now c.loop-row.rows c.loop-row.row-index c.row-item.result within c.loop-row.invariant c.row-item.is
