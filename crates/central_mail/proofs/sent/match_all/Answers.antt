use Rattle.std.proofs.Common.{◌<◌, length, set, sym, ap, ◌∙◌, arith}
use Rattle.std.proofs.lemmas.List.Edits.{map_over_more}
use Rattle.central_mail.specs.Rows.{matched_if}
use Rattle.central_mail.proofs.sent.match_all.Goals as goal

pub loop-row-preserved : goal.loop-row-preserved
loop-row-preserved c =
    let within : c.loop-row.row-index < length c.args.rows.now = omega (arith, c.loop-row-test.true) in
    ap (λ m. set c.loop-row.rows c.loop-row.row-index m) c.match_if.ensures
    ∙ ap (λ m. set c.loop-row.rows c.loop-row.row-index (matched_if c.args.from c.args.number m)) (sym c.row-item.is)
    ∙ map_over_more (matched_if c.args.from c.args.number) c.args.rows.now c.loop-row.rows c.loop-row.row-index c.row-item.result within c.loop-row.invariant c.row-item.is
