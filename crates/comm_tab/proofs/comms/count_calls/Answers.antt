use Rattle.std.proofs.Common.{◌==◌, ◌<◌, if◌then◌else◌, length, set, sym, ap, ◌∙◌, arith}
use Rattle.std.proofs.lemmas.List.Edits.{map_over_more}
use Rattle.comm_law.specs.Comms.{one_call_more}
use Rattle.comm_tab.proofs.TableFacts.{changed_where, kept_elsewhere}
use Rattle.comm_tab.proofs.comms.count_calls.Goals as goal
use Rattle.comm_tab.proofs.comms.count_calls.Goals.{then-row-ctx, else-row-ctx}

pub loop-row-preserved : goal.loop-row-preserved
loop-row-preserved c =
    let within : c.loop-row.row-index < length c.args.rows.now = omega (arith, c.loop-row-test.true) in
    let more = map_over_more (λ m. if m.ctx == c.args.ctx then one_call_more m else m) c.args.rows.now c.loop-row.row-items c.loop-row.row-index c.row-item.result within c.loop-row.invariant c.row-item.is in
    elim c.if-row-ctx.branch [
      | then-row-ctx w ↦
          w.row-items-is ∙ ap (λ m. set c.loop-row.row-items c.loop-row.row-index (one_call_more m)) (sym c.row-item.is)
          ∙ ap (λ m. set c.loop-row.row-items c.loop-row.row-index m) (changed_where one_call_more c.row-item.result c.row-item.result.ctx c.args.ctx (ap (λ m. m.ctx) c.row-item.is ∙ w.if-row-ctx.true))
          ∙ more
      | else-row-ctx w ↦
          w.row-items-is ∙ ap (λ m. set c.loop-row.row-items c.loop-row.row-index m)
          (sym c.row-item.is ∙ kept_elsewhere one_call_more c.row-item.result c.row-item.result.ctx c.args.ctx (λ same. w.if-row-ctx.false (ap (λ m. m.ctx) (sym c.row-item.is) ∙ same)))
          ∙ more
    ]
