use Rattle.std.proofs.Common.{◌==◌, ◌<◌, if◌then◌else◌, length, set, sym, ap, ◌∙◌, arith}
use Rattle.std.proofs.lemmas.List.Edits.{map_over_more}
use Rattle.comm_law.specs.Comms.{freed, freed_stage, with_stage}
use Rattle.comm_tab.proofs.TableFacts.{changed_where, kept_elsewhere}
use Rattle.comm_tab.proofs.comms.free_rows.Goals as goal
use Rattle.comm_tab.proofs.comms.free_rows.Goals.{then-row-session, else-row-session}

pub loop-row-preserved : goal.loop-row-preserved
loop-row-preserved c =
    let within : c.loop-row.row-index < length c.args.rows.now = omega (arith, c.loop-row-test.true) in
    let more = map_over_more (λ m. if m.session == c.args.session then freed m else m) c.args.rows.now c.loop-row.row-items c.loop-row.row-index c.row-item.result within c.loop-row.invariant c.row-item.is in
    elim c.if-row-session.branch [
      | then-row-session w ↦
          w.row-items-is ∙ ap (λ m. set c.loop-row.row-items c.loop-row.row-index (with_stage w.stage_once_freed-row.result m)) (sym c.row-item.is)
          ∙ ap (λ stage. set c.loop-row.row-items c.loop-row.row-index (with_stage stage c.row-item.result)) (w.stage_once_freed-row.ensures ∙ ap (λ m. freed_stage m.stage) (sym c.row-item.is))
          ∙ ap (λ m. set c.loop-row.row-items c.loop-row.row-index m) (changed_where freed c.row-item.result c.row-item.result.session c.args.session (ap (λ m. m.session) c.row-item.is ∙ w.if-row-session.true))
          ∙ more
      | else-row-session w ↦
          w.row-items-is ∙ ap (λ m. set c.loop-row.row-items c.loop-row.row-index m)
          (sym c.row-item.is ∙ kept_elsewhere freed c.row-item.result c.row-item.result.session c.args.session (λ same. w.if-row-session.false (ap (λ m. m.session) (sym c.row-item.is) ∙ same)))
          ∙ more
    ]
