use Rattle.std.proofs.Common.{◌==◌, if◌then◌else◌, Some, arith}
use Rattle.std.proofs.lemmas.List.Edits.{map_over_more}
use Rattle.std.proofs.lemmas.Grind.{common_steps}
use Rattle.std.proofs.lemmas.Bool.Decides.{nat_tests}
use Rattle.mpi_protocol.specs.declared.rows.ReceiveRow.{ReceiveRow}
use Rattle.rank_rows.proofs.receives.rows_take.Goals as goal
use Rattle.rank_rows.proofs.receives.rows_take.Goals.{then-row-number, else-row-number}

pub loop-row-preserved : goal.loop-row-preserved
loop-row-preserved c =
    let taking : ReceiveRow → ReceiveRow = λ x. if x.number == c.args.number then record { number = x.number; room = x.room; taken = Some c.args.msg.now } else x in
    let more = map_over_more taking c.args.rows.now c.loop-row.row-items c.loop-row.row-index c.row-item.result c.loop-row-test.true c.loop-row.invariant c.row-item.is in
    elim c.if-row-number.branch [
      | then-row-number w ↦ grind (arith, common_steps, nat_tests, more, w.row-items-is, w.copy.ensures, w.if-row-number.true, c.row-item.is)
      | else-row-number w ↦ grind (arith, common_steps, nat_tests, more, w.row-items-is, w.if-row-number.false, c.row-item.is)
    ]
