use Rattle.std.proofs.Common.{arith}
use Rattle.std.proofs.lemmas.List.Edits.{map_over_more}
use Rattle.mpi_protocol.specs.declared.rows.ThreadRow.{ThreadRow}
use Rattle.mpi_protocol.specs.Rank.{going_on}
use Rattle.rank_rows.proofs.threads.rows_go_on.Goals as goal

pub loop-row-preserved : goal.loop-row-preserved
loop-row-preserved c =
    let going : ThreadRow → ThreadRow = λ t. record { calls = t.calls; waits = going_on c.args.key.now c.args.next.now t.waits } in
    let more = map_over_more going c.args.rows.now c.loop-row.row-items c.loop-row.row-index c.row-item.result c.loop-row-test.true c.loop-row.invariant c.row-item.is in
    grind (arith, more, c.go_on.ensures, c.row-item.is)
