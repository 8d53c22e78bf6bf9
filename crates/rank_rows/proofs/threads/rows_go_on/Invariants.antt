use Rattle.std.proofs.Common.{◌≡◌, ◌++◌, take, drop}
use Rattle.mpi_protocol.specs.Rank.{with_key}
use Rattle.rank_rows.proofs.threads.rows_go_on.Given as goal

abbrev pub invariant-loop-row : goal.invariant-loop-row
invariant-loop-row l = l.row-items ≡ with_key (take l.row-index l.initial.row-items) l.key l.next ++ drop l.row-index l.initial.row-items
