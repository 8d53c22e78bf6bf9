use Rattle.std.proofs.Common.{◌≡◌, ◌++◌, take, drop}
use Rattle.mpi_protocol.specs.Rank.{with_taken}
use Rattle.rank_rows.proofs.receives.rows_take.Given as goal

abbrev pub invariant-loop-row : goal.invariant-loop-row
invariant-loop-row l = l.row-items ≡ with_taken (take l.row-index l.initial.row-items) l.number l.msg ++ drop l.row-index l.initial.row-items
