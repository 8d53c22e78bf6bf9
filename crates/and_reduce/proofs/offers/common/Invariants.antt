use Rattle.std.proofs.Common.{take}
use Rattle.and_reduce.proofs.RowFacts.{Joins}
use Rattle.and_reduce.proofs.offers.common.Given as goal

abbrev pub invariant-loop-row : goal.invariant-loop-row
invariant-loop-row g l = Joins l.top (take l.row-index l.offers) l.key l.common
