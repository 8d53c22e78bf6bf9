use Rattle.std.specs.Prelude.{All, take}
use Rattle.token_text.specs.Words.{IsRankOut}
use Rattle.history_text.proofs.ranges.rank_outs_in_range.Given as goal

abbrev pub invariant-loop-out : goal.invariant-loop-out
invariant-loop-out l = All IsRankOut (take l.out-index l.out-items)
