use Rattle.std.proofs.Common.{◌≡◌, ◌++◌, List, drop, length, Ok}
use Rattle.mpi_base.specs.declared.groups.RankOut.{RankOut}
use Rattle.mpi_law.specs.Local.Refusals.{and_then}
use Rattle.mpi_law.specs.Local.Groups.{translated_all}
use Rattle.call_plan.proofs.groups.translate_all.Given as goal

abbrev pub invariant-loop-rank : goal.invariant-loop-rank
invariant-loop-rank l =
    (translated_all l.from l.ranks l.to ≡ and_then {B = List RankOut} (translated_all l.from (drop l.rank-index l.ranks) l.to) (λ rest. Ok (l.outs ++ rest)))
    × (length l.outs ≡ l.rank-index)
