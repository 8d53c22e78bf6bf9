use Rattle.std.proofs.Common.{map, take}
use Rattle.std.specs.Prelude.{option_copied}
use Rattle.mpi_base.specs.declared.entries.Act.TheVariants.{Leave}
use Rattle.rank_core.specs.declared.next.StepKind.TheVariants as kind
use Rattle.rank_core.specs.Candidates.{IsLeast}
use Rattle.rank_core.proofs.rank.RankState.least_leave.Given as goal

abbrev pub invariant-loop-row : goal.invariant-loop-row
invariant-loop-row g l = IsLeast l.self.state kind.Leave (option_copied l.after) (map (λ m. Leave m.ctx) (take l.row-index l.row-items)) l.least
