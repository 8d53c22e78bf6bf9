use Rattle.std.proofs.Common.{map}
use Rattle.std.specs.Prelude.{option_copied}
use Rattle.std.specs.List.{range_with_len}
use Rattle.mpi_base.specs.declared.entries.Act.TheVariants.{Answer}
use Rattle.rank_core.specs.declared.next.StepKind.TheVariants as kind
use Rattle.rank_core.specs.Candidates.{IsLeast}
use Rattle.rank_core.proofs.rank.RankState.least_answer.Given as goal

abbrev pub invariant-loop-thread : goal.invariant-loop-thread
invariant-loop-thread g l = IsLeast l.self.state kind.Answer (option_copied l.after) (map (λ t. Answer t) (range_with_len 0 l.thread)) l.least
