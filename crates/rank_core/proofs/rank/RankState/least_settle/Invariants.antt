use Rattle.std.proofs.Common.{map, take, ◌++◌}
use Rattle.std.specs.Prelude.{option_copied}
use Rattle.mpi_base.specs.declared.entries.Act.TheVariants.{Settle}
use Rattle.rank_core.specs.declared.next.StepKind.TheVariants as kind
use Rattle.rank_core.specs.Candidates.{IsLeast}
use Rattle.rank_core.proofs.rank.RankState.least_settle.Given as goal

abbrev pub invariant-loop-offer : goal.invariant-loop-offer
invariant-loop-offer g l = IsLeast l.self.state kind.Settle (option_copied l.after) (map (λ o. Settle o.key) (take l.offer-index l.offer-items)) l.least

abbrev pub invariant-loop-share : goal.invariant-loop-share
invariant-loop-share g l =
    IsLeast l.self.state kind.Settle (option_copied l.after) (map (λ o. Settle o.key) l.self.state.agree.gathered ++ map (λ s. Settle s.key) (take l.share-index l.share-items)) l.least
