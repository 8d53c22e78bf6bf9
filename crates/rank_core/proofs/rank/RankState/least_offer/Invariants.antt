use Rattle.std.proofs.Common.{map, take}
use Rattle.std.specs.Prelude.{option_copied}
use Rattle.mpi_base.specs.declared.entries.Act.TheVariants.{Offer as MakeOffer}
use Rattle.rank_core.specs.declared.next.StepKind.TheVariants as kind
use Rattle.rank_core.specs.Candidates.{IsLeast}
use Rattle.rank_core.proofs.rank.RankState.least_offer.Given as goal

abbrev pub invariant-loop-creation : goal.invariant-loop-creation
invariant-loop-creation g l = IsLeast l.self.state kind.Offer (option_copied l.after) (map (λ o. MakeOffer o.key) (take l.creation-index l.creation-items)) l.least
