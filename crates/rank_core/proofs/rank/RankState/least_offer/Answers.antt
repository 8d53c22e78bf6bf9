use Rattle.std.proofs.Common.{[], ap, refl}
use Rattle.std.specs.Prelude.{option_copied}
use Rattle.agree_law.specs.declared.rows.CreationRow.{CreationRow}
use Rattle.mpi_base.specs.declared.entries.Act.TheVariants.{Offer as MakeOffer}
use Rattle.mpi_base.specs.declared.keys.Key.{Key}
use Rattle.rank_core.specs.declared.next.StepKind.TheVariants as kind
use Rattle.rank_core.proofs.NextFacts.{IsLeast-rows}
use Rattle.rank_core.proofs.rank.RankState.least_offer.Goals as goal

pub loop-creation-preserved : goal.loop-creation-preserved
loop-creation-preserved g c =
    IsLeast-rows c.args.self.now.state kind.Offer (option_copied c.args.after) [] (λ (o : CreationRow). MakeOffer o.key) c.opened-creation-items.result.now c.loop-creation.creation-index c.creation-item.result
    c.loop-creation.least c.keep_least-least.result (MakeOffer c.copy-key.result) refl (ap (λ (k : Key). MakeOffer k) c.copy-key.ensures.same) c.loop-creation-test.true c.creation-item.is
    c.loop-creation.invariant c.keep_least-least.ensures
