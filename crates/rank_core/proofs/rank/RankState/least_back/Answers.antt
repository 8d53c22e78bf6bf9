use Rattle.std.proofs.Common.{[], refl}
use Rattle.std.specs.Prelude.{option_copied}
use Rattle.comm_law.specs.declared.rows.CommRow.{CommRow}
use Rattle.mpi_base.specs.declared.entries.Act.TheVariants.{Back}
use Rattle.rank_core.specs.declared.next.StepKind.TheVariants as kind
use Rattle.rank_core.proofs.NextFacts.{IsLeast-rows}
use Rattle.rank_core.proofs.rank.RankState.least_back.Goals as goal

pub loop-row-preserved : goal.loop-row-preserved
loop-row-preserved g c =
    IsLeast-rows c.args.self.now.state kind.Back (option_copied c.args.after) [] (λ (m : CommRow). Back m.ctx) c.rows-row-items.result.now c.loop-row.row-index c.row-item.result
    c.loop-row.least c.keep_least-least.result (Back c.row-item.result.ctx) refl refl c.loop-row-test.true c.row-item.is c.loop-row.invariant c.keep_least-least.ensures
