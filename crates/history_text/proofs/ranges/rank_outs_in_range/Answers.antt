use Rattle.std.proofs.Common.{List, All, subst, ◌∙◌}
use Rattle.std.proofs.lemmas.List.{take_all}
use Rattle.std.proofs.lemmas.List.Elements.{All-more, recursion_from_All}
use Rattle.mpi_base.specs.declared.groups.RankOut.{RankOut}
use Rattle.token_text.specs.Words.{IsRankOut}
use Rattle.history_text.proofs.ranges.rank_outs_in_range.Goals as goal

pub loop-out-preserved : goal.loop-out-preserved
loop-out-preserved c = All-more IsRankOut c.as_slice-out-items.result.now c.loop-out.out-index _ c.loop-out-test.true c.loop-out.invariant c.rank_out_in_range.ensures

pub returns : goal.returns
returns c =
    let whole = take_all c.loop-out.out-index c.as_slice-out-items.result.now c.loop-out-test.false ∙ c.as_slice-out-items.ensures.value in
    record {
      each = recursion_from_All IsRankOut c.args.outs.now (subst (λ (outs : List RankOut). All IsRankOut outs) whole c.loop-out.invariant);
      short = c.as_slice-out-items.ensures.small;
    }
