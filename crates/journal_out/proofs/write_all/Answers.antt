use Rattle.std.proofs.Common.{take, ◌++◌, ◌∙◌}
use Rattle.journal_out.proofs.Written.{takes_both, takes_then_front, piece_more, on_err}
use Rattle.journal_out.proofs.write_all.Goals as goal

pub returns-in_err-count-clause-front : goal.returns-in_err-count-clause-front
returns-in_err-count-clause-front g c =
    let gone = c.loop-rest.invariant.gone in
    on_err _ (takes_then_front _ _ _ gone.0 c.loop-rest.rest.now _ gone.1 gone.2 c.in_err-count.ensures.front)

pub loop-rest-preserved : goal.loop-rest-preserved
loop-rest-preserved g c =
    let gone = c.loop-rest.invariant.gone in
    let piece = take c.in_ok-count.count c.loop-rest.rest.now in
    record {
      gone = (gone.0 ++ piece, piece_more _ gone.0 c.loop-rest.rest.now _ c.in_ok-count.count gone.1 c.split_at.ensures.back, takes_both _ _ _ gone.0 piece gone.2 c.in_ok-count.ensures.bytes);
      count = c.in_ok-count.ensures.same_count ∙ c.loop-rest.invariant.count;
    }
