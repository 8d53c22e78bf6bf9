use Rattle.std.proofs.Common.{arith}
use Rattle.token_text.specs.Words.{rank_arg_form}
use Rattle.token_text.proofs.Joined.{item_written}
use Rattle.token_text.proofs.lists.put_rank_args.Goals as goal

pub loop-item-preserved : goal.loop-item-preserved
loop-item-preserved c =
    item_written rank_arg_form.text 11 _ _ _ _ _ c.as_slice-item-items.result.now c.loop-item.item-index _ c.loop-item.invariant (omega arith) c.put-in-loop-item.ensures.added c.put_rank_arg.ensures.added c.put_rank_arg.ensures.short
