use Rattle.std.proofs.Common.{arith}
use Rattle.token_text.specs.Lists.{triplet_form}
use Rattle.token_text.proofs.Joined.{item_written}
use Rattle.token_text.proofs.lists.put_triplets.Goals as goal

pub loop-item-preserved : goal.loop-item-preserved
loop-item-preserved c =
    item_written triplet_form.text 35 _ _ _ _ _ c.as_slice-item-items.result.now c.loop-item.item-index _ c.loop-item.invariant (omega arith) c.put-in-loop-item.ensures.added c.put_triplet.ensures.added c.put_triplet.ensures.short
