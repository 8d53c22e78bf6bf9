use Rattle.std.proofs.Common.{pos, arith, get_or, w32, rules}
use Rattle.std.proofs.lemmas.Int.{to_z-of_z}
use Rattle.std.specs.Fmt.{signed_decimal}
use Rattle.token_text.proofs.Joined.{item_written}
use Rattle.token_text.proofs.lists.put_ints.Goals as goal

pub loop-item-preserved : goal.loop-item-preserved
loop-item-preserved c =
    let z = to_z-of_z w32 (get_or c.as_slice-item-items.result.now c.loop-item.item-index (pos 0)) (search rules) in
    let p = rw z at c.put_int.ensures.added in
    item_written signed_decimal 11 _ _ _ _ _ c.as_slice-item-items.result.now c.loop-item.item-index (pos 0) c.loop-item.invariant (omega arith) c.put-in-loop-item.ensures.added p c.put_int.ensures.short
