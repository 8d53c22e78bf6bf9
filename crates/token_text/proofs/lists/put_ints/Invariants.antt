use Rattle.std.proofs.Common.{take}
use Rattle.std.specs.Fmt.{signed_decimal}
use Rattle.token_text.proofs.Joined.{Written}
use Rattle.token_text.proofs.lists.put_ints.Given as goal

abbrev pub invariant-loop-item : goal.invariant-loop-item
invariant-loop-item l = Written signed_decimal 11 l.initial.out.items l.out.items l.mark (take l.item-index l.item-items)
