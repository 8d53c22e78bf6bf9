use Rattle.std.proofs.Common.{take}
use Rattle.token_text.specs.Lists.{triplet_form}
use Rattle.token_text.proofs.Joined.{Written}
use Rattle.token_text.proofs.lists.put_triplets.Given as goal

abbrev pub invariant-loop-item : goal.invariant-loop-item
invariant-loop-item l = Written triplet_form.text 35 l.initial.out.items l.out.items l.mark (take l.item-index l.item-items)
