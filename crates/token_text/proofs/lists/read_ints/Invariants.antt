use Rattle.std.proofs.Common.{length}
use Rattle.token_text.specs.Numbers.{int_form}
use Rattle.token_text.specs.Lists.{items_of}
use Rattle.token_text.proofs.Seen.{Seen}
use Rattle.token_text.proofs.lists.read_ints.Given as goal

abbrev pub invariant-loop-item : goal.invariant-loop-item
invariant-loop-item l = Seen int_form (items_of l.token) l.items.parts l.list l.is_long

abbrev pub decreases-loop-item : goal.decreases-loop-item
decreases-loop-item l = length l.items.parts
