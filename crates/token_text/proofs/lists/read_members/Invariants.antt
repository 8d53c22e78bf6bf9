use Rattle.std.proofs.Common.{length}
use Rattle.token_text.specs.Lists.{items_of}
use Rattle.token_text.proofs.RankLists.{RanksSeen}
use Rattle.token_text.proofs.lists.read_members.Given as goal

abbrev pub invariant-loop-item : goal.invariant-loop-item
invariant-loop-item l = RanksSeen (items_of l.token) l.items.parts l.list

abbrev pub decreases-loop-item : goal.decreases-loop-item
decreases-loop-item l = length l.items.parts
