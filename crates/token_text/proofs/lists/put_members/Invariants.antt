use Rattle.std.proofs.Common.{take, decimal}
use Rattle.token_text.proofs.Joined.{Written}
use Rattle.token_text.proofs.lists.put_members.Given as goal

abbrev pub invariant-loop-place : goal.invariant-loop-place
invariant-loop-place l = Written decimal 10 l.initial.out.items l.out.items l.mark (take l.place l.members)
