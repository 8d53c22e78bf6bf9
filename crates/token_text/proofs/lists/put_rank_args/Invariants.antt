use Rattle.std.proofs.Common.{take}
use Rattle.token_text.specs.Words.{rank_arg_form}
use Rattle.token_text.proofs.Joined.{Written}
use Rattle.token_text.proofs.lists.put_rank_args.Given as goal

abbrev pub invariant-loop-item : goal.invariant-loop-item
invariant-loop-item l = Written rank_arg_form.text 11 l.initial.out.items l.out.items l.mark (take l.item-index l.item-items)
