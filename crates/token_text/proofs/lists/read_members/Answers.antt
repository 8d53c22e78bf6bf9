use Rattle.std.proofs.Common.{rules}
use Rattle.token_text.proofs.RankLists.{one_rank, bad_rank, rank_again, all_ranks}
use Rattle.token_text.proofs.lists.read_members.Goals as goal

pub returns-in_err-read_number : goal.returns-in_err-read_number
returns-in_err-read_number c = bad_rank c.args.token.now _ c.in-Some.item.now _ c.in_err-read_number.field-0.0 c.loop-item.invariant (search rules) (search rules) _ (search rules)

pub returns-then-not-push : goal.returns-then-not-push
returns-then-not-push c = rank_again c.args.token.now _ c.in-Some.item.now c.in_ok-read_number.field-0 _ _ c.loop-item.invariant (search rules) c.in_ok-read_number.ensures c.push.ensures.when (search rules)

pub loop-item-preserved : goal.loop-item-preserved
loop-item-preserved c = one_rank _ _ _ c.in-Some.item.now c.in_ok-read_number.field-0 _ _ _ c.loop-item.invariant (search rules) (search rules) c.in_ok-read_number.ensures c.push.ensures.when c.push.ensures.after (search rules)

pub returns : goal.returns
returns c = all_ranks c.args.token.now _ _ c.loop-item.invariant (search rules) (search rules)
