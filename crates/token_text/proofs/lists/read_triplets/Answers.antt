use Rattle.std.proofs.Common.{refl, rules}
use Rattle.token_text.specs.Lists.{triplet_form}
use Rattle.token_text.proofs.Seen.{one_seen, bad_seen, all_seen}
use Rattle.token_text.proofs.lists.read_triplets.Goals as goal

pub returns-in_err-read_triplet : goal.returns-in_err-read_triplet
returns-in_err-read_triplet c = bad_seen triplet_form c.args.token.now _ c.in-Some.item.now _ _ c.in_err-read_triplet.field-0.0 c.loop-item.invariant (search rules) refl (search rules) _ (search rules)

pub loop-item-preserved : goal.loop-item-preserved
loop-item-preserved c = one_seen triplet_form _ _ _ c.in-Some.item.now c.in_ok-read_triplet.field-0 _ _ _ _ c.loop-item.invariant (search rules) (search rules) c.in_ok-read_triplet.ensures c.push.ensures.when c.push.ensures.after

pub returns-else-is_long : goal.returns-else-is_long
returns-else-is_long c = all_seen triplet_form c.args.token.now _ _ (rw c.if-is_long.false at c.loop-item.invariant) (search rules) (search rules)
