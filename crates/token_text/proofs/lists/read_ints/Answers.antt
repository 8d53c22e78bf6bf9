use Rattle.std.proofs.Common.{refl, rules}
use Rattle.token_text.specs.Numbers.{int_form}
use Rattle.token_text.proofs.Ranges.{cast_again}
use Rattle.token_text.proofs.Seen.{one_seen, bad_seen, all_seen}
use Rattle.token_text.proofs.lists.read_ints.Goals as goal

pub returns-in_err-read_int : goal.returns-in_err-read_int
returns-in_err-read_int c = bad_seen int_form c.args.token.now _ c.in-Some.item.now _ _ c.in_err-read_int.field-0.0 c.loop-item.invariant (search rules) refl (search rules) _ (search rules)

pub loop-item-preserved : goal.loop-item-preserved
loop-item-preserved c =
    let s = c.in_ok-read_int.ensures in
    let p = rw (cast_again c.in_ok-read_int.field-0 s.fits) at c.push.ensures.after in
    one_seen int_form _ _ _ c.in-Some.item.now c.in_ok-read_int.field-0 _ _ _ _ c.loop-item.invariant (search rules) (search rules) s c.push.ensures.when p

pub returns-else-is_long : goal.returns-else-is_long
returns-else-is_long c = all_seen int_form c.args.token.now _ _ (rw c.if-is_long.false at c.loop-item.invariant) (search rules) (search rules)
