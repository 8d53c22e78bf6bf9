use Rattle.std.proofs.Common.{arith}
use Rattle.token_text.proofs.Decimals.{behind_first, negative_zero, negative_read}
use Rattle.token_text.proofs.numbers.read_int.Goals as goal

pub returns-in-0 : goal.returns-in-0
returns-in-0 c =
    let s = c.in_ok-size-in-45.ensures in
    negative_zero c.args.token.now _ (behind_first 45 c.args.token.now (omega arith) (omega arith)) (rw c.in-0.is at s)

pub returns-in_default-2 : goal.returns-in_default-2
returns-in_default-2 c =
    negative_read c.args.token.now _ c.in_ok-size-in-45.size (behind_first 45 c.args.token.now (omega arith) (omega arith)) (λ z. omega (arith, z)) (c.in_ok-size-in-45.ensures)
