use Rattle.std.proofs.Common.{◌≡◌, true, sym, rules, arith}
use Rattle.token_text.specs.Numbers.{is_unpadded}
use Rattle.token_text.proofs.Decimals.{digits_good}
use Rattle.token_text.proofs.numbers.read_number.Goals as goal

pub returns-in-Some : goal.returns-in-Some
returns-in-Some c =
    let front : is_unpadded c.args.token.now ≡ true = search rules in
    digits_good c.args.most c.in-Some.number c.args.token.now (sym c.in-Some.ensures) front (omega arith)
