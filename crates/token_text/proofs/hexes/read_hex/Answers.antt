use Rattle.std.proofs.Common.{◌≡◌, ℕ, List, true, sym, subst, rules, arith}
use Rattle.token_text.specs.Reading.{Shows}
use Rattle.token_text.specs.Steps.{hex_bytes}
use Rattle.token_text.specs.Texts.{are_hex_digits, hex_form}
use Rattle.token_text.proofs.Hex.{hex_found}
use Rattle.token_text.proofs.hexes.read_hex.Goals as goal

pub returns-in-Some : goal.returns-in-Some
returns-in-Some c =
    let form : are_hex_digits c.args.token.now ≡ true = search rules in
    let is : c.in-Some.payload ≡ hex_bytes c.args.token.now = search rules in
    subst (λ (bs : List ℕ). Shows hex_form c.args.token.now bs) (sym is) (hex_found c.args.token.now form (omega arith))
