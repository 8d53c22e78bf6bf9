use Rattle.std.proofs.Common.{◌≡◌, ◌∷◌, None, rules}
use Rattle.std.specs.Fmt.{signed_decimal}
use Rattle.token_text.specs.Lists.{parts_of}
use Rattle.token_text.specs.Steps.{first_of}
use Rattle.token_text.proofs.Ranges.{range_found}
use Rattle.token_text.proofs.lists.read_triplet.Goals as goal

pub returns : goal.returns
returns c =
    let a = c.in_ok-first.ensures in
    let b = c.in_ok-last.ensures in
    let d = c.in_ok-stride.ensures in
    let parts : parts_of 58 c.args.token.now ≡ signed_decimal c.in_ok-first.first ∷ signed_decimal c.in_ok-last.last ∷ signed_decimal c.in_ok-stride.stride ∷ c.next_int-3.new.parts.parts = search rules in
    let done : first_of c.next_int-3.new.parts.parts ≡ None = search rules in
    range_found c.args.token.now _ _ _ _ parts done a.1 b.1 d.1 a.2 b.2 d.2
