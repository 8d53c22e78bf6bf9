use Rattle.std.proofs.Common.{◌<◌, arith}
use Rattle.std.proofs.lemmas.List.Elements.{All-from_get_or, recursion_from_All}
use Rattle.history_text.proofs.ranges.bytes_in_range.Goals as goal

pub returns : goal.returns
returns c =
    record {
      each = recursion_from_All (λ b. b < 256) c.args.bytes.now (All-from_get_or (λ b. b < 256) c.args.bytes.now 0 (λ i lt. omega (arith, c.type_inv.bytes i)));
      short = c.requires;
    }
