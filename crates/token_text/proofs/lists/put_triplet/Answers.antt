use Rattle.std.proofs.Common.{arith, rules, w32}
use Rattle.std.proofs.lemmas.Grind.{common_steps}
use Rattle.std.proofs.lemmas.Int.{to_z-of_z}
use Rattle.token_text.proofs.Ranges.{range_written}
use Rattle.token_text.proofs.lists.put_triplet.Goals as goal

pub returns : goal.returns
returns c =
    let x = to_z-of_z w32 c.args.range.first (search rules) in
    let y = to_z-of_z w32 c.args.range.last (search rules) in
    let z = to_z-of_z w32 c.args.range.stride (search rules) in
    record {
      added = range_written c.args.range _ _ _ _ _ _ (rw x at c.put_int.ensures.added) c.put.ensures.added (rw y at c.put_int-2.ensures.added) c.put-2.ensures.added (rw z at c.put_int-3.ensures.added);
      short = grind (arith, common_steps);
    }
