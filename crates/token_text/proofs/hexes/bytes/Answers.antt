use Rattle.std.proofs.Common.{arith}
use Rattle.std.proofs.lemmas.Grind.{common_steps}
use Rattle.token_text.proofs.Hex.{hex_pushed}
use Rattle.token_text.proofs.hexes.bytes.Goals as goal

pub loop-place-preserved : goal.loop-place-preserved
loop-place-preserved c = record {
  on = hex_pushed _ _ c.args.text.now c.loop-place.place _ _ (omega arith) c.value.ensures.value c.value-in-loop-place.ensures.value c.push.ensures.items c.loop-place.invariant.on;
  count = grind (arith, common_steps);
}
