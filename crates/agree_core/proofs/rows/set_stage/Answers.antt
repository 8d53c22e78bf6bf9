use Rattle.std.proofs.Common.{arith}
use Rattle.std.proofs.lemmas.List.Edits.{map_over_more}
use Rattle.std.proofs.lemmas.Grind.{common_steps}
use Rattle.std.proofs.lemmas.Bool.Decides.{nat_tests}
use Rattle.agree_law.specs.Part.{staged}
use Rattle.agree_core.proofs.rows.set_stage.Goals as goal
use Rattle.agree_core.proofs.rows.set_stage.Goals.{then-is_same, else-is_same}

pub loop-row-preserved : goal.loop-row-preserved
loop-row-preserved c = elim c.if-is_same.branch [
  | then-is_same w ↦ grind (arith, common_steps, nat_tests, map_over_more (staged c.args.key.now c.args.stage), w.row-items-is, c.loop-row.invariant)
  | else-is_same w ↦ grind (arith, common_steps, nat_tests, map_over_more (staged c.args.key.now c.args.stage), w.row-items-is, c.loop-row.invariant)
]
