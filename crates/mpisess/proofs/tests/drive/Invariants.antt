use Rattle.std.proofs.Common.{◌≡◌}
use Rattle.mpisess.proofs.tests.drive.Given as goal

abbrev pub invariant-loop-line : goal.invariant-loop-line
invariant-loop-line g l = l.world.setting ≡ l.fn.world.setting
