use Rattle.std.proofs.Common.{◌+◌, ◌-◌, ◌≤◌, length}
use Rattle.wayout_law.specs.Potential.{bound}
use Rattle.world_drain.proofs.Going.{IsGoing}
use Rattle.world_drain.proofs.run.drain.Given as goal

abbrev pub invariant-loop-choice : goal.invariant-loop-choice
invariant-loop-choice g l = record {
  going : IsGoing l.scripts l.fn.world l.world;
  short : length l.world.entries ≤ length l.fn.world.entries + bound l.scripts l.fn.world.world;
}

abbrev pub decreases-loop-choice : goal.decreases-loop-choice
decreases-loop-choice g l = (length l.fn.world.entries + bound l.scripts l.fn.world.world) - length l.world.entries
