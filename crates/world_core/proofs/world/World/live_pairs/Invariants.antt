use Rattle.std.proofs.Common.{◌≡◌, ◌-◌, ◌^◌, length, min, take}
use Rattle.std.specs.List.{sum_by}
use Rattle.world_core.proofs.world.World.live_pairs.Given as goal

abbrev pub invariant-loop-state : goal.invariant-loop-state
invariant-loop-state g l = l.pairs ≡ min (sum_by (λ x. length x.state.comms.rows) (take l.state-index l.state-items)) (2 ^ 64 - 1)
