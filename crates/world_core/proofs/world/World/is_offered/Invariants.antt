use Rattle.std.proofs.Common.{◌≡◌, false, take}
use Rattle.std.specs.List.{list_any}
use Rattle.agree_law.specs.Part.{stage_of}
use Rattle.mpi_protocol.specs.Order.{is_offered}
use Rattle.rank_core.specs.Held.{Held as RankHeld}
use Rattle.world_core.proofs.world.World.is_offered.Given as goal

abbrev pub invariant-loop-state : goal.invariant-loop-state
invariant-loop-state g l = list_any (λ (x : RankHeld). is_offered (stage_of x.state.agree.opened l.key)) (take l.state-index l.state-items) ≡ false
