use Rattle.std.proofs.Common.{◌≡◌, ◌≤◌, ◌+◌, ◌++◌, ℕ, map, take, length}
use Rattle.and_reduce.specs.Rooms.{room_of}
use Rattle.mpi_protocol.specs.Step.{markers}
use Rattle.rank_core.specs.Packets.{sent_of}
use Rattle.rank_core.proofs.leaves.send_markers.Given as goal

abbrev pub invariant-loop-place : goal.invariant-loop-place
invariant-loop-place g l =
    ((top : ℕ) → map (sent_of top) l.out.items ≡ map (sent_of top) l.initial.out.items ++ markers l.rank l.ctx (take l.place l.members))
    × (room_of l.initial.out ≤ room_of l.out + l.place)
    × (length l.out.items ≤ length l.initial.out.items + l.place)
