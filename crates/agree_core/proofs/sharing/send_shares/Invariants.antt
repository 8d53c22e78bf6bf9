use Rattle.std.proofs.Common.{◌≡◌, ◌≤◌, ◌+◌, ◌++◌, ℕ, map, take, length}
use Rattle.agree_law.specs.Packets.{Shares}
use Rattle.agree_law.specs.Shares.{to_others}
use Rattle.and_reduce.specs.Rooms.{room_of}
use Rattle.and_reduce.specs.Rows.{sent_of}
use Rattle.agree_core.proofs.sharing.send_shares.Given as goal

abbrev pub invariant-loop-place : goal.invariant-loop-place
invariant-loop-place g l =
    ((top : ℕ) → map (sent_of top) l.out.items ≡ map (sent_of top) l.initial.out.items ++ to_others (take l.place l.key.members) (Shares l.key l.list))
    × (room_of l.initial.out + 1 ≤ room_of l.out + l.place)
    × (1 ≤ l.place)
    × (l.place ≤ 16)
    × (length l.out.items + 1 ≤ length l.initial.out.items + l.place)
