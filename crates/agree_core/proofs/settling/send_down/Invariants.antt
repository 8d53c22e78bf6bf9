use Rattle.std.proofs.Common.{◌≡◌, ◌≤◌, ◌+◌, ◌++◌, ℕ, map, filter, length}
use Rattle.std.specs.List.{range_with_len}
use Rattle.agree_law.specs.Tree.{is_child}
use Rattle.and_reduce.specs.Rooms.{room_of}
use Rattle.and_reduce.specs.Rows.{sent_of}
use Rattle.agree_core.proofs.MoveFacts.{down_to}
use Rattle.agree_core.proofs.settling.send_down.Given as goal

abbrev pub invariant-loop-place : goal.invariant-loop-place
invariant-loop-place g l =
    ((top : ℕ) → map (sent_of top) l.out.items ≡ map (sent_of top) l.initial.out.items ++ map (down_to l.key l.round l.verdict) (filter (is_child l.parent) (range_with_len 0 l.place)))
    × (room_of l.initial.out ≤ room_of l.out + l.place)
    × (length l.out.items ≤ length l.initial.out.items + l.place)
