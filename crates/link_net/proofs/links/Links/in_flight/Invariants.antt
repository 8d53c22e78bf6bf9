use Rattle.std.proofs.Common.{◌≡◌, ◌-◌, ◌^◌, min, take}
use Rattle.std.specs.List.{sum_by}
use Rattle.std.specs.VecDeque.{deque_len}
use Rattle.link_net.proofs.links.Links.in_flight.Given as goal

abbrev pub invariant-loop-queue : goal.invariant-loop-queue
invariant-loop-queue g l = l.count ≡ min (sum_by deque_len (take l.queue-index l.queue-items)) (2 ^ 64 - 1)
