use Rattle.std.proofs.Common.{◌≡◌, ◌≤◌, [], map, replicate, vec_capacity}
use Rattle.std.specs.VecDeque.{deque_items}
use Rattle.link_net.proofs.links.empty_queues.Given as goal

abbrev pub invariant-loop-place : goal.invariant-loop-place
invariant-loop-place g l = (map deque_items l.queues.items ≡ replicate l._place []) × (l.places ≤ vec_capacity l.queues)
