-- The links as queues.
use Rattle.std.specs.Prelude.{ℕ, ◌-◌, List, map}
use Rattle.std.specs.declared.collections.VecDeque.{VecDeque}
use Rattle.std.specs.VecDeque.{deque_items, deque_len, deque_capacity}
use Rattle.link_net.specs.Net.{Net}

-- how many more items a queue has room for
abbrev pub room_of : {T A : Type 0} → VecDeque T A → ℕ
room_of q = deque_capacity q - deque_len q

abbrev pub net_of : {T A : Type 0} → ℕ → List (VecDeque T A) → Net T
net_of ranks queues = record { ranks = ranks; links = map deque_items queues; rooms = map room_of queues }
