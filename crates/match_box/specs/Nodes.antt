-- What waits in queues, as the slab has it: each with its number and the key of the next in its queue.
use Rattle.std.specs.Prelude.{◌≡◌, ℕ, zero, suc, ◌==◌, ◌+◌, ◌<◌, ◌≤◌, if◌then◌else◌, List, [], ◌∷◌, ◌++◌, Option, Some, None, map, length, min, get_or}
use Rattle.match_box.specs.declared.queue.Queue.{Queue}
use Rattle.match_box.specs.declared.node.Node.{Node}
use Rattle.match_box.specs.declared.node.Ends.{Ends}
use Rattle.match_box.specs.declared.node.Entry.{Entry}
use Rattle.match_box.specs.Rows.{Row, AllOf, same_queue, on}
use Rattle.match_box.specs.Tallies.{count_in}
use Rattle.match_box.specs.Filing.{ends_at}

-- for how many more there is room: in the slab, in the index and among the contexts
unfoldable pub room : ℕ → ℕ → ℕ → ℕ
room nodes index contexts = min nodes (min index contexts)

-- one more before the first in a queue
abbrev pub begun : ℕ → Option Ends → Option Ends
begun key None = Some (record { first = key; last = key })
begun key (Some ends) = Some (record { first = key; last = ends.last })

module _ {T : Type 0} where
  -- the node with a number and its key, where the first slot has this key
  abbrev pub find_from : ℕ → ℕ → List (Option (Node T)) → Option (ℕ × Node T)
  find_from number key [] = None
  find_from number key (None ∷ slots) = find_from number (key + 1) slots
  find_from number key (Some node ∷ slots) = if node.number == number then Some (key, node) else find_from number (key + 1) slots

  abbrev pub shown : Option (ℕ × Node T) → List (ℕ × Node T)
  shown None = []
  shown (Some n) = n ∷ []

  -- the keys and nodes by their numbers, from 1 to the count
  unfoldable pub nodes_in : List (Option (Node T)) → ℕ → List (ℕ × Node T)
  nodes_in slots zero = []
  nodes_in slots (suc count) = nodes_in slots count ++ shown (find_from (suc count) 0 slots)

  -- what contracts see of them
  abbrev pub seen : ℕ × Node T → Row T
  seen n = record { number = n.1.number; queue = n.1.queue; item = n.1.item }

  unfoldable pub rows_of : List (ℕ × Node T) → List (Row T)
  rows_of nodes = map seen nodes

  -- each number is from 1 to the count, and in one slot alone
  pub record AreNumbered (slots : List (Option (Node T))) (count : ℕ) : Type 0 where
    pub each : (key : ℕ) (node : Node T) → get_or slots key None ≡ Some node → (0 < node.number) × (node.number ≤ count)
    pub alone : (key other : ℕ) (node twin : Node T) → get_or slots key None ≡ Some node → get_or slots other None ≡ Some twin → node.number ≡ twin.number → key ≡ other

  -- the key of the first in a queue
  abbrev pub first_in : Queue → List (ℕ × Node T) → Option ℕ
  first_in queue [] = None
  first_in queue (n ∷ ns) = if same_queue queue n.1.queue then Some n.0 else first_in queue ns

  -- the keys of the first and the last in a queue
  abbrev pub ends_in : Queue → List (ℕ × Node T) → Option Ends
  ends_in queue [] = None
  ends_in queue (n ∷ ns) = if same_queue queue n.1.queue then begun n.0 (ends_in queue ns) else ends_in queue ns

  -- each leads to the next in its queue
  abbrev pub Linked : List (ℕ × Node T) → Type 0
  Linked [] = Unit
  Linked (n ∷ ns) = (n.1.next ≡ first_in n.1.queue ns) × Linked ns

  -- each leads to the next in its queue, and the index has the ends of the queues
  pub record AreQueued (nodes : List (ℕ × Node T)) (ends : Queue → Option Ends) : Type 0 where
    pub links : Linked nodes
    pub at : (queue : Queue) → ends queue ≡ ends_in queue nodes

  -- the last node of a queue leads to the next
  abbrev pub led : Option Ends → ℕ → ℕ → Node T → Node T
  led None next key node = node
  led (Some ends) next key node = if ends.last == key then record node { next = Some next } else node

  -- the numbers rise
  abbrev pub Rising : List (ℕ × Node T) → Type 0
  Rising [] = Unit
  Rising (n ∷ ns) = AllOf (λ m. n.1.number < m.1.number) ns × Rising ns

  -- the numbers, the queues, how many wait on each context, and that fewer queues than numbers were made
  pub record IsIndexed (slots : List (Option (Node T))) (entries : List (Queue × Entry)) (sizes waiting : List (ℕ × ℕ)) (count : ℕ) : Type 0 where
    pub numbered : AreNumbered slots count
    pub queued : AreQueued (nodes_in slots count) (ends_at entries)
    pub many : (c : ℕ) → count_in waiting c ≡ length (on c (rows_of (nodes_in slots count)))
    pub sized : (c : ℕ) → count_in sizes c ≤ count
