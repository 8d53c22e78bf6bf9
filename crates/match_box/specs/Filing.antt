-- The queues that are not empty: where each begins and ends, and which queues each context has.
use Rattle.std.specs.Prelude.{◌≡◌, ℕ, ◌==◌, ◌&&◌, ◌<◌, Bool, List, Option, Some, None, IsSome, option_map}
use Rattle.std.specs.Map.{lookup}
use Rattle.match_box.specs.declared.queue.Queue.{Queue}
use Rattle.match_box.specs.declared.node.Ends.{Ends}
use Rattle.match_box.specs.declared.node.Entry.{Entry}
use Rattle.match_box.specs.declared.node.Place.{Place}
use Rattle.match_box.specs.Rows.{same_queue}

-- what is noted of each queue, the queues of each context by place, how many a context has, and room
pub record Filed : Type 0 where
  pub entries : List (Queue × Entry)
  pub places : List (Place × Queue)
  pub sizes : List (ℕ × ℕ)
  pub spare : ℕ

abbrev pub same_place : Place → Place → Bool
same_place a b = (a.ctx == b.ctx) && (a.place == b.place)

-- the ends of a queue, None where it is empty
abbrev pub ends_at : List (Queue × Entry) → Queue → Option Ends
ends_at entries queue = option_map (λ e. e.ends) (lookup (same_queue queue) entries)

-- the place of a queue among those of its context
abbrev pub place_at : List (Queue × Entry) → Queue → Option ℕ
place_at entries queue = option_map (λ e. e.place) (lookup (same_queue queue) entries)

-- the queue of a context at a place
abbrev pub queue_at : List (Place × Queue) → ℕ → ℕ → Option Queue
queue_at places c p = lookup (same_place (record { ctx = c; place = p })) places

-- each queue is at its place, and the places of a context are those below its size
pub record AreFiled (placed : Queue → Option ℕ) (at : ℕ → ℕ → Option Queue) (size : ℕ → ℕ) : Type 0 where
  pub filed : (queue : Queue) (p : ℕ) → placed queue ≡ Some p → (p < size queue.ctx) × (at queue.ctx p ≡ Some queue)
  pub whole : (c p : ℕ) → p < size c → IsSome (at c p)
  pub named : (c p : ℕ) (queue : Queue) → at c p ≡ Some queue → (queue.ctx ≡ c) × (placed queue ≡ Some p)

-- a queue ends with the key, and begins as before, or else with it
abbrev pub extended : ℕ → Option Ends → Option Ends
extended key None = Some (record { first = key; last = key })
extended key (Some ends) = Some (record { first = ends.first; last = key })

-- a queue without its first, where this is the next
abbrev pub ended : Option ℕ → Option Ends → Option Ends
ended None ends = None
ended (Some next) None = None
ended (Some next) (Some ends) = Some (record { first = next; last = ends.last })

-- an entry with another last, another first, another place
abbrev pub lasted : ℕ → Entry → Entry
lasted last e = record { ends = record { first = e.ends.first; last = last }; place = e.place }

abbrev pub began : ℕ → Entry → Entry
began first e = record { ends = record { first = first; last = e.ends.last }; place = e.place }

abbrev pub settled : ℕ → Entry → Entry
settled place e = record { ends = e.ends; place = place }

-- a queue stands at a place of its context below this
abbrev pub Stands : List (Place × Queue) → ℕ → Queue → Type 0
Stands places size queue = (p : ℕ) × (p < size) × (queue_at places queue.ctx p ≡ Some queue)
