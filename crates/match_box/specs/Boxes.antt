-- The box by its queues.
use Rattle.std.specs.Prelude.{◌≡◌, ℕ, false, List, map, Some}
use Rattle.mpi_base.specs.declared.messages.Msg.{Msg}
use Rattle.match_law.specs.declared.rows.Posted.{Posted}
use Rattle.match_law.specs.Box.{Box, fits}
use Rattle.match_box.specs.declared.queue.Queue.{Queue}
use Rattle.match_box.specs.Rows.{Row, AllOf}

-- the lists of a box, how many messages and receives were kept so far, those taken since too, and for how many more
-- there is room
pub record Held : Type 0 where
  pub lists : Box
  pub count : ℕ
  pub spare : ℕ

-- the queues that a message and a receive wait in
abbrev pub queue_of_message : Msg → Queue
queue_of_message m = record { ctx = m.ctx; lane = m.lane; source = Some m.source; tag = Some m.tag }

abbrev pub queue_of_receive : Posted → Queue
queue_of_receive x = record { ctx = x.ctx; lane = x.lane; source = x.source; tag = x.tag }

-- what waits, without numbers and queues
unfoldable pub items : {T : Type 0} → List (Row T) → List T
items rows = map (λ r. r.item) rows

abbrev pub box_of : List (Row Posted) → List (Row Msg) → Box
box_of receives messages = record { kept = items messages; posted = items receives }

-- no kept message fits a posted receive
abbrev pub AreApart : Box → Type 0
AreApart b = AllOf (λ x. AllOf (λ m. fits x m ≡ false) b.kept) b.posted

-- each waits in its queue, and no kept message fits a posted receive
pub record AreBoxed (receives : List (Row Posted)) (messages : List (Row Msg)) : Type 0 where
  pub of_receives : AllOf (λ r. r.queue ≡ queue_of_receive r.item) receives
  pub of_messages : AllOf (λ r. r.queue ≡ queue_of_message r.item) messages
  pub apart : AreApart (box_of receives messages)
