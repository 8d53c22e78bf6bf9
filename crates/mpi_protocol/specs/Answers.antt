-- When a thread may be answered, and what it is told.
use Rattle.std.specs.Prelude.{ℕ, ◌==◌, ◌||◌, not, Bool, true, false, if◌then◌else◌, List, [], length, nat_lt, Option, Some, None}
use Rattle.mpi_base.specs.declared.keys.Key.{Key}
use Rattle.mpi_base.specs.declared.messages.Msg.{Msg}
use Rattle.mpi_base.specs.declared.replies.Reply.{Reply}
use Rattle.mpi_base.specs.declared.replies.Reply.TheVariants as reply
use Rattle.mpi_base.specs.declared.errors.ErrClass.TheVariants as class
use Rattle.local_law.specs.Names.{bound_of, rebind, unbind}
use Rattle.local_law.specs.Objects as objects
use Rattle.mpi_law.specs.Local.Objects.{Local, with_names, is_bound}
use Rattle.mpi_law.specs.Local.Messages.{from_nobody}
use Rattle.agree_law.specs.declared.rows.Outcome.{Outcome}
use Rattle.agree_law.specs.declared.rows.Outcome.TheVariants as outcome
use Rattle.agree_law.specs.declared.rows.Stage.{Stage}
use Rattle.agree_law.specs.declared.rows.Stage.TheVariants.{Sharing, Called, Waiting, Offered, Done}
use Rattle.agree_law.specs.Tree.{place_in}
use Rattle.agree_law.specs.Part.{stage_of}
use Rattle.agree_law.specs.Moves.{close}
use Rattle.comm_law.specs.Comms.{has_serial, has_session}
use Rattle.mpi_protocol.specs.declared.rows.Waits.{Waits}
use Rattle.mpi_protocol.specs.declared.rows.Waits.TheVariants.{Nothing, Creation, Uncoloured, Freeing, Ending, Receiving, Awaiting}
use Rattle.mpi_protocol.specs.declared.rows.ReceiveRow.{ReceiveRow}
use Rattle.mpi_protocol.specs.Rank.{Rank, with_waits, receive_of, has_taken, without_receive}
use Rattle.mpi_protocol.specs.Moves.{Move, stays}

-- what came of a creation, if it is decided
abbrev pub outcome_of : Option Stage → Option Outcome
outcome_of None = None
outcome_of (Some (Sharing s)) = None
outcome_of (Some Called) = None
outcome_of (Some (Waiting i)) = None
outcome_of (Some (Offered i own)) = None
outcome_of (Some (Done o)) = Some o

abbrev pub is_done : Option Outcome → Bool
is_done None = false
is_done (Some o) = true

-- what a thread waits for is there
abbrev pub is_answerable : Rank → Waits → Bool
is_answerable x Nothing = false
is_answerable x (Creation key target session) = is_done (outcome_of (stage_of x.agree.opened key))
is_answerable x (Uncoloured key target session) = true
is_answerable x (Freeing serial) = not (has_serial x.comms serial)
is_answerable x (Ending session) = not (has_session x.comms session)
is_answerable x (Receiving n) = (n == 0) || has_taken x.receives n
is_answerable x (Awaiting name) = is_bound (bound_of x.local.names name)

-- the thread waits for nothing more
abbrev pub answers : Rank → ℕ → Reply → Move
answers x t said = record { state = record x { threads = with_waits x t Nothing }; said = None; matched = None; dropped = None; reply = Some said; sent = [] }

-- a creation that ends with a communicator binds its target, any other frees it
abbrev pub target_after : Local → List ℕ → ℕ → Outcome → Local
target_after l target session (outcome.Context c) = with_names l (rebind l.names target (objects.Comm c session))
target_after l target session outcome.Exhausted = with_names l (unbind l.names target)

abbrev pub reply_of : ℕ → Key → Outcome → Reply
reply_of r key (outcome.Context c) = reply.Comm c (place_in key.members r) (length key.members)
reply_of r key outcome.Exhausted = reply.Refused class.Exhausted

-- the creation is closed
abbrev pub answers_creation : Rank → ℕ → Key → List ℕ → ℕ → Option Outcome → Move
answers_creation x t key target session None = stays x
answers_creation x t key target session (Some o) =
    answers (record x { agree = close x.agree key; local = target_after x.local target session o }) t (reply_of x.rank key o)

-- a message that is longer than the room is used up
abbrev pub received_reply : ℕ → Msg → Reply
received_reply room m = if nat_lt room (length m.payload) then reply.Refused class.Truncate else reply.Received (Some m.source) (Some m.tag) m.payload

abbrev pub answers_taken : Rank → ℕ → ℕ → ℕ → Option Msg → Move
answers_taken x t n room None = stays x
answers_taken x t n room (Some m) = answers (record x { receives = without_receive x.receives n }) t (received_reply room m)

abbrev pub answers_row : Rank → ℕ → ℕ → Option ReceiveRow → Move
answers_row x t n None = stays x
answers_row x t n (Some w) = answers_taken x t n w.room w.taken

-- a receive that has taken a message; one from the null process has no number
abbrev pub answers_receive : Rank → ℕ → ℕ → Move
answers_receive x t n = if n == 0 then answers x t from_nobody else answers_row x t n (receive_of x.receives n)

abbrev pub answered : Rank → ℕ → Waits → Move
answered x t Nothing = stays x
answered x t (Creation key target session) = answers_creation x t key target session (outcome_of (stage_of x.agree.opened key))
answered x t (Uncoloured key target session) = answers (record x { local = with_names x.local (unbind x.local.names target) }) t reply.Null
answered x t (Freeing serial) = answers x t reply.Fine
answered x t (Ending session) = answers x t reply.Fine
answered x t (Receiving n) = answers_receive x t n
answered x t (Awaiting name) = answers x t reply.Fine
