-- What the rows of messages and receives say in the registry. This project's own.
use Rattle.std.specs.Prelude.{ℕ, ◌==◌, ◌&&◌, Bool, if◌then◌else◌, List, [], get_or, set, Option, Some, None}
use Rattle.mpi_law.specs.declared.effects.TheConstants.{MESSAGE_LANE}
use Rattle.mpi_law.specs.Registry.State as state
use Rattle.mpi_law.specs.Registry.Messages.{is_waiting, is_message, is_receive, is_left_on, with_fate, taking}
use Rattle.central_mail.specs.declared.messages.Fate.{Fate}
use Rattle.central_mail.specs.declared.messages.Fate.TheVariants as fate
use Rattle.central_mail.specs.declared.messages.Message.{Message}
use Rattle.central_mail.specs.declared.receives.Receive.{Receive}

abbrev pub fate_of : Fate → state.Fate
fate_of fate.Open = state.Open
fate_of fate.Matched = state.Matched
fate_of fate.Dropped = state.Dropped

-- a message with its fate
abbrev pub with_its : Message → state.Fate → state.Message
with_its m f =
    record { comm = m.comm; lane = MESSAGE_LANE; from = m.from; to = m.to; tag = m.tag; number = m.number; payload = m.payload; fate = f }

-- a message as it is sent
abbrev pub as_sent : Message → state.Message
as_sent m = with_its m state.Open

-- a receive with the message that it has taken
abbrev pub with_taken : Receive → Option state.Message → state.Receive
with_taken x m =
    record { rank = x.rank; number = x.number; comm = x.comm; lane = MESSAGE_LANE; source = x.source; tag = x.tag; room = x.room; taken = m }

-- a receive as it is posted
abbrev pub as_posted : Receive → state.Receive
as_posted x = with_taken x None

-- what stands where there is no message, and no receive: none that is left to match
abbrev pub blank_message : state.Message
blank_message = record { comm = 0; lane = MESSAGE_LANE; from = 0; to = 0; tag = 0; number = 0; payload = []; fate = state.Dropped }

abbrev pub blank_receive : state.Receive
blank_receive = record { rank = 0; number = 0; comm = 0; lane = MESSAGE_LANE; source = None; tag = None; room = 0; taken = Some blank_message }

-- a receive of a rank on the communicator at a place is without a message
abbrev pub waits_on : ℕ → ℕ → state.Receive → Bool
waits_on p r x = is_waiting x && ((x.rank == r) && (x.comm == p))

-- what becomes of a message where one is matched, and where those to a rank on a communicator are dropped
abbrev pub matched_if : ℕ → ℕ → state.Message → state.Message
matched_if from number m = if is_message from number m then with_fate state.Matched m else m

abbrev pub dropped_if : ℕ → ℕ → state.Message → state.Message
dropped_if p r m = if is_left_on p r m then with_fate state.Dropped m else m

-- what becomes of a receive where one takes a message
abbrev pub taking_if : ℕ → ℕ → state.Message → state.Receive → state.Receive
taking_if r number m x = if is_receive r number x then taking (Some m) x else x

-- the same at one place of a list
abbrev pub dropped_at : ℕ → ℕ → List state.Message → ℕ → List state.Message
dropped_at p r messages k = set messages k (dropped_if p r (get_or messages k blank_message))
