-- Messages and receives by themselves, and what the registry says of them. This project's own.
use Rattle.std.specs.Prelude.{ℕ, Bool, false, if◌then◌else◌, is_some, List, [], Option, Some, None}
use Rattle.mpi_law.specs.Registry.State.{Registry, Communicator, Message, Receive}
use Rattle.mpi_law.specs.Registry.Messages.{may_match, message_of, after_match}

pub record MailState : Type 0 where
  pub messages : List Message
  pub receives : List Receive

abbrev pub no_mail : MailState
no_mail = record { messages = []; receives = [] }

-- the registry with these communicators, receives and messages, in which nothing is called and which has no ranks
abbrev pub mail_registry : List Communicator → MailState → Registry
mail_registry comms m = record { comms = comms; creations = []; receives = m.receives; messages = m.messages; ranks = [] }

-- the messages and receives of a registry
abbrev pub mail_of : Registry → MailState
mail_of g = record { messages = g.messages; receives = g.receives }

-- the receive and the message are there, and the one may take the other
abbrev pub can_take : Registry → Option Receive → Option Message → Bool
can_take g None m = false
can_take g (Some x) None = false
can_take g (Some x) (Some m) = may_match g x m

-- after a match, if the message is there
abbrev pub after_take : MailState → ℕ → ℕ → ℕ → ℕ → MailState
after_take m r number from sent =
    if is_some (message_of (mail_registry [] m) from sent) then mail_of (after_match (mail_registry [] m) r number from sent) else m
