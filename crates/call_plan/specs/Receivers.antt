-- The message that an effect sends.
use Rattle.std.specs.Prelude.{ℕ, ◌<◌, List, length, Option, Some, None, IfSome}
use Rattle.mpi_law.specs.declared.effects.Sending.{Sending}
use Rattle.mpi_law.specs.declared.effects.Effect.{Effect}
use Rattle.mpi_law.specs.declared.effects.Effect.TheVariants.{Says, Opens, Groups, Ungroups, Joins, Frees, Ends, Sends, Receives, Posts, NullPosts, Completes, Awaits}

-- it is None where the effect sends none
abbrev pub message_of : Effect ℕ → Option (Sending ℕ)
message_of (Says said) = None
message_of (Opens target) = None
message_of (Groups target members session) = None
message_of (Ungroups name) = None
message_of (Joins a) = None
message_of (Frees name c) = None
message_of (Ends name session) = None
message_of (Sends m) = Some m
message_of (Receives x) = None
message_of (Posts target x) = None
message_of (NullPosts target) = None
message_of (Completes name number) = None
message_of (Awaits name) = None

-- its receiver is a rank of the communicator, which has these members
abbrev pub SendsWithin : (ℕ → List ℕ) → Effect ℕ → Type 0
SendsWithin members e = IfSome (message_of e) (λ m. m.to < length (members m.comm))
