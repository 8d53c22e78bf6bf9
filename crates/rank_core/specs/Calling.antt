-- What an effect of a call does at its rank.
use Rattle.std.specs.Prelude.{◌≡◌, ℕ, List, Option, Some, None}
use Rattle.local_law.specs.Names.{bind}
use Rattle.local_law.specs.Objects as objects
use Rattle.mpi_law.specs.Local.Objects.{Local, with_names}
use Rattle.mpi_base.specs.declared.messages.Matched.{Matched}
use Rattle.mpi_base.specs.declared.replies.Reply.{Reply}
use Rattle.mpi_law.specs.declared.effects.Effect.{Effect}
use Rattle.mpi_protocol.specs.Calls.{called}
use Rattle.mpi_protocol.specs.Packets.{Sent}
use Rattle.mpi_protocol.specs.Rank.{Rank}

-- a rank goes on to new, with the match that was made, the reply if it comes at once, and the packets to send
abbrev pub Carries : Rank → ℕ → Effect ℕ → Rank → Option Matched → Option Reply → List Sent → Type 0
Carries old t e new matched said sent = record { state = new; said = None; matched = matched; dropped = None; reply = said; sent = sent } ≡ called old t e

-- with a name a receive with this number is bound to it, as a request
abbrev pub requested_as : Local → Option (List ℕ) → ℕ → Local
requested_as l None n = l
requested_as l (Some target) n = with_names l (bind l.names target (objects.Request n))
