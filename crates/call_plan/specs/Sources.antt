-- From whom a receive takes a message.
use Rattle.std.specs.Prelude.{ℕ, Option, Some, None}
use Rattle.mpi_base.specs.declared.messages.SrcArg.{SrcArg}
use Rattle.mpi_base.specs.declared.messages.SrcArg.TheVariants as source
use Rattle.mpi_law.specs.declared.effects.Receiving.{Receiving}
use Rattle.mpi_law.specs.Local.Messages.{receiving}

-- the rank in the communicator, if it is a certain one
abbrev pub source_of : SrcArg → Option ℕ
source_of (source.At rank) = Some rank
source_of source.Any = None
source_of source.Null = None

-- the receive that is posted, none where it is from the null process (3.11)
abbrev pub receive_from : ℕ → SrcArg → Option ℕ → ℕ → Option (Receiving ℕ)
receive_from comm (source.At rank) tag room = Some (receiving comm (Some rank) tag room)
receive_from comm source.Any tag room = Some (receiving comm None tag room)
receive_from comm source.Null tag room = None
