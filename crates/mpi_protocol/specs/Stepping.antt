-- The step of a rank as a relation, for the contracts of code.
use Rattle.std.specs.Prelude.{◌≡◌, List, Option}
use Rattle.mpi_base.specs.declared.entries.Act.{Act}
use Rattle.mpi_base.specs.declared.entries.Entry.{Entry}
use Rattle.mpi_protocol.specs.Packets.{Packet, Sent}
use Rattle.mpi_protocol.specs.Rank.{Rank}
use Rattle.mpi_protocol.specs.Step.{step, entry_of}

-- old goes on to new by an act and a packet, with this entry and these packets to send
pub record Steps (old : Rank) (act : Act) (packet : Option Packet) (new : Rank) (line : Entry) (sent : List Sent) : Type 0 where
  pub state : new ≡ (step old act packet).state
  pub entry : line ≡ entry_of old act packet (step old act packet)
  pub packets : sent ≡ (step old act packet).sent
