-- Packets in code, as the protocol sees them: the part of a mask that counts is that of the contexts up to the greatest, `top`.
use Rattle.std.specs.Prelude.{ℕ, List, ◌++◌, map}
use Rattle.and_reduce.specs.Rows as agree
use Rattle.and_reduce.specs.declared.packets.Sent.{Sent as AgreeSent}
use Rattle.mpi_protocol.specs.Packets as seen
use Rattle.rank_core.specs.declared.packets.Packet.{Packet}
use Rattle.rank_core.specs.declared.packets.Packet.TheVariants.{Agreeing, Message, Marker}
use Rattle.rank_core.specs.declared.packets.Sent.{Sent}

abbrev pub packet_of : {w : ℕ} → ℕ → Packet w → seen.Packet
packet_of top (Agreeing p) = seen.Agreeing (agree.packet_of top p)
packet_of top (Message m) = seen.Message m
packet_of top (Marker c) = seen.Marker c

abbrev pub sent_of : {w : ℕ} → ℕ → Sent w → seen.Sent
sent_of top s = record { to = s.to; packet = packet_of top s.packet }

-- what a rank has sent: packets of the agreement, then messages and markers, and for how many more of each there is room
pub record Box (w : ℕ) : Type 0 where
  pub agreed : List (AgreeSent w)
  pub others : List (Sent w)
  pub room : ℕ

-- all of it, in order
abbrev pub sent_by : {w : ℕ} → ℕ → Box w → List seen.Sent
sent_by top b = seen.agreeing (map (agree.sent_of top) b.agreed) ++ map (sent_of top) b.others
