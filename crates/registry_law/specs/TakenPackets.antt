-- What holds at the end of every protocol run. `w` is the world there, `r` and `from` are ranks, and `p` is a packet.
use Rattle.std.specs.Prelude.{◌≡◌, ◌<◌, ℕ, true, length, slice_get, Some}
use Rattle.mpi_protocol.specs.Packets.{Packet}
use Rattle.mpi_protocol.specs.Delivers.{takes_packet}
use Rattle.mpi_protocol.specs.World.{World, rank_at, link}

-- each packet at the head of a link is taken, of whatever kind it is
abbrev pub PacketsAreTaken : World → Type 0
PacketsAreTaken w = (r from : ℕ) (p : Packet) → r < length w.ranks → from < length w.ranks → slice_get (link w from r) 0 ≡ Some p → takes_packet (rank_at w r) from p ≡ true
