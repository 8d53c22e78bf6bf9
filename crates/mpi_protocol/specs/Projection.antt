-- The agreement of a world: what the ranks' parts and links are to the agreement alone, whose laws then hold of the world.
use Rattle.std.specs.Prelude.{◌≡◌, ◌<◌, ℕ, if◌then◌else◌, List, [], ◌∷◌, ◌++◌, map, length}
use Rattle.agree_law.specs.Packets as agree
use Rattle.agree_law.specs.World as agreement
use Rattle.agree_law.specs.World.{Flight, is_on}
use Rattle.mpi_protocol.specs.Packets.{Packet, Agreeing, Message, Marker}
use Rattle.mpi_protocol.specs.World.{World, link}

-- the packets of the agreement among those of a link, in order
abbrev pub agreement_in : Packet → List agree.Packet
agreement_in (Agreeing p) = p ∷ []
agreement_in (Message m) = []
agreement_in (Marker c) = []

abbrev pub agreements : List Packet → List agree.Packet
agreements [] = []
agreements (p ∷ ps) = agreement_in p ++ agreements ps

-- the packets that are in flight in the agreement from a rank to a rank, in order
abbrev pub flights_on : List Flight → ℕ → ℕ → List agree.Packet
flights_on [] from to = []
flights_on (f ∷ fs) from to = if is_on from to f then f.packet ∷ flights_on fs from to else flights_on fs from to

-- a world of the agreement is that of a world of the protocol: each part is its rank's, and from each rank to each rank the
-- packets of the agreement are in flight that are on the link. The agreement keeps all flights in one list, in which those of
-- different links may stand in any order, so it has more than one such world.
pub record IsAgreementOf (w : World) (a : agreement.World) : Type 0 where
  pub parts : a.parts ≡ map (λ x. x.agree) w.ranks
  pub links : (from to : ℕ) → from < length w.ranks → to < length w.ranks → flights_on a.links from to ≡ agreements (link w from to)
