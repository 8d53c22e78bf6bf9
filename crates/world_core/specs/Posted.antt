-- Links with packets in code, as the world sees them.
use Rattle.std.specs.Prelude.{◌≡◌, ℕ, ◌<◌, List, length, map, Option, None, option_map, is_some, slice_get, true}
use Rattle.link_net.specs.Net.{Net, link, popped}
use Rattle.mpi_base.specs.declared.entries.Act.{Act}
use Rattle.mpi_base.specs.declared.entries.Act.TheVariants.{Call, Answer, Deliver, Offer, Settle, Leave, Back}
use Rattle.mpi_law.specs.declared.setting.Setting.{Setting}
use Rattle.mpi_protocol.specs.Packets as seen
use Rattle.mpi_protocol.specs.World.{World, put_on}
use Rattle.rank_core.specs.declared.packets.Packet.{Packet}
use Rattle.rank_core.specs.Held.{Held as RankHeld}
use Rattle.rank_core.specs.Packets.{Box, packet_of, sent_by}

abbrev pub links_of : {w : ℕ} → ℕ → Net (Packet w) → List (List seen.Packet)
links_of top n = map (map (packet_of top)) n.links

-- the world of these ranks and links
abbrev pub world_of : {w : ℕ} → Setting → List RankHeld → Net (Packet w) → World
world_of s states n = record { ranks = map (λ x. x.state) states; links = links_of s.contexts n }

-- the packet that an act of a rank takes, if it takes one
abbrev pub head_on : {w : ℕ} → ℕ → Net (Packet w) → ℕ → Act → Option seen.Packet
head_on top n r (Call t op) = None
head_on top n r (Answer t) = None
head_on top n r (Deliver from) = option_map (packet_of top) (slice_get (link n from r) 0)
head_on top n r (Offer key) = None
head_on top n r (Settle key) = None
head_on top n r (Leave c) = None
head_on top n r (Back c) = None

-- the links without it
abbrev pub after_act : {w : ℕ} → Net (Packet w) → ℕ → Act → Net (Packet w)
after_act n r (Call t op) = n
after_act n r (Answer t) = n
after_act n r (Deliver from) = popped n from r
after_act n r (Offer key) = n
after_act n r (Settle key) = n
after_act n r (Leave c) = n
after_act n r (Back c) = n

-- there is a packet, where an act takes one
abbrev pub HasHead : {w : ℕ} → Net (Packet w) → ℕ → Act → Type 0
HasHead n r (Call t op) = Unit {0}
HasHead n r (Answer t) = Unit {0}
HasHead n r (Deliver from) = (from < n.ranks) × (r < n.ranks) × (is_some (slice_get (link n from r) 0) ≡ true)
HasHead n r (Offer key) = Unit {0}
HasHead n r (Settle key) = Unit {0}
HasHead n r (Leave c) = Unit {0}
HasHead n r (Back c) = Unit {0}

-- what a rank sends is put on its links, in any world that they are the links of
abbrev pub IsPosted : {w : ℕ} → Net (Packet w) → ℕ → Box w → Net (Packet w) → Type 0
IsPosted old r out new =
    (top : ℕ) (v : World) → v.links ≡ links_of top old → length v.ranks ≡ old.ranks → put_on v r (sent_by top out) ≡ record v { links = links_of top new }
