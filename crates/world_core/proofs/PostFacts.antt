-- The packets of a rank, one after another, on its links.
use Rattle.std.proofs.Common.{◌≡◌, ℕ, ◌+◌, ◌-◌, ◌*◌, ◌≤◌, inl, inr, true, false, nat_lt, ◌∷◌, length, get_or, refl, sym, ap, ◌∙◌, arith}
use Rattle.std.proofs.lemmas.Bool.{cases_eq, cases_lt}
use Rattle.std.proofs.lemmas.List.{get_or-set_same, get_or-set_other, get_or_past}
use Rattle.link_net.specs.Net.{Net, room, pushed, HasRoom}
use Rattle.mpi_protocol.specs.World.{World, put_on}
use Rattle.rank_core.specs.declared.packets.Packet.{Packet}
use Rattle.rank_core.specs.declared.packets.Sent.{Sent}
use Rattle.rank_core.specs.Packets.{Box, sent_of, sent_by}
use Rattle.world_core.specs.Posted.{links_of}
use Rattle.world_core.proofs.LinkFacts.{sent_is, unsent_is}

-- a push takes the room for one on its link alone
pub room_left : {T : Type 0} (n : Net T) (from to : ℕ) (item : T) (place : ℕ) → get_or n.rooms place 0 ≤ get_or (pushed n from to item).rooms place 0 + 1
room_left n from to item place = elim (cases_eq place (n.ranks * from + to)) [
  | inl same ↦ rw same (go (get_or n.rooms (n.ranks * from + to) 0) refl)
  | inr apart ↦ omega (arith, get_or-set_other n.rooms (n.ranks * from + to) place (room n from to - 1) 0 apart)
]
  where
    go : (k : ℕ) → get_or n.rooms (n.ranks * from + to) 0 ≡ k → get_or n.rooms (n.ranks * from + to) 0 ≤ get_or (pushed n from to item).rooms (n.ranks * from + to) 0 + 1
    go k has = elim (cases_lt (n.ranks * from + to) (length n.rooms)) [
      | inl lt ↦ omega (arith, has, get_or-set_same n.rooms (n.ranks * from + to) (room n from to - 1) 0 lt)
      | inr past ↦ omega (arith, has, get_or_past n.rooms (n.ranks * from + to) 0 past)
    ]

module _ {w : ℕ} (r : ℕ) (start now : Net (Packet w)) (all left : Box w) (s : Sent w) (rest : Box w)
    (first : (top : ℕ) → sent_by top left ≡ sent_of top s ∷ sent_by top rest)
    (posted : (top : ℕ) (v : World) → v.links ≡ links_of top start → length v.ranks ≡ start.ranks → put_on v r (sent_by top all) ≡ put_on (record v { links = links_of top now }) r (sent_by top left))
    (ranks : now.ranks ≡ start.ranks) where
  pub turn_sent : nat_lt s.to now.ranks ≡ true → (top : ℕ) (v : World) → v.links ≡ links_of top start → length v.ranks ≡ start.ranks
      → put_on v r (sent_by top all) ≡ put_on (record v { links = links_of top (pushed now r s.to s.packet) }) r (sent_by top rest)
  turn_sent lt top v at size =
      posted top v at size ∙ ap (λ sent. put_on (record v { links = links_of top now }) r sent) (first top)
      ∙ ap (λ links. put_on (record v { links = links }) r (sent_by top rest)) (sent_is top now (record v { links = links_of top now }) refl (size ∙ sym ranks) r s lt)

  pub turn_unsent : nat_lt s.to now.ranks ≡ false → (top : ℕ) (v : World) → v.links ≡ links_of top start → length v.ranks ≡ start.ranks
      → put_on v r (sent_by top all) ≡ put_on (record v { links = links_of top now }) r (sent_by top rest)
  turn_unsent past top v at size =
      posted top v at size ∙ ap (λ sent. put_on (record v { links = links_of top now }) r sent) (first top)
      ∙ ap (λ links. put_on (record v { links = links }) r (sent_by top rest)) (unsent_is top now (record v { links = links_of top now }) refl (size ∙ sym ranks) r s past)

-- the link that a packet goes to had room for it
pub room_after : {w : ℕ} (r : ℕ) (now : Net (Packet w)) (left rest : Box w) (s : Sent w) → sent_by 0 left ≡ sent_of 0 s ∷ sent_by 0 rest
    → HasRoom now r (length (sent_by 0 left)) → HasRoom (pushed now r s.to s.packet) r (length (sent_by 0 rest))
room_after r now left rest s first has to lt = omega (arith, ap length first, has to lt, room_left now r s.to s.packet (now.ranks * r + to))
