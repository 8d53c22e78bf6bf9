-- What a push and a pop of links in code are in a world.
use Rattle.std.proofs.Common.{◌≡◌, ℕ, ◌+◌, ◌*◌, ◌<◌, ◌≤◌, [], ◌∷◌, ◌++◌, length, map, drop, set, Option, Some, None, slice_get, refl, sym, ap, ◌∙◌, arith, true, false, nat_lt, is_some}
use Rattle.std.proofs.lemmas.Bool.Decides.{nat_tests}
use Rattle.std.proofs.lemmas.List.{map-set, drop-map}
use Rattle.std.specs.Option.{option_map}
use Rattle.link_net.specs.Net.{Net, room, pushed, popped, HasRoom}
use Rattle.link_net.specs.Net as net
use Rattle.link_net.proofs.NetFacts.{links-popped}
use Rattle.link_net.proofs.SeenFacts.{first-seen, link-seen, pushed-seen}
use Rattle.mpi_base.specs.declared.entries.Act.{Act}
use Rattle.mpi_base.specs.declared.entries.Act.TheVariants.{Call, Answer, Deliver, Offer, Settle, Leave, Back}
use Rattle.mpi_protocol.specs.World.{World, link, head_for, taken_off, has_packet, links_with}
use Rattle.rank_core.specs.declared.packets.Packet.{Packet}
use Rattle.rank_core.specs.declared.packets.Sent.{Sent}
use Rattle.rank_core.specs.Packets.{packet_of, sent_of}
use Rattle.world_core.specs.Posted.{links_of, head_on, after_act}

module _ {w : ℕ} (top : ℕ) (n : Net (Packet w)) (v : World) (at : v.links ≡ links_of top n) (size : length v.ranks ≡ n.ranks) where
  pub link_is : (from to : ℕ) → link v from to ≡ map (packet_of top) (net.link n from to)
  link_is from to = rw at (rw size (link-seen (packet_of top) n from to))

  pub head_is : (from to : ℕ) → slice_get (link v from to) 0 ≡ option_map (packet_of top) (slice_get (net.link n from to) 0)
  head_is from to = rw (link_is from to) (first-seen (packet_of top) (net.link n from to))

  pub head_for_is : (r : ℕ) (act : Act) → head_for v r act ≡ head_on top n r act
  head_for_is r (Call t op) = refl
  head_for_is r (Answer t) = refl
  head_for_is r (Deliver from) = head_is from r
  head_for_is r (Offer key) = refl
  head_for_is r (Settle key) = refl
  head_for_is r (Leave c) = refl
  head_for_is r (Back c) = refl

  is_some_map : {A B : Type 0} (f : A → B) (o : Option A) → is_some (option_map f o) ≡ is_some o
  is_some_map f None = refl
  is_some_map f (Some a) = refl

  -- a delivery from a rank of the world has a packet where its link in code has one
  pub has_packet_is : (from r : ℕ) → from < n.ranks → has_packet v r (Deliver from) ≡ is_some (slice_get (net.link n from r) 0)
  has_packet_is from r lt =
      let test : nat_lt from (length v.ranks) ≡ true = grind (arith, nat_tests, lt, size) in
      rw test (ap is_some (head_is from r) ∙ is_some_map (packet_of top) (slice_get (net.link n from r) 0))

  pub no_packet_is : (from r : ℕ) → n.ranks ≤ from → has_packet v r (Deliver from) ≡ false
  no_packet_is from r past =
      let test : nat_lt from (length v.ranks) ≡ false = grind (arith, nat_tests, past, size) in
      rw test refl

  same : v ≡ record v { links = links_of top n }
  same = ap (λ links. record v { links = links }) at

  pub taken_off_is : (r : ℕ) (act : Act) → taken_off v r act ≡ record v { links = links_of top (after_act n r act) }
  taken_off_is r (Call t op) = same
  taken_off_is r (Answer t) = same
  taken_off_is r (Deliver from) = ap (λ links. record v { links = links }) taken
    where
      taken : set v.links (length v.ranks * from + r) (drop 1 (link v from r)) ≡ links_of top (popped n from r)
      taken =
          rw (link_is from r, at, size)
          (ap (λ items. set (links_of top n) (n.ranks * from + r) items) (drop-map (packet_of top) 1 (net.link n from r))
          ∙ sym (map-set (map (packet_of top)) n.links (n.ranks * from + r) (drop 1 (net.link n from r)))
          ∙ ap (map (map (packet_of top))) (sym (links-popped n from r)))
  taken_off_is r (Offer key) = same
  taken_off_is r (Settle key) = same
  taken_off_is r (Leave c) = same
  taken_off_is r (Back c) = same

  -- one packet to a rank of the world, and one to no rank
  pub sent_is : (r : ℕ) (s : Sent w) → nat_lt s.to n.ranks ≡ true → links_with v r (sent_of top s) ≡ links_of top (pushed n r s.to s.packet)
  sent_is r s lt = rw (link_is r s.to, at, size, lt) (sym (ap (λ (m : Net _). m.links) (pushed-seen (packet_of top) n r s.to s.packet) ∙ ap (λ items. set (links_of top n) (n.ranks * r + s.to) (items ++ packet_of top s.packet ∷ [])) (link-seen (packet_of top) n r s.to)))

  pub unsent_is : (r : ℕ) (s : Sent w) → nat_lt s.to n.ranks ≡ false → links_with v r (sent_of top s) ≡ links_of top n
  unsent_is r s past = rw (size, past) at
