-- What a move of a rank does to the cost of the world.
use Rattle.std.proofs.Common.{◌≡◌, ◌<◌, ◌≤◌, ◌+◌, nat_lt, ℕ, zero, suc, Bool, true, false, if◌then◌else◌, List, [], ◌∷◌, ◌++◌, length, set, get_or, drop, slice_get, Option, Some, None, refl, arith, ap}
use Rattle.mpi_base.specs.declared.entries.Act.{Act}
use Rattle.mpi_base.specs.declared.entries.Act.TheVariants.{Call, Answer, Deliver, Offer as MakeOffer, Settle, Leave, Back}
use Rattle.mpi_base.specs.declared.entries.Choice.{Choice}
use Rattle.mpi_law.specs.ScriptLists.{AllScripts}
use Rattle.mpi_protocol.specs.Packets.{Packet, Sent}
use Rattle.mpi_protocol.specs.Rank.{Rank}
use Rattle.mpi_protocol.specs.Moves.{Move}
use Rattle.mpi_protocol.specs.World.{World, blank, rank_at, link, place_of_link, links_with, head_for, taken_off, put_on, after}
use Rattle.projection_law.proofs.Frames.{ranks_moved}
use Rattle.wayout_law.specs.Potential.{sum_of, sum_at, More, packet_cost, sent_cost, rank_cost, links_cost, cost}
use Rattle.wayout_law.proofs.Sums.{sum_of-append, sum_at-put}

links-add : (ls : List (List Packet)) (k : ℕ) (p : Packet) → links_cost (set ls k (get_or ls k [] ++ p ∷ [])) ≤ links_cost ls + packet_cost p
links-add [] k p = omega arith
links-add (l ∷ ls) zero p = let a = sum_of-append packet_cost l (p ∷ []) in omega (arith, a)
links-add (l ∷ ls) (suc k) p = let ih = links-add ls k p in omega (arith, ih)

links-take : (ls : List (List Packet)) (k : ℕ) (p : Packet) → slice_get (get_or ls k []) 0 ≡ Some p → links_cost (set ls k (drop 1 (get_or ls k []))) + packet_cost p ≡ links_cost ls
links-take [] k p e = absurd (cc)
links-take (l ∷ ls) zero p e = go l e
  where
    go : (l : List Packet) → slice_get l 0 ≡ Some p → sum_of packet_cost (drop 1 l) + links_cost ls + packet_cost p ≡ sum_of packet_cost l + links_cost ls
    go [] e = absurd (cc)
    go (q ∷ qs) e = let s : q ≡ p = cc in let c = ap packet_cost s in omega (arith, c)
links-take (l ∷ ls) (suc k) p e = let ih = links-take ls k p e in omega (arith, ih)

-- packets put on links
put_on-links : (w : World) (r : ℕ) (ss : List Sent) → links_cost (put_on w r ss).links ≤ links_cost w.links + sum_of sent_cost ss
put_on-links w r [] = omega arith
put_on-links w r (s ∷ ss) =
    let ih = put_on-links (record w { links = links_with w r s }) r ss in
    let a = one_put (nat_lt s.to (length w.ranks)) in
    omega (arith, ih, a)
  where
    one_put : (b : Bool) → links_cost (if b then set w.links (place_of_link w r s.to) (link w r s.to ++ s.packet ∷ []) else w.links) ≤ links_cost w.links + sent_cost s
    one_put true = links-add w.links (place_of_link w r s.to) s.packet
    one_put false = omega arith

-- the packet that a choice takes
abbrev head_cost : Option Packet → ℕ
head_cost None = 0
head_cost (Some p) = packet_cost p

taken-links : (w : World) (r : ℕ) (act : Act) (p : Option Packet) → head_for w r act ≡ p → links_cost (taken_off w r act).links + head_cost p ≤ links_cost w.links
taken-links w r (Call t op) None e = omega arith
taken-links w r (Answer t) None e = omega arith
taken-links w r (Deliver from) None e = drops (link w from r) e
  where
    none : (ls : List (List Packet)) (k : ℕ) → slice_get (get_or ls k []) 0 ≡ None → links_cost (set ls k (drop 1 (get_or ls k []))) ≤ links_cost ls
    none [] k e = omega arith
    none ([] ∷ ls) zero e = omega arith
    none ((q ∷ qs) ∷ ls) zero e = absurd (cc)
    none (l ∷ ls) (suc k) e = let ih = none ls k e in omega (arith, ih)

    drops : (l : List Packet) → slice_get l 0 ≡ None → links_cost (taken_off w r (Deliver from)).links + 0 ≤ links_cost w.links
    drops l _ = let a = none w.links (place_of_link w from r) e in omega (arith, a)
taken-links w r (Deliver from) (Some p) e = let a = links-take w.links (place_of_link w from r) p e in omega (arith, a)
taken-links w r (MakeOffer key) None e = omega arith
taken-links w r (Settle key) None e = omega arith
taken-links w r (Leave c) None e = omega arith
taken-links w r (Back c) None e = omega arith
taken-links w r act (Some p) e = absurd (cc)

-- a rank goes on with less, by the packet that it takes
abbrev pub Spends : ℕ → More → AllScripts → ℕ → Rank → Option Packet → Move → Type 0
Spends n more scripts r x p m = rank_cost n more scripts r m.state + sum_of sent_cost m.sent + 1 ≤ rank_cost n more scripts r x + head_cost p

pub after-spends : (n : ℕ) (more : More) (scripts : AllScripts) (w : World) (c : Choice) (m : Move) → c.rank < length w.ranks
    → Spends n more scripts c.rank (rank_at w c.rank) (head_for w c.rank c.act) m → cost n more scripts (after w c m) < cost n more scripts w
after-spends n more scripts w c m lt h =
    let v : World = record (taken_off w c.rank c.act) { ranks = set w.ranks c.rank m.state } in
    let same = ranks_moved w c.rank c.act m in
    rw same
    (total (sum_at (rank_cost n more scripts) 0 (set w.ranks c.rank m.state)) (sum_at (rank_cost n more scripts) 0 w.ranks)
    (rank_cost n more scripts c.rank (rank_at w c.rank)) (rank_cost n more scripts c.rank m.state)
    (links_cost (put_on v c.rank m.sent).links) (links_cost w.links) (links_cost v.links) (sum_of sent_cost m.sent) (head_cost (head_for w c.rank c.act))
    (sum_at-put (rank_cost n more scripts) w.ranks c.rank m.state blank lt) (put_on-links v c.rank m.sent) (taken-links w c.rank c.act (head_for w c.rank c.act) refl) h)
  where
    total : (s t x y k l j z p : ℕ) → s + x ≡ t + y → k ≤ j + z → j + p ≤ l → y + z + 1 ≤ x + p → s + k < t + l
    total s t x y k l j z p a b d h = omega (arith, a, b, d, h)
