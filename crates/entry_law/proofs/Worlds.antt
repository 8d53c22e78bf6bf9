-- Whole keys in every protocol run: at each rank, and on each link.
use Rattle.std.proofs.Common.{◌≡◌, ◌*◌, ◌+◌, ℕ, zero, suc, Bool, true, false, if◌then◌else◌, List, [], ◌∷◌, ◌++◌, map, length, drop, get_or, set, replicate, nat_lt, slice_get, arith}
use Rattle.std.specs.List.{range_with_len}
use Rattle.token_text.specs.Words.{FitsIf}
use Rattle.mpi_base.specs.declared.entries.Act.{Act}
use Rattle.mpi_base.specs.declared.entries.Act.TheVariants.{Call, Answer, Deliver, Offer as MakeOffer, Settle, Leave, Back}
use Rattle.mpi_base.specs.declared.entries.Choice.{Choice}
use Rattle.mpi_law.specs.declared.setting.Setting.{Setting}
use Rattle.agree_law.proofs.Lists.{AllOf, AllOf-append}
use Rattle.mpi_protocol.specs.Packets.{Packet, Sent}
use Rattle.mpi_protocol.specs.Rank.{Rank, fresh}
use Rattle.mpi_protocol.specs.Step.{is_enabled}
use Rattle.mpi_protocol.specs.World.{World, opening, blank, rank_at, link, place_of_link, links_with, put_on, head_for, taken_off, move_of, may_happen, moved}
use Rattle.entry_law.proofs.Keys.{PartShows}
use Rattle.entry_law.proofs.Steps.{PacketShows, shows-step}

abbrev pub RankShows : Rank → Type 0
RankShows x = PartShows x.agree

-- all is shown of each key that a rank has, and of each that is on a link
pub record WorldShows (w : World) : Type 0 where
  pub ranks : AllOf RankShows w.ranks
  pub links : AllOf (AllOf PacketShows) w.links

-- One place of a list

place_set : {A : Type 0} (P : A → Type 0) (xs : List A) (i : ℕ) (y : A) → P y → AllOf P xs → AllOf P (set xs i y)
place_set P [] i y k h = tt
place_set P (x ∷ xs) zero y k h = (k, h.1)
place_set P (x ∷ xs) (suc i) y k h = (h.0, place_set P xs i y k h.1)

place_at : {A : Type 0} (P : A → Type 0) (xs : List A) (i : ℕ) (d : A) → P d → AllOf P xs → P (get_or xs i d)
place_at P [] i d k h = k
place_at P (x ∷ xs) zero d k h = h.0
place_at P (x ∷ xs) (suc i) d k h = place_at P xs i d k h.1

pub rank_shows : (w : World) (r : ℕ) → WorldShows w → PartShows (rank_at w r).agree
rank_shows w r h = place_at RankShows w.ranks r blank (record { opened = tt; gathered = tt; shares = tt }) h.ranks

link_shows : (w : World) (from to : ℕ) → WorldShows w → AllOf PacketShows (link w from to)
link_shows w from to h = place_at (AllOf PacketShows) w.links (place_of_link w from to) [] tt h.links

head_shows : (ps : List Packet) → AllOf PacketShows ps → FitsIf PacketShows (slice_get ps 0)
head_shows [] h = tt
head_shows (p ∷ ps) h = h.0

-- the packet that an act delivers
pub delivered_shows : (w : World) (r : ℕ) (act : Act) → WorldShows w → FitsIf PacketShows (head_for w r act)
delivered_shows w r (Call t op) h = tt
delivered_shows w r (Answer t) h = tt
delivered_shows w r (Deliver from) h = head_shows (link w from r) (link_shows w from r h)
delivered_shows w r (MakeOffer key) h = tt
delivered_shows w r (Settle key) h = tt
delivered_shows w r (Leave c) h = tt
delivered_shows w r (Back c) h = tt

-- A choice

behind_head : (ps : List Packet) → AllOf PacketShows ps → AllOf PacketShows (drop 1 ps)
behind_head [] h = tt
behind_head (p ∷ ps) h = h.1

off_shows : (w : World) (r : ℕ) (act : Act) → WorldShows w → WorldShows (taken_off w r act)
off_shows w r (Call t op) h = h
off_shows w r (Answer t) h = h
off_shows w r (Deliver from) h =
    record { ranks = h.ranks; links = place_set (AllOf PacketShows) w.links (place_of_link w from r) _ (behind_head (link w from r) (link_shows w from r h)) h.links }
off_shows w r (MakeOffer key) h = h
off_shows w r (Settle key) h = h
off_shows w r (Leave c) h = h
off_shows w r (Back c) h = h

put_shows : (w : World) (r : ℕ) (ss : List Sent) → AllOf (λ s. PacketShows s.packet) ss → WorldShows w → WorldShows (put_on w r ss)
put_shows w r [] k h = h
put_shows w r (s ∷ ss) k h = put_shows (record w { links = links_with w r s }) r ss k.1 (record { ranks = h.ranks; links = go (nat_lt s.to (length w.ranks)) })
  where
    longer : AllOf PacketShows (link w r s.to ++ s.packet ∷ [])
    longer = AllOf-append PacketShows (link w r s.to) (s.packet ∷ []) (link_shows w r s.to h) (k.0, tt)

    go : (b : Bool) → AllOf (AllOf PacketShows) (if b then set w.links (place_of_link w r s.to) (link w r s.to ++ s.packet ∷ []) else w.links)
    go true = place_set (AllOf PacketShows) w.links (place_of_link w r s.to) _ longer h.links
    go false = h.links

pub shows-moved : (w : World) (c : Choice) → may_happen w c ≡ true → WorldShows w → WorldShows (moved w c)
shows-moved w c may h =
    let enabled : is_enabled (rank_at w c.rank) c.act ≡ true = grind (arith, may) in
    let m = shows-step (rank_at w c.rank) (rank_shows w c.rank h) c.act (head_for w c.rank c.act) enabled (delivered_shows w c.rank c.act h) in
    let off = off_shows w c.rank c.act h in
    put_shows _ c.rank (move_of w c).sent m.sent (record { ranks = place_set RankShows w.ranks c.rank (move_of w c).state m.part h.ranks; links = off.links })

-- The opening

none_called : (s : Setting) (a n : ℕ) → AllOf RankShows (map (fresh s) (range_with_len a n))
none_called s a zero = tt
none_called s a (suc n) = (record { opened = tt; gathered = tt; shares = tt }, none_called s (a + 1) n)

none_sent : (n : ℕ) → AllOf (AllOf PacketShows) (replicate n [])
none_sent zero = tt
none_sent (suc n) = (tt, none_sent n)

pub shows-opening : (s : Setting) → WorldShows (opening s)
shows-opening s = record { ranks = none_called s 0 s.ranks; links = none_sent (s.ranks * s.ranks) }
