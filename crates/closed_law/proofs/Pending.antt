-- A member's share is pending from its call to the settle of the exchange: it is on its way to the first member, or gathered there.
-- What each event of the agreement does to it.
use Rattle.std.proofs.Common.{◌≡◌, ◌<◌, ◌+◌, ◌==◌, ℕ, ℤ, Bool, true, false, if◌then◌else◌, List, [], ◌∷◌, ◌++◌, map, length, get_or, set, slice_get, Option, Some, None, refl, sym, ap, ◌∙◌, arith}
use Rattle.std.specs.Option.{is_none}
use Rattle.std.proofs.lemmas.Bool.Decides.{nat_tests}
use Rattle.mpi_base.specs.declared.keys.Key.{Key}
use Rattle.mpi_base.specs.declared.shares.Shared1.{Shared1}
use Rattle.mpi_base.specs.Keys.{same_key}
use Rattle.mpi_base.proofs.KeyFacts.{same_key-refl}
use Rattle.agree_law.specs.declared.rows.ShareRow.{ShareRow}
use Rattle.agree_law.specs.declared.rows.Stage.TheVariants.{Sharing}
use Rattle.agree_law.specs.Tree.{member_at, is_first, place_in}
use Rattle.agree_law.specs.Part.{Agree, fresh, stage_of, open_creation, close_creation, drop_shares}
use Rattle.agree_law.specs.Packets.{Packet, Up, Down, Share, Shares, Sent, Moved, stays}
use Rattle.agree_law.specs.Kinds.{is_share}
use Rattle.agree_law.specs.Classes.{split_key}
use Rattle.agree_law.specs.Shares.{put_share, begin_share, takes_share, take_share, takes_shares, take_shares, divide, colour_at, share_list, may_settle_share, to_others, settle_share}
use Rattle.agree_law.specs.World.{Flight, World, part_at, flights_of, moved, head_of, popped}
use Rattle.agree_law.proofs.Lists.{AllOf, AllOf-append, tally, one, tally-append, tally-without, set_place}
use Rattle.agree_law.proofs.TreeFacts.{same_member, first_place}
use Rattle.agree_law.proofs.Links.{key_of, of_links, of_links-append, of_links-popped}
use Rattle.agree_law.proofs.Kept.{with_links, at_each}
use Rattle.share_law.specs.Facts.{is_exchange, sharing_of, is_share_of}
use Rattle.share_law.proofs.ShareKept.{rows_of, row_of, share_from, shares_to}
use Rattle.share_law.proofs.ShareLaw.{distinct_members, split_apart, all_there}
use Rattle.share_law.proofs.Foreign.{said_at, first_rows, ShareHolds, Foreign, rows_of-append, rows_of-drop, foreign-begin}

-- how often the share of the member at a place is on its way to the first member, or gathered there
abbrev pub pending : World → Key → ℕ → ℕ
pending w key p = tally (share_from (member_at key.members p)) (of_links w.links key) + tally (row_of p) (first_rows w.parts key)

-- how often all members' shares are on their way to it
abbrev pub told_to : World → Key → ℕ → ℕ
told_to w key p = tally (shares_to (member_at key.members p)) (of_links w.links key)

-- with what else a member may have, it is one
pub one_of : (w : World) (key : Key) (p : ℕ) → p < length key.members → ShareHolds w.parts w.links key → one (is_none (said_at w.parts key p)) + pending w key p + told_to w key p ≡ 1
one_of w key p lt h = let t = h.token p lt in omega (arith, t)

-- Packets that are no share of the key

tally_none : (q r : ℕ) (key : Key) (ss : List Sent) → AllOf (λ (s : Sent). is_share_of key s.packet ≡ false) ss → tally (share_from q) (of_links (flights_of r ss) key) ≡ 0
tally_none q r key [] h = refl
tally_none q r key (s ∷ ss) h = go s.packet h.0 (same_key (key_of s.packet) key) refl (tally_none q r key ss h.1)
  where
    go : (x : Packet) → is_share_of key x ≡ false → (b : Bool) → same_key (key_of x) key ≡ b → tally (share_from q) (of_links (flights_of r ss) key) ≡ 0 → tally (share_from q) (if b then record { from = r; to = s.to; packet = x } ∷ of_links (flights_of r ss) key else of_links (flights_of r ss) key) ≡ 0
    go x n false e ih = ih
    go (Up k i own mask) n true e ih = omega (arith, ih)
    go (Down k i v) n true e ih = omega (arith, ih)
    go (Share k z) n true e ih = absurd (cc (n, e))
    go (Shares k zs) n true e ih = omega (arith, ih)

apart_none : (key : Key) (ss : List Sent) → AllOf (λ (s : Sent). same_key (key_of s.packet) key ≡ false) ss → AllOf (λ (s : Sent). is_share_of key s.packet ≡ false) ss
apart_none key [] h = tt
apart_none key (s ∷ ss) h = (go s.packet h.0, apart_none key ss h.1)
  where
    go : (x : Packet) → same_key (key_of x) key ≡ false → is_share_of key x ≡ false
    go (Up k i own mask) e = refl
    go (Down k i v) e = refl
    go (Share k z) e = e
    go (Shares k zs) e = refl

-- of the links after a move, with those that stay and what is sent
links_none : (links : List Flight) (q r : ℕ) (key : Key) (ss : List Sent) → AllOf (λ (s : Sent). is_share_of key s.packet ≡ false) ss → tally (share_from q) (of_links (links ++ flights_of r ss) key) ≡ tally (share_from q) (of_links links key)
links_none links q r key ss h =
    let a = ap (tally (share_from q)) (of_links-append links (flights_of r ss) key) in
    let b = tally-append (share_from q) (of_links links key) (of_links (flights_of r ss) key) in
    let c = tally_none q r key ss h in
    omega (arith, a, b, c)

rows_stay : (parts : List Agree) (r : ℕ) (b : Agree) (key : Key) → rows_of b.shares key ≡ rows_of (get_or parts r (fresh 0)).shares key → first_rows (set parts r b) key ≡ first_rows parts key
rows_stay parts r b key e = at_each (λ z a. rows_of a.shares key ≡ rows_of (get_or parts z (fresh 0)).shares key) parts r b e (λ z. refl) (member_at key.members 0)

said_stays : (parts : List Agree) (r : ℕ) (b : Agree) (key : Key) (p : ℕ) → sharing_of (stage_of b.opened key) ≡ sharing_of (stage_of (get_or parts r (fresh 0)).opened key) → said_at (set parts r b) key p ≡ said_at parts key p
said_stays parts r b key p e = at_each (λ z a. sharing_of (stage_of a.opened key) ≡ sharing_of (stage_of (get_or parts z (fresh 0)).opened key)) parts r b e (λ z. refl) (member_at key.members p)

rows_here : (parts : List Agree) (key : Key) (r : ℕ) (b : Agree) → r < length parts → member_at key.members 0 ≡ r → first_rows (set parts r b) key ≡ rows_of b.shares key
rows_here parts key r b lt is =
    let at = set_place parts r b (fresh 0) r in
    let here : get_or (set parts r b) r (fresh 0) ≡ b = grind (arith, at, lt) in
    rw is (ap (λ (a : Agree). rows_of a.shares key) here)

first_at : (ms : List ℕ) (r : ℕ) → is_first r ms ≡ true → member_at ms 0 ≡ r
first_at [] r e = absurd (cc (e))
first_at (m ∷ ms) r e = grind (arith, nat_tests, e)

-- A move that the exchange does not see

pub pending-foreign : (w : World) (links : List Flight) (r : ℕ) (m : Moved) (key : Key) (p : ℕ) → of_links links key ≡ of_links w.links key → Foreign (part_at w r) m key → pending (moved (with_links w links) r m) key p ≡ pending w key p
unfolding moved
pending-foreign w links r m key p apart f =
    let a = links_none links (member_at key.members p) r key m.sent (apart_none key m.sent f.sent) in
    let b = ap (tally (share_from (member_at key.members p))) apart in
    let c = ap (tally (row_of p)) (rows_stay w.parts r m.part key f.rows) in
    omega (arith, a, b, c)

-- A split is called: the share of the caller is pending

module _ (w : World) (r : ℕ) (key : Key) (z : Shared1) (lt : r < length w.parts) (good : is_exchange (length w.parts) key ≡ true) (p : ℕ) (lp : p < length key.members) where
  pub pending-begun : pending (moved w r (begin_share r (part_at w r) key z)) key p ≡ pending w key p + one (r == member_at key.members p)
  unfolding moved begin_share
  pending-begun = go (is_first r key.members) refl
    where
      b : Agree
      b = record (part_at w r) { opened = open_creation (part_at w r).opened key (Sharing z) }

      row : ShareRow
      row = record { key = key; place = 0; share = z }

      sent : Sent
      sent = record { to = member_at key.members 0; packet = Share key z }

      begun : Bool → Moved
      begun f = if f then record { part = put_share b key 0 z; sent = [] } else record { part = b; sent = sent ∷ [] }

      go : (f : Bool) → is_first r key.members ≡ f → tally (share_from (member_at key.members p)) (of_links (w.links ++ flights_of r (begun f).sent) key) + tally (row_of p) (first_rows (set w.parts r (begun f).part) key) ≡ pending w key p + one (r == member_at key.members p)
      go true e =
          let at = first_at key.members r e in
          let rows : first_rows (set w.parts r (put_share b key 0 z)) key ≡ first_rows w.parts key ++ row ∷ [] =
          rows_here w.parts key r (put_share b key 0 z) lt at ∙ (rows_of-append (part_at w r).shares row key ∙ ((rw (same_key-refl key) refl) ∙ ap (λ (i : ℕ). rows_of (part_at w i).shares key ++ row ∷ []) (sym at))) in
          let c = ap (tally (row_of p)) rows ∙ tally-append (row_of p) (first_rows w.parts key) (row ∷ []) in
          let a = links_none w.links (member_at key.members p) r key [] tt in
          let d : one (r == member_at key.members p) ≡ one (0 == p) = ap (λ (i : ℕ). one (i == member_at key.members p)) (sym at) ∙ ap one (same_member key.members 0 p (distinct_members (length w.parts) key good) (first_place key.members r e).2 lp) in
          omega (arith, a, c, d)
      go false e =
          let c = ap (tally (row_of p)) (rows_stay w.parts r b key refl) in
          let f : Flight = record { from = r; to = member_at key.members 0; packet = Share key z } in
          let links : of_links (w.links ++ f ∷ []) key ≡ of_links w.links key ++ f ∷ [] = of_links-append w.links (f ∷ []) key ∙ (rw (same_key-refl key) refl) in
          let a = ap (tally (share_from (member_at key.members p))) links ∙ tally-append (share_from (member_at key.members p)) (of_links w.links key) (f ∷ []) in
          omega (arith, a, c)

-- A packet of the exchange comes

-- a share: what the rank shares and what is told stays, and so does what is pending
told-taken : (w : World) (from r : ℕ) (key : Key) (z : Shared1) (p : ℕ) → head_of w.links from r ≡ Some (Share key z) → told_to (moved (with_links w (popped w.links from r)) r (take_share r (part_at w r) from key z)) key p ≡ told_to w key p
unfolding moved take_share
told-taken w from r key z p head = go (takes_share r (part_at w r) from key)
  where
    links : tally (shares_to (member_at key.members p)) (of_links (popped w.links from r ++ []) key) ≡ told_to w key p
    links =
        let t = of_links-popped w.links from r (Share key z) key head (same_key-refl key) in
        let a = ap (tally (shares_to (member_at key.members p))) (of_links-append (popped w.links from r) [] key) in
        let b = tally-append (shares_to (member_at key.members p)) (of_links (popped w.links from r) key) [] in
        let c = ap (tally (shares_to (member_at key.members p))) t.rest in
        let d = tally-without (shares_to (member_at key.members p)) (of_links w.links key) t.place (record { from = from; to = r; packet = Share key z }) t.there in
        omega (arith, a, b, c, d)

    go : (b : Bool) → tally (shares_to (member_at key.members p)) (of_links (popped w.links from r ++ flights_of r (if b then record { part = put_share (part_at w r) key (place_in key.members from) z; sent = [] } else stays (part_at w r)).sent) key) ≡ told_to w key p
    go true = links
    go false = links

said-taken : (w : World) (from r : ℕ) (key : Key) (z : Shared1) (p : ℕ) → said_at (moved (with_links w (popped w.links from r)) r (take_share r (part_at w r) from key z)).parts key p ≡ said_at w.parts key p
unfolding moved take_share
said-taken w from r key z p = go (takes_share r (part_at w r) from key)
  where
    go : (b : Bool) → said_at (set w.parts r (if b then record { part = put_share (part_at w r) key (place_in key.members from) z; sent = [] } else stays (part_at w r)).part) key p ≡ said_at w.parts key p
    go true = said_stays w.parts r (put_share (part_at w r) key (place_in key.members from) z) key p refl
    go false = said_stays w.parts r (part_at w r) key p refl

pub pending-taken : (w : World) (from r : ℕ) (key : Key) (z : Shared1) (p : ℕ) → p < length key.members → head_of w.links from r ≡ Some (Share key z) → ShareHolds w.parts w.links key
    → ShareHolds (moved (with_links w (popped w.links from r)) r (take_share r (part_at w r) from key z)).parts (moved (with_links w (popped w.links from r)) r (take_share r (part_at w r) from key z)).links key
    → pending (moved (with_links w (popped w.links from r)) r (take_share r (part_at w r) from key z)) key p ≡ pending w key p
pending-taken w from r key z p lp head old new =
    let x = moved (with_links w (popped w.links from r)) r (take_share r (part_at w r) from key z) in
    let a = one_of w key p lp old in
    let b = one_of x key p lp new in
    let c = ap (λ (o : Option Shared1). one (is_none o)) (said-taken w from r key z p) in
    let d = told-taken w from r key z p head in
    omega (arith, a, b, c, d)

-- the exchange is closed at a member: it sends no share, and what the first has gathered stays
record Closes (a : Agree) (m : Moved) (key : Key) : Type 0 where
  pub rows : rows_of m.part.shares key ≡ rows_of a.shares key
  pub sent : AllOf (λ (s : Sent). is_share_of key s.packet ≡ false) m.sent

closes : (r top : ℕ) (a : Agree) (key : Key) (c : Option ℤ) (list : List Shared1) → is_share key.kind ≡ true → Closes a (divide r top a key c list) key
unfolding divide
closes r top a key None list e = record { rows = refl; sent = tt }
closes r top a key (Some c) list e =
    let x = foreign-begin r top (record a { opened = close_creation a.opened key }) (split_key key (Some c) list) key (split_apart key (Some c) list key e) in
    record { rows = x.rows; sent = apart_none key _ x.sent }

closes_taken : (r top : ℕ) (a : Agree) (from : ℕ) (key : Key) (list : List Shared1) → is_share key.kind ≡ true → Closes a (take_shares r top a from key list) key
unfolding take_shares
closes_taken r top a from key list e = go (takes_shares r a from key list)
  where
    go : (b : Bool) → Closes a (if b then divide r top a key (colour_at (slice_get list (place_in key.members r))) list else stays a) key
    go true = closes r top a key (colour_at (slice_get list (place_in key.members r))) list e
    go false = record { rows = refl; sent = tt }

-- all members' shares
pub pending-told : (top : ℕ) (w : World) (from r : ℕ) (key : Key) (list : List Shared1) (p : ℕ) → is_share key.kind ≡ true → head_of w.links from r ≡ Some (Shares key list)
    → pending (moved (with_links w (popped w.links from r)) r (take_shares r top (part_at w r) from key list)) key p ≡ pending w key p
unfolding moved
pending-told top w from r key list p e head =
    let m = take_shares r top (part_at w r) from key list in
    let k = closes_taken r top (part_at w r) from key list e in
    let t = of_links-popped w.links from r (Shares key list) key head (same_key-refl key) in
    let a = links_none (popped w.links from r) (member_at key.members p) r key m.sent k.sent in
    let b = ap (tally (share_from (member_at key.members p))) t.rest in
    let c = tally-without (share_from (member_at key.members p)) (of_links w.links key) t.place (record { from = from; to = r; packet = Shares key list }) t.there in
    let d = ap (tally (row_of p)) (rows_stay w.parts r m.part key k.rows) in
    omega (arith, a, b, c, d)

-- The first member settles: no share is pending

others_none : (key : Key) (list : List Shared1) (ms : List ℕ) → AllOf (λ (s : Sent). is_share_of key s.packet ≡ false) (to_others ms (Shares key list))
others_none key list [] = tt
others_none key list (m ∷ ms) = go ms
  where
    go : (qs : List ℕ) → AllOf (λ (s : Sent). is_share_of key s.packet ≡ false) (map (λ q. record { to = q; packet = Shares key list }) qs)
    go [] = tt
    go (q ∷ qs) = (refl, go qs)

pub pending-settled : (top : ℕ) (w : World) (r : ℕ) (key : Key) (p : ℕ) → r < length w.parts → is_exchange (length w.parts) key ≡ true → p < length key.members → may_settle_share r (part_at w r) key ≡ true → ShareHolds w.parts w.links key
    → pending (moved w r (settle_share r top (part_at w r) key)) key p ≡ 0
unfolding moved settle_share
pending-settled top w r key p lt good lp may h =
    let list = share_list (part_at w r).shares key in
    let b : Agree = record (part_at w r) { shares = drop_shares (part_at w r).shares key } in
    let m = take_shares r top b r key list in
    let k = closes_taken r top b r key list (grind (arith, good)) in
    let there = all_there w r key may h in
    let gone : rows_of (drop_shares (part_at w r).shares key) key ≡ [] = rows_of-drop (part_at w r).shares key key ∙ (rw (same_key-refl key) refl) in
    let rows = ap (tally (row_of p)) (rows_here w.parts key r m.part lt there.at ∙ (k.rows ∙ gone)) in
    let links = links_none w.links (member_at key.members p) r key (to_others key.members (Shares key list) ++ m.sent) (AllOf-append (λ (s : Sent). is_share_of key s.packet ≡ false) (to_others key.members (Shares key list)) m.sent (others_none key list key.members) k.sent) in
    let one_here = h.token p lp in
    let present = there.present p lp in
    omega (arith, rows, links, one_here, present)
