-- The ranks and the links of a world after a step.
use Rattle.std.proofs.Common.{◌≡◌, ◌≢◌, ◌⊎◌, ◌<◌, ◌≤◌, ◌+◌, ◌*◌, ◌==◌, ◌&&◌, ◌||◌, not, nat_lt, ℕ, suc, Bool, true, false, List, [], ◌∷◌, ◌++◌, map, filter, length, get_or, set, drop, refl, sym, ap, ◌∙◌, inl, inr, arith, append_assoc, if◌then◌else◌}
use Rattle.std.proofs.lemmas.Bool.Decides.{nat_tests}
use Rattle.std.proofs.lemmas.List.{append-nil}
use Rattle.std.proofs.Math.Nat.{mul-le-mul_left, mul-suc}
use Rattle.mpi_base.specs.MemberLists.{has_rank, are_distinct}
use Rattle.mpi_base.specs.declared.entries.Act.{Act}
use Rattle.mpi_base.specs.declared.entries.Act.TheVariants.{Call, Answer, Deliver, Offer as MakeOffer, Settle, Leave, Back}
use Rattle.mpi_base.specs.declared.entries.Choice.{Choice}
use Rattle.agree_law.specs.Packets as agree
use Rattle.mpi_protocol.specs.Packets as packet
use Rattle.mpi_protocol.specs.Packets.{Packet, Sent, agreeing}
use Rattle.mpi_protocol.specs.Rank.{Rank}
use Rattle.mpi_protocol.specs.Moves.{Move}
use Rattle.mpi_protocol.specs.Step.{markers}
use Rattle.mpi_protocol.specs.World.{World, blank, rank_at, place_of_link, link, with_link, taken_off, links_with, put_on, after}
use Rattle.agree_law.proofs.Lists.{set_place, length-set}
use Rattle.message_law.proofs.Frames.{put, put_pair}
use Rattle.message_law.proofs.MarkerSteps.{proper, proper_in}

-- Places

place_same : (n a b q r : ℕ) → b < n → r < n → n * a + b ≡ n * q + r → (a ≡ q) × (b ≡ r)
place_same n a b q r lb lr e = go (nat_lt a q) refl (nat_lt q a) refl
  where
    go : (s : Bool) → nat_lt a q ≡ s → (t : Bool) → nat_lt q a ≡ t → (a ≡ q) × (b ≡ r)
    go true s t k =
        let l : suc a ≤ q = grind (arith, nat_tests, s) in
        let m = mul-le-mul_left n l in
        let z = mul-suc n a in
        absurd (omega (arith, m, z, e, lb, lr))
    go false s true t =
        let l : suc q ≤ a = grind (arith, nat_tests, t) in
        let m = mul-le-mul_left n l in
        let z = mul-suc n q in
        absurd (omega (arith, m, z, e, lb, lr))
    go false s false t = let is : a ≡ q = grind (arith, nat_tests, s, t) in (is, (let f : n * a ≡ n * q = rw is refl in omega (arith, f, e)))

place_below : (n a b : ℕ) → a < n → b < n → n * a + b < n * n
place_below n a b la lb =
    let l : suc a ≤ n = omega (arith, la) in
    let m = mul-le-mul_left n l in
    let z = mul-suc n a in
    omega (arith, m, z, lb)

-- there is a link for each pair
abbrev pub IsWide : World → Type 0
IsWide w = length w.links ≡ length w.ranks * length w.ranks

pub link-with : (w : World) (q r : ℕ) (ps : List Packet) (a b : ℕ) → IsWide w → q < length w.ranks → r < length w.ranks → a < length w.ranks → b < length w.ranks → link (with_link w q r ps) a b ≡ put_pair q r ps (link w) a b
link-with w q r ps a b wide lq lr la lb = go (set_place w.links (place_of_link w q r) ps [] (place_of_link w a b))
  where
    inside : place_of_link w q r < length w.links
    inside = let l = place_below (length w.ranks) q r lq lr in rw wide l

    go : ((place_of_link w a b ≡ place_of_link w q r) × (place_of_link w q r < length w.links) × (get_or (set w.links (place_of_link w q r) ps) (place_of_link w a b) [] ≡ ps)) ⊎ (((place_of_link w a b ≢ place_of_link w q r) ⊎ (length w.links ≤ place_of_link w q r)) × (get_or (set w.links (place_of_link w q r) ps) (place_of_link w a b) [] ≡ link w a b))
        → link (with_link w q r ps) a b ≡ put_pair q r ps (link w) a b
    go (inl x) =
        let s = place_same (length w.ranks) a b q r lb lr x.0 in
        let i : (a == q) ≡ true = let z = s.0 in grind (arith, nat_tests, z) in
        let j : (b == r) ≡ true = let z = s.1 in grind (arith, nat_tests, z) in
        rw (i, j) x.2
    go (inr x) = x.1 ∙ sym (by x.0 (a == q) refl (b == r) refl)
      where
        by : (place_of_link w a b ≢ place_of_link w q r) ⊎ (length w.links ≤ place_of_link w q r) → (s : Bool) → (a == q) ≡ s → (t : Bool) → (b == r) ≡ t → (if s && t then ps else link w a b) ≡ link w a b
        by (inr le) s i t j = absurd (let l = inside in omega (arith, l, le))
        by (inl ne) false i t j = refl
        by (inl ne) true i false j = refl
        by (inl ne) true i true j =
            let x : a ≡ q = grind (arith, nat_tests, i) in
            let y : b ≡ r = grind (arith, nat_tests, j) in
            absurd (ne (rw (x, y) refl))

-- Packets are put on links

-- those to a rank, in order
abbrev pub to_of : ℕ → List Sent → List Packet
to_of b [] = []
to_of b (s ∷ ss) = if s.to == b then s.packet ∷ to_of b ss else to_of b ss

-- the links have a packet more at most
links_with-size : (w : World) (r : ℕ) (s : Sent) → length (links_with w r s) ≡ length w.links
links_with-size w r s = by (nat_lt s.to (length w.ranks))
  where
    by : (t : Bool) → length (if t then set w.links (place_of_link w r s.to) (link w r s.to ++ s.packet ∷ []) else w.links) ≡ length w.links
    by true = length-set w.links (place_of_link w r s.to) (link w r s.to ++ s.packet ∷ [])
    by false = refl

-- a packet comes to the end of its link; one that is addressed to no rank of the world is on none
links_with-link : (w : World) (r : ℕ) (s : Sent) (a b : ℕ) → IsWide w → r < length w.ranks → a < length w.ranks → b < length w.ranks
    → link (record w { links = links_with w r s }) a b ≡ (if a == r then link w a b ++ to_of b (s ∷ []) else link w a b)
links_with-link w r s a b wide lr la lb = go (nat_lt s.to (length w.ranks)) refl
  where
    nobody : (t : Bool) → (s.to == b) ≡ false → link w a b ≡ (if t then link w a b ++ to_of b (s ∷ []) else link w a b)
    nobody true e = rw e (sym (append-nil (link w a b)))
    nobody false e = refl

    by : (t : Bool) → (a == r) ≡ t → (u : Bool) → (b == s.to) ≡ u
        → (if t && u then link w r s.to ++ s.packet ∷ [] else link w a b) ≡ (if t then link w a b ++ to_of b (s ∷ []) else link w a b)
    by false e u f = refl
    by true e true f =
        let x : a ≡ r = grind (arith, nat_tests, e) in
        let y : b ≡ s.to = grind (arith, nat_tests, f) in
        let z : (s.to == b) ≡ true = grind (arith, nat_tests, y) in
        let same : link w r s.to ≡ link w a b = rw (x, y) refl in
        rw (z, same) refl
    by true e false f = let z : (s.to == b) ≡ false = grind (arith, nat_tests, f) in rw z (sym (append-nil (link w a b)))

    go : (k : Bool) → nat_lt s.to (length w.ranks) ≡ k
        → link (record w { links = if k then set w.links (place_of_link w r s.to) (link w r s.to ++ s.packet ∷ []) else w.links }) a b ≡ (if a == r then link w a b ++ to_of b (s ∷ []) else link w a b)
    go true k = link-with w r s.to (link w r s.to ++ s.packet ∷ []) a b wide lr (grind (arith, nat_tests, k)) la lb ∙ by (a == r) refl (b == s.to) refl
    go false k = nobody (a == r) (grind (arith, nat_tests, k, lb))

to_of-first : (b : ℕ) (s : Sent) (ss : List Sent) → to_of b (s ∷ []) ++ to_of b ss ≡ to_of b (s ∷ ss)
to_of-first b s ss = by (s.to == b)
  where
    by : (t : Bool) → (if t then s.packet ∷ [] else []) ++ to_of b ss ≡ (if t then s.packet ∷ to_of b ss else to_of b ss)
    by true = refl
    by false = refl

pub put_on-ranks : (w : World) (r : ℕ) (ss : List Sent) → (put_on w r ss).ranks ≡ w.ranks
put_on-ranks w r [] = refl
put_on-ranks w r (s ∷ ss) = put_on-ranks (record w { links = links_with w r s }) r ss

pub put_on-wide : (w : World) (r : ℕ) (ss : List Sent) → IsWide w → IsWide (put_on w r ss)
put_on-wide w r [] h = h
put_on-wide w r (s ∷ ss) h = put_on-wide (record w { links = links_with w r s }) r ss (links_with-size w r s ∙ h)

pub put_on-link : (w : World) (r : ℕ) (ss : List Sent) (a b : ℕ) → IsWide w → r < length w.ranks → a < length w.ranks → b < length w.ranks
    → link (put_on w r ss) a b ≡ (if a == r then link w a b ++ to_of b ss else link w a b)
put_on-link w r [] a b wide lr la lb = by (a == r)
  where
    by : (t : Bool) → link w a b ≡ (if t then link w a b ++ [] else link w a b)
    by true = sym (append-nil (link w a b))
    by false = refl
put_on-link w r (s ∷ ss) a b wide lr la lb =
    put_on-link (record w { links = links_with w r s }) r ss a b (links_with-size w r s ∙ wide) lr la lb
    ∙ rw (links_with-link w r s a b wide lr la lb) (by (a == r))
  where
    by : (t : Bool) → (if t then (if t then link w a b ++ to_of b (s ∷ []) else link w a b) ++ to_of b ss else (if t then link w a b ++ to_of b (s ∷ []) else link w a b)) ≡ (if t then link w a b ++ to_of b (s ∷ ss) else link w a b)
    by true = append_assoc (link w a b) (to_of b (s ∷ [])) (to_of b ss) ∙ ap (λ (ps : List Packet). link w a b ++ ps) (to_of-first b s ss)
    by false = refl

-- What is sent

pub to_of-agreeing : (b : ℕ) (ss : List agree.Sent) → proper (to_of b (agreeing ss)) ≡ []
to_of-agreeing b [] = refl
to_of-agreeing b (s ∷ ss) = go (s.to == b) (to_of-agreeing b ss)
  where
    go : (t : Bool) → proper (to_of b (agreeing ss)) ≡ [] → proper (if t then packet.Agreeing s.packet ∷ to_of b (agreeing ss) else to_of b (agreeing ss)) ≡ []
    go true ih = ih
    go false ih = ih

pub proper-append : (ps qs : List Packet) → proper (ps ++ qs) ≡ proper ps ++ proper qs
proper-append [] qs = refl
proper-append (p ∷ ps) qs = ap (λ (xs : List Packet). proper_in p ++ xs) (proper-append ps qs) ∙ sym (append_assoc (proper_in p) (proper ps) (proper qs))

pub to_of-markers : (r c b : ℕ) (members : List ℕ) → are_distinct members ≡ true → to_of b (markers r c members) ≡ (if has_rank members b && not (b == r) then packet.Marker c ∷ [] else [])
to_of-markers r c b [] d = refl
to_of-markers r c b (m ∷ ms) d =
    let ih = to_of-markers r c b ms (grind (arith, d)) in
    by (m == r) refl (m == b) refl ih
  where
    by : (s : Bool) → (m == r) ≡ s → (t : Bool) → (m == b) ≡ t → to_of b (markers r c ms) ≡ (if has_rank ms b && not (b == r) then packet.Marker c ∷ [] else [])
        → to_of b (map (λ (z : ℕ). record { to = z; packet = packet.Marker c }) (if not s then m ∷ filter (λ z. not (z == r)) ms else filter (λ z. not (z == r)) ms)) ≡ (if (t || has_rank ms b) && not (b == r) then packet.Marker c ∷ [] else [])
    by true s true t ih = let is : b ≡ r = grind (arith, nat_tests, s, t) in grind (arith, nat_tests, ih, is)
    by true s false t ih = ih
    by false s false t ih = grind (arith, nat_tests, ih, t)
    by false s true t ih =
        let is : m ≡ b = grind (arith, nat_tests, t) in
        let out : has_rank ms b ≡ false = let z = d in grind (arith, z, is) in
        grind (arith, nat_tests, ih, t, s, is, out)

-- A rank and the links after a step

abbrev pub lines_taken : World → ℕ → Act → ℕ → ℕ → List Packet
lines_taken w r (Call t op) = link w
lines_taken w r (Answer t) = link w
lines_taken w r (Deliver from) = put_pair from r (drop 1 (link w from r)) (link w)
lines_taken w r (MakeOffer key) = link w
lines_taken w r (Settle key) = link w
lines_taken w r (Leave c) = link w
lines_taken w r (Back c) = link w

abbrev pub IsFromRank : World → Act → Type 0
IsFromRank w (Call t op) = Unit {0}
IsFromRank w (Answer t) = Unit {0}
IsFromRank w (Deliver from) = from < length w.ranks
IsFromRank w (MakeOffer key) = Unit {0}
IsFromRank w (Settle key) = Unit {0}
IsFromRank w (Leave c) = Unit {0}
IsFromRank w (Back c) = Unit {0}

taken_off-link : (w : World) (r : ℕ) (act : Act) (rs : List Rank) (a b : ℕ) → length rs ≡ length w.ranks → IsWide w → IsFromRank w act → r < length w.ranks → a < length w.ranks → b < length w.ranks → link (record (taken_off w r act) { ranks = rs }) a b ≡ lines_taken w r act a b
taken_off-link w r (Call t op) rs a b e wide f lr la lb = rw e refl
taken_off-link w r (Answer t) rs a b e wide f lr la lb = rw e refl
taken_off-link w r (Deliver from) rs a b e wide f lr la lb = rw e (link-with w from r (drop 1 (link w from r)) a b wide f lr la lb)
taken_off-link w r (MakeOffer key) rs a b e wide f lr la lb = rw e refl
taken_off-link w r (Settle key) rs a b e wide f lr la lb = rw e refl
taken_off-link w r (Leave c) rs a b e wide f lr la lb = rw e refl
taken_off-link w r (Back c) rs a b e wide f lr la lb = rw e refl

taken_off-size : (w : World) (r : ℕ) (act : Act) → length (taken_off w r act).links ≡ length w.links
taken_off-size w r (Call t op) = refl
taken_off-size w r (Answer t) = refl
taken_off-size w r (Deliver from) = length-set w.links (place_of_link w from r) (drop 1 (link w from r))
taken_off-size w r (MakeOffer key) = refl
taken_off-size w r (Settle key) = refl
taken_off-size w r (Leave c) = refl
taken_off-size w r (Back c) = refl

module _ (w : World) (c : Choice) (m : Move) (wide : IsWide w) (lr : c.rank < length w.ranks) where
  pub after-ranks : (after w c m).ranks ≡ set w.ranks c.rank m.state
  after-ranks = put_on-ranks (record (taken_off w c.rank c.act) { ranks = set w.ranks c.rank m.state }) c.rank m.sent

  pub after-count : length (after w c m).ranks ≡ length w.ranks
  after-count = ap length after-ranks ∙ length-set w.ranks c.rank m.state

  pub after-rank : (s : ℕ) → rank_at (after w c m) s ≡ put c.rank m.state (rank_at w) s
  after-rank s = ap (λ (rs : List Rank). get_or rs s blank) after-ranks ∙ go (set_place w.ranks c.rank m.state blank s)
    where
      go : ((s ≡ c.rank) × (c.rank < length w.ranks) × (get_or (set w.ranks c.rank m.state) s blank ≡ m.state)) ⊎ (((s ≢ c.rank) ⊎ (length w.ranks ≤ c.rank)) × (get_or (set w.ranks c.rank m.state) s blank ≡ rank_at w s)) → get_or (set w.ranks c.rank m.state) s blank ≡ put c.rank m.state (rank_at w) s
      go (inl a) = let e : (s == c.rank) ≡ true = let z = a.0 in grind (arith, nat_tests, z) in rw e a.2
      go (inr a) = a.1 ∙ by a.0
        where
          by : (s ≢ c.rank) ⊎ (length w.ranks ≤ c.rank) → rank_at w s ≡ put c.rank m.state (rank_at w) s
          by (inl ne) = let e : (s == c.rank) ≡ false = grind (arith, nat_tests, ne) in rw e refl
          by (inr le) = absurd (omega (arith, le, lr))

  wide_then : IsWide (record (taken_off w c.rank c.act) { ranks = set w.ranks c.rank m.state })
  wide_then = let n = length-set w.ranks c.rank m.state in let k = taken_off-size w c.rank c.act in rw (n, k) wide

  pub after-wide : IsWide (after w c m)
  after-wide = put_on-wide (record (taken_off w c.rank c.act) { ranks = set w.ranks c.rank m.state }) c.rank m.sent wide_then

  pub after-link : (a b : ℕ) → IsFromRank w c.act → a < length w.ranks → b < length w.ranks
      → link (after w c m) a b ≡ (if a == c.rank then lines_taken w c.rank c.act a b ++ to_of b m.sent else lines_taken w c.rank c.act a b)
  after-link a b f la lb =
      let n = length-set w.ranks c.rank m.state in
      let t = put_on-link (record (taken_off w c.rank c.act) { ranks = set w.ranks c.rank m.state }) c.rank m.sent a b wide_then (rw n lr) (rw n la) (rw n lb) in
      t ∙ (let e = taken_off-link w c.rank c.act (set w.ranks c.rank m.state) a b n wide f lr la lb in rw e refl)
