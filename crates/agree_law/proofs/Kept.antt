-- What every step keeps of all keys, and a step of one rank at one key.
use Rattle.std.proofs.Common.{◌≡◌, ◌≢◌, ◌⊎◌, ◌≤◌, ◌<◌, ◌&&◌, not, ℕ, Bool, true, false, List, ◌++◌, length, get_or, set, refl, sym, subst, ap, ◌∙◌, arith, ⊎_elim}
use Rattle.mpi_base.specs.declared.keys.Key.{Key}
use Rattle.mpi_base.specs.Keys.{same_key}
use Rattle.mpi_base.specs.MemberLists.{has_rank, are_distinct}
use Rattle.mpi_base.proofs.KeyFacts.{same_key_is}
use Rattle.agree_law.specs.declared.rows.CreationRow.{CreationRow}
use Rattle.agree_law.specs.declared.rows.Stage.{Stage}
use Rattle.agree_law.specs.declared.rows.Stage.TheVariants.{Sharing, Called, Waiting, Offered, Done}
use Rattle.agree_law.specs.Tree.{place_in, member_at}
use Rattle.agree_law.specs.Part.{Offer, Agree, fresh}
use Rattle.agree_law.specs.Packets.{Packet, Up, Down, Share, Shares, Moved}
use Rattle.agree_law.specs.Kinds.{is_share}
use Rattle.agree_law.specs.Rule.{is_key}
use Rattle.agree_law.specs.World.{Flight, World, part_at, flights_of, moved, is_key_of}
use Rattle.agree_law.proofs.Lists.{AllOf, set_place, length-set}
use Rattle.agree_law.proofs.TreeFacts.{member_place, same_member, place_of_member}
use Rattle.agree_law.proofs.KeyKept.{View, view_of, Local, KeyKept}
use Rattle.agree_law.proofs.OnePlace.{Others, Distinct}
use Rattle.agree_law.proofs.Alike.{alike, alike_same}
use Rattle.agree_law.proofs.Links.{of_links}

-- a key of which a rank can hold offers
abbrev pub is_good : ℕ → Key → Bool
is_good n key = is_key_of n key && not (is_share key.kind)

abbrev pub is_good_at : ℕ → ℕ → Key → Bool
is_good_at n r key = is_good n key && has_rank key.members r

-- an exchange that is open is sharing, and any other open creation is not
abbrev pub stage_is_of : Bool → Stage → Bool
stage_is_of b (Sharing s) = b
stage_is_of b Called = not b
stage_is_of b (Waiting i) = not b
stage_is_of b (Offered i own) = not b
stage_is_of b (Done c) = not b

abbrev pub RowFits : ℕ → ℕ → CreationRow → Type 0
RowFits n r o = (is_key_of n o.key && has_rank o.key.members r) ≡ true × (stage_is_of (is_share o.key.kind) o.stage ≡ true)

abbrev pub OfferFits : ℕ → ℕ → Offer → Type 0
OfferFits n r o = is_good_at n r o.key ≡ true

abbrev pub is_good_packet : ℕ → Packet → Bool
is_good_packet n (Up k i own mask) = is_good n k
is_good_packet n (Down k i v) = is_good n k
is_good_packet n (Share k s) = is_key_of n k && is_share k.kind
is_good_packet n (Shares k ss) = is_key_of n k && is_share k.kind

abbrev pub PacketFits : ℕ → Packet → Type 0
PacketFits n p = is_good_packet n p ≡ true

-- what the member at a place of a key has of it
abbrev pub seat : List Agree → Key → ℕ → View
seat parts key q = view_of (get_or parts (member_at key.members q) (fresh 0)) key

abbrev pub KeyHolds : ℕ → List Agree → List Flight → Key → Type 0
KeyHolds top parts links key = KeyKept top (length key.members) (member_at key.members) (seat parts key) (of_links links key)

pub record Kept (top : ℕ) (w : World) : Type 0 where
  pub each : (key : Key) → is_good (length w.parts) key ≡ true → KeyHolds top w.parts w.links key
  pub rows : (r : ℕ) → AllOf (RowFits (length w.parts) r) (part_at w r).opened
  pub offers : (r : ℕ) → AllOf (OfferFits (length w.parts) r) (part_at w r).gathered
  pub flights : AllOf (λ f. PacketFits (length w.parts) f.packet) w.links
  pub owner : (r : ℕ) (key : Key) → is_key (part_at w r).owner key ≡ true → is_good_at (length w.parts) r key ≡ true

-- the members of a good key have different ranks
pub distinct_of : (n : ℕ) (key : Key) → is_good n key ≡ true → are_distinct key.members ≡ true
unfolding is_key_of
distinct_of n key e = grind (arith, e)

pub Distinct_of : (n : ℕ) (key : Key) → is_good n key ≡ true → Distinct (length key.members) (member_at key.members)
Distinct_of n key e = λ p q lp lq. same_member key.members p q (distinct_of n key e) lp lq

-- the place of a rank that changes has what the rank has, and all others stay
pub seat_here : (parts : List Agree) (key : Key) (r : ℕ) (b : Agree) → r < length parts → has_rank key.members r ≡ true → seat (set parts r b) key (place_in key.members r) ≡ view_of b key
seat_here parts key r b lt e =
    let is = (member_place key.members r e).1 in
    let at = set_place parts r b (fresh 0) r in
    let here : get_or (set parts r b) r (fresh 0) ≡ b = grind (arith, at, lt) in
    rw is (ap (λ a. view_of a key) here)

pub seat_others : (n : ℕ) (parts : List Agree) (key : Key) (r : ℕ) (b : Agree) → is_good n key ≡ true → has_rank key.members r ≡ true
    → Others (length key.members) (seat parts key) (seat (set parts r b) key) (place_in key.members r)
seat_others n parts key r b good e q lt ne =
    let is = (member_place key.members r e).1 in
    let there = place_of_member key.members q (distinct_of n key good) lt in
    let far : member_at key.members q ≢ r = λ s. ne (sym there ∙ ap (place_in key.members) s) in
    let at = set_place parts r b (fresh 0) (member_at key.members q) in
    let same : get_or (set parts r b) (member_at key.members q) (fresh 0) ≡ get_or parts (member_at key.members q) (fresh 0) = grind (arith, at, far) in
    ap (λ a. view_of a key) same

-- a rank moves at a key; the links before its packets are `links`
pub record Moves (top : ℕ) (w : World) (links : List Flight) (r : ℕ) (key : Key) (m : Moved) : Type 0 where
  pub inside : r < length w.parts
  pub others : (k : Key) → same_key key k ≡ false → is_good (length w.parts) k ≡ true → view_of m.part k ≡ view_of (part_at w r) k
  pub apart : (k : Key) → same_key key k ≡ false → is_good (length w.parts) k ≡ true → of_links (links ++ flights_of r m.sent) k ≡ of_links w.links k
  pub mine : is_good (length w.parts) key ≡ true → KeyHolds top (set w.parts r m.part) (links ++ flights_of r m.sent) key
  pub rows : AllOf (RowFits (length w.parts) r) m.part.opened
  pub offers : AllOf (OfferFits (length w.parts) r) m.part.gathered
  pub flights : AllOf (λ f. PacketFits (length w.parts) f.packet) (links ++ flights_of r m.sent)
  pub owner : (k : Key) → is_key m.part.owner k ≡ true → is_good_at (length w.parts) r k ≡ true

abbrev pub with_links : World → List Flight → World
with_links w links = record { parts = w.parts; links = links }

-- what holds of the part that changes and of each other
pub at_each : (P : ℕ → Agree → Type 0) (parts : List Agree) (r : ℕ) (b : Agree) → P r b → ((q : ℕ) → P q (get_or parts q (fresh 0))) → (q : ℕ) → P q (get_or (set parts r b) q (fresh 0))
at_each P parts r b new old q =
    ⊎_elim
    (λ (c : (q ≡ r) × (r < length parts) × (get_or (set parts r b) q (fresh 0) ≡ b)). subst (P q) (sym c.2) (subst (λ z. P z b) (sym c.0) new))
    (λ (c : ((q ≢ r) ⊎ (length parts ≤ r)) × (get_or (set parts r b) q (fresh 0) ≡ get_or parts q (fresh 0))). subst (P q) (sym c.1) (old q))
    (set_place parts r b (fresh 0) q)

pub kept-moved : (top : ℕ) (w : World) (links : List Flight) (r : ℕ) (key : Key) (m : Moved) → Kept top w → Moves top w links r key m → Kept top (moved (with_links w links) r m)
unfolding moved
kept-moved top w links r key m h u =
    let size : length (set w.parts r m.part) ≡ length w.parts = length-set w.parts r m.part in
    let n : ℕ = length w.parts in
    let P : ℕ → Type 0 = λ z.
    ((k : Key) → is_good z k ≡ true → KeyHolds top (set w.parts r m.part) (links ++ flights_of r m.sent) k)
    × ((q : ℕ) → AllOf (RowFits z q) (get_or (set w.parts r m.part) q (fresh 0)).opened)
    × ((q : ℕ) → AllOf (OfferFits z q) (get_or (set w.parts r m.part) q (fresh 0)).gathered)
    × AllOf (λ f. PacketFits z f.packet) (links ++ flights_of r m.sent)
    × ((q : ℕ) (k : Key) → is_key (get_or (set w.parts r m.part) q (fresh 0)).owner k ≡ true → is_good_at z q k ≡ true) in
    let all : P n = (
      λ k good. key_holds k good (same_key key k) refl,
      at_each (λ q a. AllOf (RowFits n q) a.opened) w.parts r m.part u.rows h.rows,
      at_each (λ q a. AllOf (OfferFits n q) a.gathered) w.parts r m.part u.offers h.offers,
      u.flights,
      at_each (λ q a. (k : Key) → is_key a.owner k ≡ true → is_good_at n q k ≡ true) w.parts r m.part u.owner h.owner,
    ) in
    let out : P (length (set w.parts r m.part)) = subst P (sym size) all in
    record { each = out.0; rows = out.1; offers = out.2; flights = out.3; owner = out.4 }
  where
    key_holds : (k : Key) → is_good (length w.parts) k ≡ true → (b : Bool) → same_key key k ≡ b → KeyHolds top (set w.parts r m.part) (links ++ flights_of r m.sent) k
    key_holds k good true e = subst (λ z. KeyHolds top (set w.parts r m.part) (links ++ flights_of r m.sent) z) (same_key_is key k e) (u.mine (rw (same_key_is key k e) good))
    key_holds k good false e =
        let same : (q : ℕ) → seat (set w.parts r m.part) k q ≡ seat w.parts k q = λ q. at_each (λ z a. view_of a k ≡ view_of (get_or w.parts z (fresh 0)) k) w.parts r m.part (u.others k e good) (λ z. refl) (member_at k.members q) in
        let old = h.each k good in
        rw (u.apart k e good)
        (alike top (length k.members) (member_at k.members) (seat w.parts k) (seat (set w.parts r m.part) k) (of_links w.links k)
        (λ q lt. alike_same (seat w.parts k q) (seat (set w.parts r m.part) k q) (same q)) (λ q lt. subst (λ v. Local v q) (sym (same q)) (old.fits q lt)) old)
