-- An exchange that each member has called is settled, where no link has a packet and the first member settles what it may.
use Rattle.std.proofs.Common.{◌≡◌, ◌<◌, ◌≤◌, ◌+◌, ◌==◌, ◌&&◌, ℕ, zero, suc, Bool, true, false, List, [], ◌∷◌, length, Option, Some, None, refl, ap, ◌∙◌, arith}
use Rattle.std.specs.Prelude.{if◌then◌else◌, nat_lt}
use Rattle.std.specs.Option.{is_some, is_none}
use Rattle.std.specs.List.{list_all, range_with_len}
use Rattle.std.proofs.lemmas.Bool.Decides.{nat_tests}
use Rattle.mpi_base.specs.declared.keys.Key.{Key}
use Rattle.mpi_base.specs.declared.shares.Shared1.{Shared1}
use Rattle.mpi_base.specs.Keys.{same_key}
use Rattle.agree_law.specs.declared.rows.ShareRow.{ShareRow}
use Rattle.agree_law.specs.Tree.{member_at}
use Rattle.agree_law.specs.Part.{Agree}
use Rattle.agree_law.specs.Packets as agree
use Rattle.agree_law.specs.Packets.{Up, Down, Share, Shares}
use Rattle.agree_law.specs.Kinds.{is_share}
use Rattle.agree_law.specs.Shares.{share_here, may_settle_share}
use Rattle.agree_law.specs.Moves.{may_settle}
use Rattle.agree_law.specs.World as agreement
use Rattle.agree_law.specs.World.{Flight, part_at, is_key_of}
use Rattle.agree_law.proofs.Lists.{tally, one}
use Rattle.agree_law.proofs.TreeFacts.{same_member}
use Rattle.agree_law.proofs.Links.{of_links}
use Rattle.share_law.specs.Facts.{is_exchange}
use Rattle.share_law.proofs.ShareKept.{rows_of, row_of, Ray, ShareFlies, ShareKept}
use Rattle.share_law.proofs.Foreign.{said_at, first_rows, ShareHolds}
use Rattle.share_law.proofs.Exchanges.{Exchanges}
use Rattle.mpi_protocol.specs.World.{World}
use Rattle.mpi_protocol.specs.Projection.{agreements, IsAgreementOf}
use Rattle.wayout_law.proofs.AgreeFacts.{first_is, all_at}
use Rattle.wayout_law.proofs.Agreements.{Ends, Seats, turned, agreement-many, NoPackets, key_on_link}

-- a packet of an exchange goes from a rank to another

ray_ends : (n size : ℕ) (m : ℕ → ℕ) (p member first : ℕ) → Seats n size m → Ray n m p member first → Ends size member first
ray_ends n size m p member first seats ray =
    let above = ray.above in
    let lt = ray.inside in
    let some : 0 < n = omega (arith, above, lt) in
    let far : (p == 0) ≡ false = grind (arith, nat_tests, above) in
    record { sender = rw ray.low (seats.inside p lt); receiver = rw ray.high (seats.inside 0 some); apart = rw (ray.low, ray.high) (seats.distinct p 0 lt some ∙ far) }

share_ends : (n size : ℕ) (m : ℕ → ℕ) (S : ℕ → Option Shared1) (from to : ℕ) (p : agree.Packet) → Seats n size m → ShareFlies n m S from to p → Ends size from to
share_ends n size m S from to (Up k i own mask) seats f = absurd f
share_ends n size m S from to (Down k i v) seats f = absurd f
share_ends n size m S from to (Share k s) seats f = ray_ends n size m f.0 from to seats f.1
share_ends n size m S from to (Shares k list) seats f = turned size to from (ray_ends n size m f.0 to from seats f.1)

exchange_seats : (n : ℕ) (key : Key) → is_exchange n key ≡ true → Seats (length key.members) n (member_at key.members)
unfolding is_key_of
exchange_seats n key good = record {
  inside = λ p lt. (let m = all_at (λ m. nat_lt m n) key.members p (grind (arith, good)) lt in grind (arith, nat_tests, m));
  distinct = λ p q lp lq. same_member key.members p q (grind (arith, good)) lp lq;
}

exchange-empty : (w : World) (a : agreement.World) (key : Key) → IsAgreementOf w a → NoPackets w → is_exchange (length a.parts) key ≡ true → ShareHolds a.parts a.links key → of_links a.links key ≡ []
exchange-empty w a key is none good h = go (of_links a.links key) refl h
  where
    go : (fs : List Flight) → of_links a.links key ≡ fs → ShareHolds a.parts a.links key → of_links a.links key ≡ []
    go [] e k = e
    go (f ∷ fs) e k =
        let flown = (rw e at k).flown in
        let many = agreement-many w a is in
        let ends = share_ends (length key.members) (length a.parts) (member_at key.members) (said_at a.parts key) f.from f.to f.packet (exchange_seats (length a.parts) key good) flown.0 in
        let lf : f.from < length w.ranks = (let l = ends.sender in omega (arith, l, many)) in
        let lt : f.to < length w.ranks = (let l = ends.receiver in omega (arith, l, many)) in
        absurd (key_on_link a.links key f fs e (is.links f.from f.to lf lt ∙ ap agreements (none f.from f.to lf lt ends.apart)))

-- what the first member has gathered

gathered_there : (os : List ShareRow) (key : Key) (p : ℕ) → 1 ≤ tally (row_of p) (rows_of os key) → is_some (share_here os key p) ≡ true
gathered_there [] key p le = absurd (omega (arith, le))
gathered_there (o ∷ os) key p le = go (same_key o.key key) (o.place == p) refl le (gathered_there os key p)
  where
    go : (a b : Bool) → (o.place == p) ≡ b → 1 ≤ tally (row_of p) (if a then o ∷ rows_of os key else rows_of os key) → (1 ≤ tally (row_of p) (rows_of os key) → is_some (share_here os key p) ≡ true) → is_some (if a && b then Some o.share else share_here os key p) ≡ true
    go true true s le ih = refl
    go true false s le ih = let z : one (o.place == p) ≡ 0 = rw s refl in ih (omega (arith, le, z))
    go false b s le ih = ih le

each_place : (f : ℕ → Bool) (a n : ℕ) → ((p : ℕ) → p < a + n → f p ≡ true) → list_all f (range_with_len a n) ≡ true
each_place f a zero h = refl
each_place f a (suc n) h = let here = h a (omega arith) in let ih = each_place f (a + 1) n (λ p lt. h p (omega (arith, lt))) in grind (arith, here, ih)

settles_share : (r : ℕ) (a : Agree) (key : Key) → may_settle_share r a key ≡ true → may_settle r a key ≡ true
unfolding may_settle
settles_share r a key may = grind (arith, may)

-- where each member shares, the first may settle
pub shared_settles : (w : World) (a : agreement.World) (key : Key) → IsAgreementOf w a → Exchanges a → NoPackets w → is_exchange (length a.parts) key ≡ true → 0 < length key.members
    → ((p : ℕ) → p < length key.members → is_some (said_at a.parts key p) ≡ true) → may_settle (member_at key.members 0) (part_at a (member_at key.members 0)) key ≡ true
unfolding Exchanges
shared_settles w a key is x none good some all =
    let h = x key good in
    let empty = exchange-empty w a key is none good h in
    let share : is_share key.kind ≡ true = grind (arith, good) in
    let first = first_is key.members some in
    let places = each_place (λ p. is_some (share_here (part_at a (member_at key.members 0)).shares key p)) 0 (length key.members) (λ p lt. there (rw empty at h) p (omega (arith, lt))) in
    settles_share (member_at key.members 0) (part_at a (member_at key.members 0)) key (grind (arith, share, first, places))
  where
    said : (o : Option Shared1) → is_some o ≡ true → one (is_none o) ≡ 0
    said None e = absurd (cc)
    said (Some s) e = refl

    there : ShareKept (length key.members) (member_at key.members) (said_at a.parts key) (first_rows a.parts key) [] → (p : ℕ) → p < length key.members → is_some (share_here (part_at a (member_at key.members 0)).shares key p) ≡ true
    there k p lt =
        let t = k.token p lt in
        let s = said (said_at a.parts key p) (all p lt) in
        gathered_there (part_at a (member_at key.members 0)).shares key p (omega (arith, t, s))
