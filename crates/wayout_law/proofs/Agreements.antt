-- What the agreement of a world has of the world: the parts of its ranks, the heads of its links, and nothing of the tree on its
-- way where each link is empty.
use Rattle.std.proofs.Common.{◌≡◌, ◌<◌, ◌==◌, ℕ, zero, suc, Bool, true, false, List, [], ◌∷◌, map, length, get_or, slice_get, Some, refl, ap, ◌∙◌, arith}
use Rattle.std.specs.Prelude.{if◌then◌else◌, nat_lt}
use Rattle.std.proofs.lemmas.Bool.Decides.{nat_tests}
use Rattle.std.proofs.lemmas.List.{length-map}
use Rattle.mpi_base.specs.declared.keys.Key.{Key}
use Rattle.mpi_base.specs.Keys.{same_key}
use Rattle.agree_law.specs.Part as agree
use Rattle.agree_law.specs.Tree.{member_at, parent_of}
use Rattle.agree_law.specs.Packets as agree_packets
use Rattle.agree_law.specs.Packets.{Up, Down, Share, Shares}
use Rattle.agree_law.specs.World as agreement
use Rattle.agree_law.specs.World.{Flight, is_on, head_of, part_at}
use Rattle.agree_law.proofs.TreeFacts.{parent_below}
use Rattle.agree_law.proofs.KeyKept.{View, Edge, Flies, KeyKept}
use Rattle.agree_law.proofs.OnePlace.{Distinct}
use Rattle.agree_law.proofs.Kept.{Kept, seat, Distinct_of}
use Rattle.agree_law.proofs.Links.{key_of, of_links}
use Rattle.mpi_protocol.specs.Packets.{Packet, Agreeing}
use Rattle.mpi_protocol.specs.Rank.{Rank}
use Rattle.mpi_protocol.specs.World.{World, blank, rank_at, link}
use Rattle.mpi_protocol.specs.Projection.{agreements, flights_on, IsAgreementOf}
use Rattle.projection_law.proofs.Links.{headed}
use Rattle.wayout_law.proofs.AgreeFacts.{all_at, members_inside, NoneFly}

-- Parts

part_of : (xs : List Rank) (r : ℕ) → get_or (map (λ x. x.agree) xs) r (agree.fresh 0) ≡ (get_or xs r blank).agree
part_of [] r = refl
part_of (x ∷ xs) zero = refl
part_of (x ∷ xs) (suc r) = part_of xs r

pub agreement-part : (w : World) (a : agreement.World) → IsAgreementOf w a → (r : ℕ) → part_at a r ≡ (rank_at w r).agree
agreement-part w a is r = ap (λ xs. get_or xs r (agree.fresh 0)) is.parts ∙ part_of w.ranks r

pub agreement-many : (w : World) (a : agreement.World) → IsAgreementOf w a → length a.parts ≡ length w.ranks
agreement-many w a is = ap length is.parts ∙ length-map w.ranks (λ x. x.agree)

-- Links

-- what is at the head of a link is at the head there
pub agreement-head : (w : World) (a : agreement.World) → IsAgreementOf w a → (from to : ℕ) (p : agree_packets.Packet) → from < length w.ranks → to < length w.ranks → slice_get (link w from to) 0 ≡ Some (Agreeing p) → head_of a.links from to ≡ Some p
agreement-head w a is from to p lf lt e = go (link w from to) refl e
  where
    go : (ps : List Packet) → link w from to ≡ ps → slice_get ps 0 ≡ Some (Agreeing p) → head_of a.links from to ≡ Some p
    go [] l s = absurd (cc (s))
    go (x ∷ ps) l s =
        let first : x ≡ Agreeing p = cc (s) in
        let fs : flights_on a.links from to ≡ p ∷ agreements ps = is.links from to lf lt ∙ (ap agreements l ∙ rw first refl) in
        (headed a.links from to p (agreements ps) fs).head

-- no link between two ranks has a packet
abbrev pub NoPackets : World → Type 0
NoPackets w = (from to : ℕ) → from < length w.ranks → to < length w.ranks → (from == to) ≡ false → link w from to ≡ []

-- a packet of a key on its way is on the link from its sender to its receiver
pub key_on_link : (fs : List Flight) (key : Key) (f : Flight) (rest : List Flight) → of_links fs key ≡ f ∷ rest → flights_on fs f.from f.to ≡ [] → ⊥
key_on_link [] key f rest e none = absurd (cc (e))
key_on_link (g ∷ gs) key f rest e none = go (key_on_link gs key f rest) (same_key (key_of g.packet) key) refl e (is_on f.from f.to g) refl none
  where
    go : (of_links gs key ≡ f ∷ rest → flights_on gs f.from f.to ≡ [] → ⊥) → (b : Bool) → same_key (key_of g.packet) key ≡ b → (if b then g ∷ of_links gs key else of_links gs key) ≡ f ∷ rest
        → (c : Bool) → is_on f.from f.to g ≡ c → (if c then g.packet ∷ flights_on gs f.from f.to else flights_on gs f.from f.to) ≡ [] → ⊥
    go ih b s h true o z = absurd (cc (z))
    go ih false s h false o z = ih h z
    go ih true s h false o z =
        let is : g ≡ f = cc (h) in
        let a : is_on f.from f.to f ≡ true = grind (arith, nat_tests) in
        let c : is_on f.from f.to f ≡ false = rw is at o in
        absurd (cc (a, c))

-- the ends of an edge of the tree are two ranks
pub record Ends (size from to : ℕ) : Type 0 where
  pub sender : from < size
  pub receiver : to < size
  pub apart : (from == to) ≡ false

-- the rank at each place, below a number, and another at another place
pub record Seats (n size : ℕ) (m : ℕ → ℕ) : Type 0 where
  pub inside : (p : ℕ) → p < n → m p < size
  pub distinct : Distinct n m

edge_ends : (n size : ℕ) (m : ℕ → ℕ) (p lower upper : ℕ) → Seats n size m → Edge n m p lower upper → Ends size lower upper
edge_ends n size m p lower upper seats e =
    let less = parent_below p e.above in
    let lt = e.inside in
    let above : parent_of p < n = omega (arith, less, lt) in
    let far : (p == parent_of p) ≡ false = grind (arith, nat_tests, less) in
    record { sender = rw e.low (seats.inside p lt); receiver = rw e.high (seats.inside (parent_of p) above); apart = rw (e.low, e.high) (seats.distinct p (parent_of p) lt above ∙ far) }

pub turned : (size from to : ℕ) → Ends size from to → Ends size to from
turned size from to e = let a = e.apart in record { sender = e.receiver; receiver = e.sender; apart = grind (arith, nat_tests, a) }

-- a packet of the tree goes from a rank to another
packet_ends : (top n size : ℕ) (m : ℕ → ℕ) (V : ℕ → View) (from to : ℕ) (p : agree_packets.Packet) → Seats n size m → Flies top n m V from to p → Ends size from to
packet_ends top n size m V from to (Up k i own mask) seats f = edge_ends n size m f.0 from to seats f.1
packet_ends top n size m V from to (Down k i v) seats f = turned size to from (edge_ends n size m f.0 to from seats f.1)
packet_ends top n size m V from to (Share k s) seats f = absurd f
packet_ends top n size m V from to (Shares k list) seats f = absurd f

-- where no link has a packet, none of the tree is on its way
pub agreement-empty : (top : ℕ) (w : World) (a : agreement.World) → IsAgreementOf w a → Kept top a → NoPackets w → NoneFly a
agreement-empty top w a is kept none key good = go (of_links a.links key) refl (kept.each key good)
  where
    seats : Seats (length key.members) (length a.parts) (member_at key.members)
    seats = record {
      inside = λ p lt. (let m = all_at (λ m. nat_lt m (length a.parts)) key.members p (members_inside (length a.parts) key good) lt in grind (arith, nat_tests, m));
      distinct = Distinct_of (length a.parts) key good;
    }

    go : (fs : List Flight) → of_links a.links key ≡ fs → KeyKept top (length key.members) (member_at key.members) (seat a.parts key) (of_links a.links key) → of_links a.links key ≡ []
    go [] e k = e
    go (f ∷ fs) e k =
        let flown = (rw e at k).flown in
        let many = agreement-many w a is in
        let ends = packet_ends top (length key.members) (length a.parts) (member_at key.members) (seat a.parts key) f.from f.to f.packet seats flown.0 in
        let lf : f.from < length w.ranks = (let l = ends.sender in omega (arith, l, many)) in
        let lt : f.to < length w.ranks = (let l = ends.receiver in omega (arith, l, many)) in
        absurd (key_on_link a.links key f fs e (is.links f.from f.to lf lt ∙ ap agreements (none f.from f.to lf lt ends.apart)))
