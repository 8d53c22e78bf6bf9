-- The protocol's world and the agreement's: each part is a rank's, and the flights from a rank to a rank are the packets of the
-- agreement on the link.
use Rattle.std.proofs.Common.{◌≡◌, ◌≢◌, ◌⊎◌, inl, inr, ◌<◌, ◌≤◌, ◌+◌, ◌*◌, ◌==◌, ◌&&◌, nat_lt, ℕ, zero, suc, Bool, true, false, List, [], ◌∷◌, ◌++◌, map, length, set, get_or, drop, slice_get, Some, refl, sym, subst, ap, ◌∙◌, arith, append-nil}
use Rattle.std.proofs.lemmas.Bool.Decides.{nat_tests}
use Rattle.std.proofs.lemmas.List.{length-map, append_assoc}
use Rattle.agree_law.specs.Part.{Agree, fresh}
use Rattle.agree_law.specs.Packets as agree
use Rattle.agree_law.specs.World as agreement
use Rattle.agree_law.specs.World.{Flight, head_of, popped, flights_of, part_at}
use Rattle.agree_law.proofs.Lists.{AllOf, set_place, length-set}
use Rattle.mpi_protocol.specs.Packets.{Packet, Agreeing, Message, Marker, Sent}
use Rattle.mpi_protocol.specs.Rank.{Rank}
use Rattle.mpi_protocol.specs.World.{World, rank_at, blank, link, with_link, place_of_link, links_with, put_on}
use Rattle.mpi_protocol.specs.Projection.{agreement_in, agreements, flights_on, IsAgreementOf}
use Rattle.projection_law.proofs.Links.{agreed_in, agreed_sent, flights_on-append, agreements-append, flights_of-append, headed, popped_other, place_inside, same_place}

-- the world has a link for each pair of ranks, and this is its agreement
pub record Projects (w : World) (a : agreement.World) : Type 0 where
  pub parts : a.parts ≡ map (λ x. x.agree) w.ranks
  pub size : length w.links ≡ length w.ranks * length w.ranks
  pub links : (from to : ℕ) → from < length w.ranks → to < length w.ranks → flights_on a.links from to ≡ agreements (link w from to)

pub agreement_is : (w : World) (a : agreement.World) → Projects w a → IsAgreementOf w a
agreement_is w a p = record { parts = p.parts; links = p.links }

-- What it says of one rank

pub same_size : (w : World) (a : agreement.World) → Projects w a → length a.parts ≡ length w.ranks
same_size w a p = ap length p.parts ∙ length-map w.ranks (λ x. x.agree)

mapped_at : (xs : List Rank) (r : ℕ) (d : Rank) (b : Agree) → r < length xs → get_or (map (λ x. x.agree) xs) r b ≡ (get_or xs r d).agree
mapped_at [] r d b lt = absurd (omega arith)
mapped_at (x ∷ xs) zero d b lt = refl
mapped_at (x ∷ xs) (suc r) d b lt = mapped_at xs r d b (omega arith)

pub same_part : (w : World) (a : agreement.World) (r : ℕ) → Projects w a → r < length w.ranks → part_at a r ≡ (rank_at w r).agree
same_part w a r p lt = ap (λ xs. get_or xs r (fresh 0)) p.parts ∙ mapped_at w.ranks r blank (fresh 0) lt

-- The links change

-- a link gets other packets
abbrev pub with_flights : agreement.World → List Flight → agreement.World
with_flights a links = record { parts = a.parts; links = links }

other_link : (w : World) (from to : ℕ) (ps : List Packet) (a b : ℕ) → to < length w.ranks → b < length w.ranks → ((a == from) && (b == to)) ≡ false → link (with_link w from to ps) a b ≡ link w a b
other_link w from to ps a b lt lb ne = go (set_place w.links (place_of_link w from to) ps [] (place_of_link w a b))
  where
    go : ((place_of_link w a b ≡ place_of_link w from to) × (place_of_link w from to < length w.links) × (get_or (set w.links (place_of_link w from to) ps) (place_of_link w a b) [] ≡ ps))
        ⊎ (((place_of_link w a b ≢ place_of_link w from to) ⊎ (length w.links ≤ place_of_link w from to)) × (get_or (set w.links (place_of_link w from to) ps) (place_of_link w a b) [] ≡ link w a b)) → link (with_link w from to ps) a b ≡ link w a b
    go (inl c) = let s = same_place (length w.ranks) a b from to lb lt c.0 in let x = s.0 in let y = s.1 in absurd (grind (arith, nat_tests, ne, x, y))
    go (inr c) = c.1

this_link : (w : World) (a : agreement.World) (from to : ℕ) (ps : List Packet) → Projects w a → from < length w.ranks → to < length w.ranks → link (with_link w from to ps) from to ≡ ps
this_link w a from to ps p lf lt =
    let at = set_place w.links (place_of_link w from to) ps [] (place_of_link w from to) in
    let i = place_inside (length w.ranks) from to lf lt in
    let s = p.size in
    go at (omega (arith, i, s))
  where
    go : ((place_of_link w from to ≡ place_of_link w from to) × (place_of_link w from to < length w.links) × (get_or (set w.links (place_of_link w from to) ps) (place_of_link w from to) [] ≡ ps))
        ⊎ (((place_of_link w from to ≢ place_of_link w from to) ⊎ (length w.links ≤ place_of_link w from to)) × (get_or (set w.links (place_of_link w from to) ps) (place_of_link w from to) [] ≡ link w from to))
        → place_of_link w from to < length w.links → link (with_link w from to ps) from to ≡ ps
    go (inl c) l = c.2
    go (inr (inl ne, e)) l = absurd (ne refl)
    go (inr (inr le, e)) l = absurd (omega (arith, le, l))

-- one link changes, and the flights of that pair with it
relinked : (w : World) (a : agreement.World) (from to : ℕ) (ps : List Packet) (fs : List Flight) → Projects w a → from < length w.ranks → to < length w.ranks
    → flights_on fs from to ≡ agreements ps → ((x y : ℕ) → ((x == from) && (y == to)) ≡ false → flights_on fs x y ≡ flights_on a.links x y)
    → Projects (with_link w from to ps) (with_flights a fs)
relinked w a from to ps fs p lf lt here there = record {
  parts = p.parts;
  size = length-set w.links (place_of_link w from to) ps ∙ p.size;
  links = λ x y lx ly. go x y lx ly ((x == from) && (y == to)) refl;
}
  where
    go : (x y : ℕ) → x < length w.ranks → y < length w.ranks → (b : Bool) → ((x == from) && (y == to)) ≡ b → flights_on fs x y ≡ agreements (link (with_link w from to ps) x y)
    go x y lx ly true e =
        let a1 : x ≡ from = grind (arith, nat_tests, e) in
        let b1 : y ≡ to = grind (arith, nat_tests, e) in
        rw (a1, b1) (here ∙ sym (ap agreements (this_link w a from to ps p lf lt)))
    go x y lx ly false e = there x y e ∙ (p.links x y lx ly ∙ sym (ap agreements (other_link w from to ps x y lt ly e)))

-- a packet of the agreement is at the head of a link, and without it this is the agreement still
pub record Taken (w : World) (a : agreement.World) (from to : ℕ) (q : agree.Packet) : Type 0 where
  pub head : head_of a.links from to ≡ Some q
  pub rest : Projects (with_link w from to (drop 1 (link w from to))) (with_flights a (popped a.links from to))

-- the head of a link is taken: a packet of the agreement is the head of the flights, any other is no flight
pub agreement_taken : (w : World) (a : agreement.World) (from to : ℕ) (q : agree.Packet) → Projects w a → from < length w.ranks → to < length w.ranks → slice_get (link w from to) 0 ≡ Some (Agreeing q) → Taken w a from to q
agreement_taken w a from to q p lf lt e = go (link w from to) refl e
  where
    go : (ps : List Packet) → link w from to ≡ ps → slice_get ps 0 ≡ Some (Agreeing q) → Taken w a from to q
    go [] l h = absurd (cc (h))
    go (x ∷ ps) l h =
        let is : x ≡ Agreeing q = cc (h) in
        let fs : flights_on a.links from to ≡ q ∷ agreements ps = p.links from to lf lt ∙ (ap agreements l ∙ rw is refl) in
        let d = headed a.links from to q (agreements ps) fs in
        let t : drop 1 (link w from to) ≡ ps = ap (λ z. drop 1 z) l in
        record { head = d.head; rest = rw t (relinked w a from to ps (popped a.links from to) p lf lt d.tail (λ x y ne. popped_other a.links from to x y ne)) }

pub other_taken : (w : World) (a : agreement.World) (from to : ℕ) (q : Packet) → Projects w a → from < length w.ranks → to < length w.ranks → slice_get (link w from to) 0 ≡ Some q → agreement_in q ≡ []
    → Projects (with_link w from to (drop 1 (link w from to))) a
other_taken w a from to q p lf lt e none = go (link w from to) refl e
  where
    go : (ps : List Packet) → link w from to ≡ ps → slice_get ps 0 ≡ Some q → Projects (with_link w from to (drop 1 (link w from to))) a
    go [] l h = absurd (cc (h))
    go (x ∷ ps) l h =
        let is : x ≡ q = cc (h) in
        let fs : flights_on a.links from to ≡ agreements ps = p.links from to lf lt ∙ (ap agreements l ∙ rw (is, none) refl) in
        let t : drop 1 (link w from to) ≡ ps = ap (λ z. drop 1 z) l in
        rw t (relinked w a from to ps a.links p lf lt fs (λ x y ne. refl))

-- Packets are put on links

one_put : (w : World) (a : agreement.World) (r to : ℕ) (q : Packet) → Projects w a → r < length w.ranks → to < length w.ranks
    → Projects (with_link w r to (link w r to ++ q ∷ [])) (with_flights a (a.links ++ flights_of r (agreed_in to q)))
one_put w a r to q p lr lt = go q
  where
    here : (q : Packet) → flights_on (flights_of r (agreed_in to q)) r to ≡ agreement_in q
    here (Agreeing x) = grind (arith, nat_tests)
    here (Message m) = refl
    here (Marker c) = refl

    there : (q : Packet) (x y : ℕ) → ((x == r) && (y == to)) ≡ false → flights_on (flights_of r (agreed_in to q)) x y ≡ []
    there (Agreeing z) x y ne = grind (arith, nat_tests, ne)
    there (Message m) x y ne = refl
    there (Marker c) x y ne = refl

    one : (q : Packet) → agreements (q ∷ []) ≡ agreement_in q
    one (Agreeing x) = refl
    one (Message m) = refl
    one (Marker c) = refl

    go : (q : Packet) → Projects (with_link w r to (link w r to ++ q ∷ [])) (with_flights a (a.links ++ flights_of r (agreed_in to q)))
    go q =
        relinked w a r to (link w r to ++ q ∷ []) (a.links ++ flights_of r (agreed_in to q)) p lr lt
        (flights_on-append a.links (flights_of r (agreed_in to q)) r to ∙ (rw (p.links r to lr lt, here q) (sym (agreements-append (link w r to) (q ∷ []) ∙ rw (one q) refl))))
        (λ x y ne. flights_on-append a.links (flights_of r (agreed_in to q)) x y ∙ (rw (there q x y ne) (append-nil (flights_on a.links x y))))

-- a packet to a rank of the world is put on its link
addressed : (w : World) (r : ℕ) (s : Sent) (P : World → Type 0) → s.to < length w.ranks → P (with_link w r s.to (link w r s.to ++ s.packet ∷ [])) → P (record w { links = links_with w r s })
addressed w r s P lt here = let is : nat_lt s.to (length w.ranks) ≡ true = grind (arith, nat_tests, lt) in rw is here

pub put : (w : World) (a : agreement.World) (r : ℕ) (ss : List Sent) → Projects w a → r < length w.ranks → AllOf (λ s. s.to < length w.ranks) ss
    → Projects (put_on w r ss) (with_flights a (a.links ++ flights_of r (agreed_sent ss)))
put w a r [] p lr h = rw (append-nil a.links) p
put w a r (s ∷ ss) p lr h =
    let one = addressed w r s (λ z. Projects z (with_flights a (a.links ++ flights_of r (agreed_in s.to s.packet)))) h.0 (one_put w a r s.to s.packet p lr h.0) in
    let all = put (record w { links = links_with w r s }) (with_flights a (a.links ++ flights_of r (agreed_in s.to s.packet))) r ss one lr h.1 in
    let split : (a.links ++ flights_of r (agreed_in s.to s.packet)) ++ flights_of r (agreed_sent ss) ≡ a.links ++ flights_of r (agreed_in s.to s.packet ++ agreed_sent ss) =
    append_assoc a.links (flights_of r (agreed_in s.to s.packet)) (flights_of r (agreed_sent ss)) ∙ ap (λ z. a.links ++ z) (sym (flights_of-append r (agreed_in s.to s.packet) (agreed_sent ss))) in
    subst (λ z. Projects (put_on w r (s ∷ ss)) (with_flights a z)) split all

-- A rank changes

map_set : (xs : List Rank) (r : ℕ) (y : Rank) → map (λ x. x.agree) (set xs r y) ≡ set (map (λ x. x.agree) xs) r y.agree
map_set [] r y = refl
map_set (x ∷ xs) zero y = refl
map_set (x ∷ xs) (suc r) y = ap (λ z. x.agree ∷ z) (map_set xs r y)

pub rank_set : (w : World) (a : agreement.World) (r : ℕ) (y : Rank) → Projects w a → Projects (record w { ranks = set w.ranks r y }) (record { parts = set a.parts r y.agree; links = a.links })
rank_set w a r y p =
    let n = length-set w.ranks r y in
    record {
      parts = ap (λ z. set z r y.agree) p.parts ∙ sym (map_set w.ranks r y);
      size = p.size ∙ sym (ap (λ z. z * z) n);
      links = λ from to lf lt. p.links from to (omega (arith, n, lf)) (omega (arith, n, lt)) ∙ sym (ap (λ z. agreements (get_or w.links (z * from + to) [])) n);
    }
