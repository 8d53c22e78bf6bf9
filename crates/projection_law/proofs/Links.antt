-- The packets of one link: in the agreement's list of flights, and in the protocol's list for each pair of ranks.
use Rattle.std.proofs.Common.{◌≡◌, ◌<◌, ◌+◌, ◌*◌, ◌==◌, ◌&&◌, nat_lt, ℕ, Bool, true, false, if◌then◌else◌, List, [], ◌∷◌, ◌++◌, map, filter, not, Some, refl, ap, arith}
use Rattle.std.proofs.lemmas.Bool.Decides.{nat_tests}
use Rattle.std.proofs.Math.Nat.{mul-le-mul_left, mul-suc}
use Rattle.agree_law.specs.Packets as agree
use Rattle.agree_law.specs.World.{Flight, is_on, head_of, popped, flights_of}
use Rattle.mpi_protocol.specs.Packets.{Packet, Agreeing, Message, Marker, Sent, agreeing}
use Rattle.mpi_protocol.specs.Projection.{agreements, flights_on}
use Rattle.mpi_protocol.specs.Step.{markers}

-- the packets of the agreement among those that a rank sends
abbrev pub agreed_in : ℕ → Packet → List agree.Sent
agreed_in to (Agreeing p) = record { to = to; packet = p } ∷ []
agreed_in to (Message m) = []
agreed_in to (Marker c) = []

-- and among all that it sends
abbrev pub agreed_sent : List Sent → List agree.Sent
agreed_sent [] = []
agreed_sent (s ∷ ss) = agreed_in s.to s.packet ++ agreed_sent ss

pub flights_on-append : (xs ys : List Flight) (from to : ℕ) → flights_on (xs ++ ys) from to ≡ flights_on xs from to ++ flights_on ys from to
flights_on-append [] ys from to = refl
flights_on-append (x ∷ xs) ys from to = let ih = flights_on-append xs ys from to in grind (arith, ih)

pub agreements-append : (xs ys : List Packet) → agreements (xs ++ ys) ≡ agreements xs ++ agreements ys
agreements-append [] ys = refl
agreements-append (Agreeing p ∷ xs) ys = ap (λ z. p ∷ z) (agreements-append xs ys)
agreements-append (Message m ∷ xs) ys = agreements-append xs ys
agreements-append (Marker c ∷ xs) ys = agreements-append xs ys

pub flights_of-append : (r : ℕ) (xs ys : List agree.Sent) → flights_of r (xs ++ ys) ≡ flights_of r xs ++ flights_of r ys
flights_of-append r [] ys = refl
flights_of-append r (x ∷ xs) ys = ap (λ w. record { from = r; to = x.to; packet = x.packet } ∷ w) (flights_of-append r xs ys)

-- what the agreement sends is all of the agreement, and markers are none of it
pub agreed_all : (ss : List agree.Sent) → agreed_sent (agreeing ss) ≡ ss
agreed_all [] = refl
agreed_all (s ∷ ss) = ap (λ z. record { to = s.to; packet = s.packet } ∷ z) (agreed_all ss)

pub agreed_none : (r c : ℕ) (ms : List ℕ) → agreed_sent (markers r c ms) ≡ []
agreed_none r c [] = refl
agreed_none r c (m ∷ ms) = go (m == r) (agreed_none r c ms)
  where
    go : (b : Bool) → agreed_sent (markers r c ms) ≡ [] → agreed_sent (map (λ q. record { to = q; packet = Marker c }) (if not b then m ∷ filter (λ q. not (q == r)) ms else filter (λ q. not (q == r)) ms)) ≡ []
    go true ih = ih
    go false ih = ih

-- Taking the head of a link

-- a packet is at the head of a link, and these are behind it
pub record Headed (fs : List Flight) (from to : ℕ) (p : agree.Packet) (rest : List agree.Packet) : Type 0 where
  pub head : head_of fs from to ≡ Some p
  pub tail : flights_on (popped fs from to) from to ≡ rest

pub headed : (fs : List Flight) (from to : ℕ) (p : agree.Packet) (rest : List agree.Packet) → flights_on fs from to ≡ p ∷ rest → Headed fs from to p rest
headed [] from to p rest e = absurd (cc (e))
headed (f ∷ fs) from to p rest e = go (is_on from to f) refl e (headed fs from to p rest)
  where
    go : (b : Bool) → is_on from to f ≡ b → (if b then f.packet ∷ flights_on fs from to else flights_on fs from to) ≡ p ∷ rest → (flights_on fs from to ≡ p ∷ rest → Headed fs from to p rest) → Headed (f ∷ fs) from to p rest
    go true t h ih = let a : f.packet ≡ p = cc (h) in let b : flights_on fs from to ≡ rest = cc (h) in record { head = grind (arith, t, a); tail = grind (arith, t, b) }
    go false t h ih = let x = ih h in let a = x.head in let b = x.tail in record { head = grind (arith, t, a); tail = grind (arith, t, b) }

pub popped_other : (fs : List Flight) (from to a b : ℕ) → ((a == from) && (b == to)) ≡ false → flights_on (popped fs from to) a b ≡ flights_on fs a b
popped_other [] from to a b ne = refl
popped_other (f ∷ fs) from to a b ne = go (is_on from to f) refl (popped_other fs from to a b ne)
  where
    go : (c : Bool) → is_on from to f ≡ c → flights_on (popped fs from to) a b ≡ flights_on fs a b → flights_on (if c then fs else f ∷ popped fs from to) a b ≡ (if is_on a b f then f.packet ∷ flights_on fs a b else flights_on fs a b)
    go true t ih = let no : is_on a b f ≡ false = grind (arith, nat_tests, t, ne) in grind (arith, no)
    go false t ih = grind (arith, ih)

-- Places of links

pub place_inside : (n f t : ℕ) → f < n → t < n → n * f + t < n * n
place_inside n f t lf lt = let m = mul-le-mul_left n lf in let s = mul-suc n f in omega (arith, m, s, lt)

less_place : (n f t f' t' : ℕ) → f < f' → t < n → n * f + t < n * f' + t'
less_place n f t f' t' l lt = let m = mul-le-mul_left n l in let s = mul-suc n f in omega (arith, m, s, lt)

pub same_place : (n f t f' t' : ℕ) → t < n → t' < n → n * f + t ≡ n * f' + t' → (f ≡ f') × (t ≡ t')
same_place n f t f' t' lt lt' e = go (nat_lt f f') refl (nat_lt f' f) refl
  where
    go : (b : Bool) → nat_lt f f' ≡ b → (c : Bool) → nat_lt f' f ≡ c → (f ≡ f') × (t ≡ t')
    go true x c y = let l : f < f' = grind (arith, nat_tests, x) in let h = less_place n f t f' t' l lt in absurd (omega (arith, h, e))
    go false x true y = let l : f' < f = grind (arith, nat_tests, y) in let h = less_place n f' t' f t l lt' in absurd (omega (arith, h, e))
    go false x false y =
        let s : f ≡ f' = grind (arith, nat_tests, x, y) in
        (s, (let m : n * f ≡ n * f' = ap (λ z. n * z) s in omega (arith, m, e)))
