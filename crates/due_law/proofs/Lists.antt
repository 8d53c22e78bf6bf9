-- Packets on the links: what is at the head, and a list without it.
use Rattle.std.proofs.Common.{◌≡◌, ◌≤◌, ◌+◌, ℕ, zero, suc, Bool, true, false, if◌then◌else◌, List, [], ◌∷◌, slice_get, Some, refl, subst, ap, arith}
use Rattle.std.proofs.lemmas.Bool.Decides.{nat_tests}
use Rattle.agree_law.specs.Packets.{Packet}
use Rattle.agree_law.specs.World.{Flight, is_on, head_of, popped}
use Rattle.agree_law.proofs.Lists.{AllOf, tally, one}
use Rattle.agree_law.proofs.Links.{flight}

-- what holds of the item at each place holds of each item
pub AllOf_from_at : {A : Type 0} (P : A → Type 0) (xs : List A) → ((k : ℕ) (x : A) → slice_get xs k ≡ Some x → P x) → AllOf P xs
AllOf_from_at P [] h = tt
AllOf_from_at P (x ∷ xs) h = (h zero x refl, AllOf_from_at P xs (λ k y e. h (suc k) y e))

-- an item that passes is counted
pub tally_at : {A : Type 0} (p : A → Bool) (xs : List A) (k : ℕ) (x : A) → slice_get xs k ≡ Some x → p x ≡ true → 1 ≤ tally p xs
tally_at p [] k x e t = absurd (cc (e))
tally_at p (y ∷ xs) zero x e t = let is : y ≡ x = cc (e) in let z : p y ≡ true = rw is t in grind (arith, z)
tally_at p (y ∷ xs) (suc k) x e t = let ih = tally_at p xs k x e t in omega (arith, ih)

same_flight : (f : Flight) (from to : ℕ) (p : Packet) → is_on from to f ≡ true → Some f.packet ≡ Some p → f ≡ flight from to p
same_flight f from to p x e =
    let a : f.from ≡ from = grind (arith, nat_tests, x) in
    let b : f.to ≡ to = grind (arith, nat_tests, x) in
    let c : f.packet ≡ p = cc (e) in
    let all : flight f.from f.to f.packet ≡ flight from to p = cc (a, b, c) in
    all

-- what holds of each packet in flight holds of the head of a link
pub head_at : (P : Flight → Type 0) (fs : List Flight) (from to : ℕ) (p : Packet) → head_of fs from to ≡ Some p → AllOf P fs → P (flight from to p)
head_at P [] from to p e h = absurd (cc (e))
head_at P (f ∷ fs) from to p e h = go (is_on from to f) refl e (head_at P fs from to p)
  where
    go : (a : Bool) → is_on from to f ≡ a → (if a then Some f.packet else head_of fs from to) ≡ Some p → (head_of fs from to ≡ Some p → AllOf P fs → P (flight from to p)) → P (flight from to p)
    go true x e ih = subst P (same_flight f from to p x e) h.0
    go false x e ih = ih e h.1

-- the head that is taken is one packet less
pub tally-popped : (test : Flight → Bool) (fs : List Flight) (from to : ℕ) (p : Packet) → head_of fs from to ≡ Some p → tally test fs ≡ tally test (popped fs from to) + one (test (flight from to p))
tally-popped test [] from to p e = absurd (cc (e))
tally-popped test (f ∷ fs) from to p e = go (is_on from to f) refl e (tally-popped test fs from to p)
  where
    go : (a : Bool) → is_on from to f ≡ a → (if a then Some f.packet else head_of fs from to) ≡ Some p → (head_of fs from to ≡ Some p → tally test fs ≡ tally test (popped fs from to) + one (test (flight from to p)))
        → one (test f) + tally test fs ≡ tally test (if a then fs else f ∷ popped fs from to) + one (test (flight from to p))
    go true x e ih = let s = ap (λ (g : Flight). one (test g)) (same_flight f from to p x e) in omega (arith, s)
    go false x e ih = let i = ih e in omega (arith, i)
