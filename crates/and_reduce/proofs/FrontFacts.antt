-- Masks joined place by place, and the part of a mask that the agreement speaks of.
use Rattle.std.proofs.Common.{◌≡◌, ℕ, zero, suc, ◌+◌, ◌<◌, ◌≤◌, ◌==◌, ◌&&◌, Bool, true, false, List, [], ◌∷◌, length, set, take, get_or, refl, sym, ◌∙◌, ap, arith, cond, Option, Some, None}
use Rattle.std.specs.Prelude.{find, nat_lt, nat_le}
use Rattle.std.specs.List.{range_with_len}
use Rattle.std.proofs.Math.Seq.{take-set-lt}
use Rattle.std.proofs.lemmas.Bool.Decides.{nat_tests}
use Rattle.std.proofs.lemmas.List.{take-replicate, get_or-take}
use Rattle.std.proofs.lemmas.List.FromFn.{take-map-range_with_len}
use Rattle.ctx_mask.specs.Masks.{both, none_of, full_of}
use Rattle.ctx_mask.specs.Least.{least_true}
use Rattle.ctx_mask.proofs.MaskFacts.{least_true_is, least_true_nowhere}
use Rattle.and_reduce.specs.Fronts.{front}

-- Of the and of two masks

pub both_turned : (xs ys : List Bool) → both xs ys ≡ both ys xs
both_turned [] [] = refl
both_turned [] (y ∷ ys) = refl
both_turned (x ∷ xs) [] = refl
both_turned (x ∷ xs) (y ∷ ys) = let ih = both_turned xs ys in grind (arith, ih)

pub both_grouped : (xs ys zs : List Bool) → both xs (both ys zs) ≡ both (both xs ys) zs
both_grouped [] ys zs = refl
both_grouped (x ∷ xs) [] zs = refl
both_grouped (x ∷ xs) (y ∷ ys) [] = refl
both_grouped (x ∷ xs) (y ∷ ys) (z ∷ zs) = let ih = both_grouped xs ys zs in grind (arith, ih)

take-both : (n : ℕ) (xs ys : List Bool) → take n (both xs ys) ≡ both (take n xs) (take n ys)
take-both zero xs ys = refl
take-both (suc n) [] ys = refl
take-both (suc n) (x ∷ xs) [] = refl
take-both (suc n) (x ∷ xs) (y ∷ ys) = ap (λ (zs : List Bool). (x && y) ∷ zs) (take-both n xs ys)

-- Of the front

pub front-both : (top : ℕ) (xs ys : List Bool) → front top (both xs ys) ≡ both (front top xs) (front top ys)
front-both top xs ys = take-both (top + 1) xs ys

-- the front of a full mask is the full mask of the contexts
pub front-full_of : (top places : ℕ) → top < places → front top (full_of places top) ≡ full_of (top + 1) top
front-full_of top places lt = take-map-range_with_len (λ c. nat_lt 0 c && nat_le c top) 0 places (top + 1) (omega arith)

-- the front of an empty mask is the empty mask of the contexts
pub front-none_of : (top places : ℕ) → top < places → front top (none_of places) ≡ none_of (top + 1)
front-none_of top places lt = take-replicate (top + 1) places false (omega arith)

-- a context that is put in or taken out of a mask is put in or taken out of its front
pub front-set : (top c : ℕ) (mask : List Bool) (free : Bool) → c ≤ top → front top (set mask c free) ≡ set (front top mask) c free
front-set top c mask free le = take-set-lt (top + 1) mask c free (omega arith)

-- the front of a mask is true where the mask is
pub get_or-front : (top c : ℕ) (mask : List Bool) → c ≤ top → get_or (front top mask) c false ≡ get_or mask c false
get_or-front top c mask le = get_or-take (top + 1) mask c false (omega arith)

-- Of the least context

-- the first number of a range that passes a test passes it, and none before it does
find-range_found : (p : ℕ → Bool) (a n c : ℕ) → find p (range_with_len a n) ≡ Some c
    → (a ≤ c) × (c < a + n) × (p c ≡ true) × ((d : ℕ) → a ≤ d → d < c → p d ≡ false)
find-range_found p a zero c e = absurd (cc)
find-range_found p a (suc n) c e = go (p a) refl e (find-range_found p (a + 1) n c)
  where
    beyond : p a ≡ false → (a + 1 ≤ c) × (c < (a + 1) + n) × (p c ≡ true) × ((d : ℕ) → a + 1 ≤ d → d < c → p d ≡ false)
        → (a ≤ c) × (c < a + suc n) × (p c ≡ true) × ((d : ℕ) → a ≤ d → d < c → p d ≡ false)
    beyond h f = (omega (arith, f.0), omega (arith, f.1), f.2, below)
      where
        below : (d : ℕ) → a ≤ d → d < c → p d ≡ false
        below d le lt = at (d == a) refl
          where
            at : (b : Bool) → (d == a) ≡ b → p d ≡ false
            at true k = let is : d ≡ a = grind (arith, nat_tests, k) in rw is h
            at false k = f.3 d (grind (arith, nat_tests, k, le)) lt

    go : (b : Bool) → p a ≡ b → cond b (Some a) (find p (range_with_len (a + 1) n)) ≡ Some c
        → (find p (range_with_len (a + 1) n) ≡ Some c → (a + 1 ≤ c) × (c < (a + 1) + n) × (p c ≡ true) × ((d : ℕ) → a + 1 ≤ d → d < c → p d ≡ false))
        → (a ≤ c) × (c < a + suc n) × (p c ≡ true) × ((d : ℕ) → a ≤ d → d < c → p d ≡ false)
    go true h k ih = let is : a ≡ c = cc in (omega arith, omega arith, rw (← is) h, λ d le lt. absurd (omega (arith, is)))
    go false h k ih = beyond h (ih k)

-- where no number of a range is found, none passes the test
find-range_none : (p : ℕ → Bool) (a n : ℕ) → find p (range_with_len a n) ≡ None → (c : ℕ) → a ≤ c → c < a + n → p c ≡ false
find-range_none p a zero e c le lt = absurd (omega arith)
find-range_none p a (suc n) e c le lt = go (p a) refl e (find-range_none p (a + 1) n)
  where
    go : (b : Bool) → p a ≡ b → cond b (Some a) (find p (range_with_len (a + 1) n)) ≡ None
        → (find p (range_with_len (a + 1) n) ≡ None → (c : ℕ) → a + 1 ≤ c → c < (a + 1) + n → p c ≡ false) → p c ≡ false
    go true h k ih = absurd (cc)
    go false h k ih = at (c == a) refl
      where
        at : (b : Bool) → (c == a) ≡ b → p c ≡ false
        at true q = let is : c ≡ a = grind (arith, nat_tests, q) in rw is h
        at false q = ih k c (grind (arith, nat_tests, q, le)) (omega arith)

-- what is found from 1 to the greatest is there
pub least-within : (p : ℕ → Bool) (top c : ℕ) → find p (range_with_len 1 top) ≡ Some c → (1 ≤ c) × (c ≤ top)
least-within p top c e = let found = find-range_found p 1 top c e in (found.0, omega (arith, found.1))

module _ (top : ℕ) (mask : List Bool) (low : get_or mask 0 false ≡ false) (above : (c : ℕ) → top < c → get_or mask c false ≡ false) (long : top < length mask) where
  off : (c : ℕ) → (1 ≤ c → c ≤ top → get_or mask c false ≡ false) → get_or mask c false ≡ false
  off zero h = low
  off (suc c) h = go (nat_lt top (suc c)) refl
    where
      go : (b : Bool) → nat_lt top (suc c) ≡ b → get_or mask (suc c) false ≡ false
      go true e = above (suc c) (grind (arith, nat_tests, e))
      go false e = h (omega arith) (grind (arith, nat_tests, e))

  -- the least context of a mask without any above the greatest is the least one in its front
  pub least_true-front : least_true mask ≡ find (λ c. get_or (front top mask) c false) (range_with_len 1 top)
  least_true-front = go (find test (range_with_len 1 top)) refl
    where
      test : ℕ → Bool
      test = λ c. get_or (front top mask) c false

      at : (c : ℕ) → c ≤ top → get_or mask c false ≡ test c
      at c le = sym (get_or-front top c mask le)

      go : (r : Option ℕ) → find test (range_with_len 1 top) ≡ r → least_true mask ≡ r
      go None e = least_true_nowhere mask (λ c lt. off c (λ h le. at c le ∙ find-range_none test 1 top e c h (omega (arith, le))))
      go (Some c) e =
          let found = find-range_found test 1 top c e in
          let lt : c < top + 1 = omega (arith, found.1) in
          least_true_is mask c (omega (arith, long, lt)) (at c (omega (arith, lt)) ∙ found.2)
          (λ d less. off d (λ h le. at d le ∙ found.3 d h less))

pub ruleset front_facts = (front-full_of, front-none_of, front-set, get_or-front)
