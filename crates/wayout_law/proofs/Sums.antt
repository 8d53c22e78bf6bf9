-- Sums over lists.
use Rattle.std.proofs.Common.{◌≡◌, ◌<◌, ◌≤◌, ◌+◌, ◌*◌, ℕ, zero, suc, Bool, true, false, List, [], ◌∷◌, ◌++◌, filter, length, set, get_or, subst, arith}
use Rattle.std.specs.Prelude.{if◌then◌else◌}
use Rattle.wayout_law.specs.Potential.{sum_of, sum_at}

pub sum_of-append : {A : Type 0} (f : A → ℕ) (xs ys : List A) → sum_of f (xs ++ ys) ≡ sum_of f xs + sum_of f ys
sum_of-append f [] ys = omega arith
sum_of-append f (x ∷ xs) ys = let ih = sum_of-append f xs ys in omega arith

pub sum_of-le : {A : Type 0} (f g : A → ℕ) (xs : List A) → ((x : A) → f x ≤ g x) → sum_of f xs ≤ sum_of g xs
sum_of-le f g [] h = omega arith
sum_of-le f g (x ∷ xs) h = let ih = sum_of-le f g xs h in let a = h x in omega (arith, ih, a)

pub sum_of-filter : {A : Type 0} (f : A → ℕ) (p : A → Bool) (xs : List A) → sum_of f (filter p xs) ≤ sum_of f xs
sum_of-filter f p [] = omega arith
sum_of-filter f p (x ∷ xs) = let ih = sum_of-filter f p xs in go (p x) ih
  where
    go : (b : Bool) → sum_of f (filter p xs) ≤ sum_of f xs → sum_of f (if b then x ∷ filter p xs else filter p xs) ≤ f x + sum_of f xs
    go true ih = omega (arith, ih)
    go false ih = omega (arith, ih)

pub sum_at-le : {A : Type 0} (f g : ℕ → A → ℕ) (i : ℕ) (xs : List A) → ((j : ℕ) (x : A) → f j x ≤ g j x) → sum_at f i xs ≤ sum_at g i xs
sum_at-le f g i [] h = omega arith
sum_at-le f g i (x ∷ xs) h = let ih = sum_at-le f g (suc i) xs h in let a = h i x in omega (arith, ih, a)

-- one item becomes another
sum_at-set : {A : Type 0} (f : ℕ → A → ℕ) (i : ℕ) (xs : List A) (k : ℕ) (y d : A) → k < length xs → sum_at f i (set xs k y) + f (i + k) (get_or xs k d) ≡ sum_at f i xs + f (i + k) y
sum_at-set f i [] k y d lt = absurd (omega (arith, lt))
sum_at-set f i (x ∷ xs) zero y d lt = let z : i + 0 ≡ i = omega arith in rw z (omega arith)
sum_at-set f i (x ∷ xs) (suc k) y d lt =
    let ih = sum_at-set f (suc i) xs k y d (omega (arith, lt)) in
    let z : i + suc k ≡ suc i + k = omega arith in
    rw z (omega (arith, ih))

pub sum_at-put : {A : Type 0} (f : ℕ → A → ℕ) (xs : List A) (k : ℕ) (y d : A) → k < length xs → sum_at f 0 (set xs k y) + f k (get_or xs k d) ≡ sum_at f 0 xs + f k y
sum_at-put f xs k y d lt = subst (λ j. sum_at f 0 (set xs k y) + f j (get_or xs k d) ≡ sum_at f 0 xs + f j y) (plain k) (sum_at-set f 0 xs k y d lt)
  where
    plain : (k : ℕ) → 0 + k ≡ k
    plain k = omega arith

-- no more than so many times another sum
pub sum_of-times : {A : Type 0} (f : A → ℕ) (c : ℕ) (xs : List A) → ((x : A) → f x ≤ c) → sum_of f xs ≤ c * length xs
sum_of-times f c [] h = omega arith
sum_of-times f c (x ∷ xs) h = let ih = sum_of-times f c xs h in let a = h x in let m : c * suc (length xs) ≡ c + c * length xs = grind arith in omega (arith, ih, a, m)

pub sum_of-each : {A : Type 0} (xs : List A) (f : A → ℕ) → ((x : A) → f x ≤ 1) → sum_of f xs ≤ length xs
sum_of-each [] f h = omega arith
sum_of-each (x ∷ xs) f h = let ih = sum_of-each xs f h in let a = h x in omega (arith, ih, a)
