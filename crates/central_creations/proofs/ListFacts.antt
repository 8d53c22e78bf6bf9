-- Lists walked over in code.
use Rattle.std.proofs.Common.{◌≡◌, ℕ, zero, suc, ◌+◌, ◌≤◌, Bool, true, false, List, [], ◌∷◌, ◌++◌, length, map, take, slice_get, Some, None, add-one, ap, ◌∙◌, arith}
use Rattle.std.specs.List.{list_all}

-- All that pass

module _ {A : Type 0} (test : A → Bool) where
  pub one_fails : (xs : List A) (i : ℕ) (x : A) → Some x ≡ slice_get xs i → test x ≡ false → list_all test xs ≡ false
  one_fails [] i x at fails = absurd (cc (at))
  one_fails (y ∷ ys) zero x at fails = grind (arith, at, fails)
  one_fails (y ∷ ys) (suc i) x at fails = let later = one_fails ys i x at fails in grind (arith, later)

  next_passes : (xs : List A) (i : ℕ) (x : A) → Some x ≡ slice_get xs i → test x ≡ true → list_all test (take i xs) ≡ true → list_all test (take (suc i) xs) ≡ true
  next_passes [] i x at pass all = absurd (cc (at))
  next_passes (y ∷ ys) zero x at pass all = grind (arith, at, pass)
  next_passes (y ∷ ys) (suc i) x at pass all =
      let later = next_passes ys i x at pass (grind (arith, all)) in
      grind (arith, later, all)

  pub one_more_passes : (xs : List A) (i : ℕ) (x : A) → Some x ≡ slice_get xs i → test x ≡ true → list_all test (take i xs) ≡ true → list_all test (take (i + 1) xs) ≡ true
  one_more_passes xs i x at pass all = rw (add-one i) (next_passes xs i x at pass all)

pub none_below : {A : Type 0} (xs : List A) (i : ℕ) → None ≡ slice_get xs i → length xs ≤ i
none_below [] i at = omega arith
none_below (x ∷ xs) zero at = absurd (cc (at))
none_below (x ∷ xs) (suc i) at = omega (arith, none_below xs i at)

-- One element more

map_next : {A B : Type 0} (f : A → B) (xs : List A) (i : ℕ) (x : A) → Some x ≡ slice_get xs i → map f (take i xs) ++ f x ∷ [] ≡ map f (take (suc i) xs)
map_next f [] i x at = absurd (cc (at))
map_next f (y ∷ ys) zero x at = let same : x ≡ y = cc (at) in ap (λ z. f z ∷ []) same
map_next f (y ∷ ys) (suc i) x at = ap (λ zs. f y ∷ zs) (map_next f ys i x at)

pub pushed_next : {A B : Type 0} (f : A → B) (xs : List A) (i : ℕ) (x : A) (old new : List B) (y : B) → Some x ≡ slice_get xs i → old ≡ map f (take i xs) → y ≡ f x → new ≡ old ++ y ∷ []
    → new ≡ map f (take (i + 1) xs)
pushed_next f xs i x old new y at so_far is pushed =
    pushed ∙ ap (λ ys. ys ++ y ∷ []) so_far ∙ ap (λ z. map f (take i xs) ++ z ∷ []) is ∙ rw (add-one i) (map_next f xs i x at)
