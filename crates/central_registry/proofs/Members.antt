-- Whether some member passes a test, looked for place by place.
use Rattle.std.proofs.Common.{◌≡◌, ℕ, zero, suc, ◌+◌, Bool, true, false, List, [], ◌∷◌, take, slice_get, Some, add-one, arith}
use Rattle.std.specs.List.{list_any}

pub one_passes : {X : Type 0} (test : X → Bool) (xs : List X) (i : ℕ) (x : X) → Some x ≡ slice_get xs i → test x ≡ true → list_any test xs ≡ true
one_passes test [] i x at passes = absurd (cc (at))
one_passes test (y ∷ ys) zero x at passes = grind (arith, at, passes)
one_passes test (y ∷ ys) (suc i) x at passes = let later = one_passes test ys i x at passes in grind (arith, later)

next_fails : {X : Type 0} (test : X → Bool) (xs : List X) (i : ℕ) (x : X) → Some x ≡ slice_get xs i → test x ≡ false → list_any test (take i xs) ≡ false
    → list_any test (take (suc i) xs) ≡ false
next_fails test [] i x at fail none = absurd (cc (at))
next_fails test (y ∷ ys) zero x at fail none = grind (arith, at, fail)
next_fails test (y ∷ ys) (suc i) x at fail none =
    let later = next_fails test ys i x at fail (grind (arith, none)) in
    grind (arith, later, none)

pub one_more_fails : {X : Type 0} (test : X → Bool) (xs : List X) (i : ℕ) (x : X) → Some x ≡ slice_get xs i → test x ≡ false → list_any test (take i xs) ≡ false
    → list_any test (take (i + 1) xs) ≡ false
one_more_fails test xs i x at fail none = rw (add-one i) (next_fails test xs i x at fail none)
