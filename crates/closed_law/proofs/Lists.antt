-- What holds at each place of a list.
use Rattle.std.proofs.Common.{◌≡◌, ◌<◌, ◌==◌, ℕ, zero, suc, Bool, true, false, List, [], ◌∷◌, length, get_or, filter, refl, subst, arith, if◌then◌else◌}
use Rattle.std.specs.List.{list_all, list_any}
use Rattle.std.proofs.lemmas.Bool.Decides.{nat_tests}
use Rattle.mpi_base.specs.MemberLists.{has_rank}
use Rattle.agree_law.proofs.Lists.{AllOf}

pub all_at : {A : Type 0} (p : A → Bool) (xs : List A) (d : A) → ((n : ℕ) → n < length xs → p (get_or xs n d) ≡ true) → list_all p xs ≡ true
all_at p [] d f = refl
all_at p (x ∷ xs) d f =
    let h = f 0 (omega arith) in
    let ih = all_at p xs d (λ n lt. f (suc n) (omega (arith, lt))) in
    grind (arith, h, ih)

pub each_at : {A : Type 0} (P : A → Type 0) (xs : List A) (d : A) (n : ℕ) → AllOf P xs → n < length xs → P (get_or xs n d)
each_at P [] d n h lt = absurd (omega (arith, lt))
each_at P (x ∷ xs) d zero h lt = h.0
each_at P (x ∷ xs) d (suc n) h lt = each_at P xs d n h.1 (omega (arith, lt))

-- of the items that pass a test, at the place of one among all
pub passed_at : {A : Type 0} (P : A → Type 0) (p : A → Bool) (xs : List A) (d : A) (n : ℕ) → AllOf P (filter p xs) → n < length xs → p (get_or xs n d) ≡ true → P (get_or xs n d)
passed_at P p [] d n h lt e = absurd (omega (arith, lt))
passed_at P p (x ∷ xs) d zero h lt e = go (p x) e h
  where
    go : (b : Bool) → b ≡ true → AllOf P (if b then x ∷ filter p xs else filter p xs) → P x
    go true e h = h.0
    go false e h = absurd (cc (e))
passed_at P p (x ∷ xs) d (suc n) h lt e = passed_at P p xs d n (go (p x) h) (omega (arith, lt)) e
  where
    go : (b : Bool) → AllOf P (if b then x ∷ filter p xs else filter p xs) → AllOf P (filter p xs)
    go true h = h.1
    go false h = h

-- what holds of all holds of each member
pub member_at : (f : ℕ → Bool) (ms : List ℕ) (q : ℕ) → list_all f ms ≡ true → has_rank ms q ≡ true → f q ≡ true
member_at f [] q h m = absurd (cc (m))
member_at f (x ∷ xs) q h m = go (x == q) refl (member_at f xs q)
  where
    go : (b : Bool) → (x == q) ≡ b → (list_all f xs ≡ true → has_rank xs q ≡ true → f q ≡ true) → f q ≡ true
    go true e ih = let is : x ≡ q = grind (arith, nat_tests, e) in subst (λ (i : ℕ). f i ≡ true) is (grind (arith, h))
    go false e ih = ih (grind (arith, h)) (grind (arith, m, e))

-- some item passes
pub any_at : {A : Type 0} (p : A → Bool) (xs : List A) (d : A) (n : ℕ) → n < length xs → p (get_or xs n d) ≡ true → list_any p xs ≡ true
any_at p [] d n lt e = absurd (omega (arith, lt))
any_at p (x ∷ xs) d zero lt e = grind (arith, e)
any_at p (x ∷ xs) d (suc n) lt e = let ih = any_at p xs d n (omega (arith, lt)) e in grind (arith, ih)
