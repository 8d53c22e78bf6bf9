-- Lists in which one place changes, and how many items pass a test.
use Rattle.std.proofs.Common.{◌≡◌, ◌≢◌, ◌⊎◌, ℕ, zero, suc, ◌+◌, ◌<◌, ◌≤◌, ◌==◌, nat_lt, Bool, true, false, List, [], ◌∷◌, ◌++◌, length, get_or, set, refl, subst, inl, inr, arith, length-append, map}
use Rattle.std.proofs.lemmas.Bool.Decides.{nat_tests}
use Rattle.std.specs.List.{list_any, list_all, range_with_len, AllByRecursion}

abbrev pub one : Bool → ℕ
one true = 1
one false = 0

-- how many items pass a test
abbrev pub tally : {A : Type 0} → (A → Bool) → List A → ℕ
tally p [] = 0
tally p (x ∷ xs) = one (p x) + tally p xs

-- one place of a list changes
pub set_place : {A : Type 0} (xs : List A) (i : ℕ) (y d : A) (j : ℕ)
    → ((j ≡ i) × (i < length xs) × (get_or (set xs i y) j d ≡ y)) ⊎ (((j ≢ i) ⊎ (length xs ≤ i)) × (get_or (set xs i y) j d ≡ get_or xs j d))
set_place [] i y d j = inr (inr (omega arith), refl)
set_place (x ∷ xs) zero y d zero = inl (refl, omega arith, refl)
set_place (x ∷ xs) zero y d (suc j) = inr (inl (omega arith), refl)
set_place (x ∷ xs) (suc i) y d zero = inr (inl (omega arith), refl)
set_place (x ∷ xs) (suc i) y d (suc j) = let ih = set_place xs i y d j in grind (arith, ih)

pub get_or_past : {A : Type 0} (xs : List A) (i : ℕ) (d : A) → length xs ≤ i → get_or xs i d ≡ d
get_or_past [] i d l = refl
get_or_past (x ∷ xs) zero d l = absurd (omega arith)
get_or_past (x ∷ xs) (suc i) d l = get_or_past xs i d (omega arith)

pub get_or-append : {A : Type 0} (xs : List A) (y d : A) (i : ℕ) → i < length xs → get_or (xs ++ y ∷ []) i d ≡ get_or xs i d
get_or-append [] y d i lt = absurd (omega arith)
get_or-append (x ∷ xs) y d zero lt = refl
get_or-append (x ∷ xs) y d (suc i) lt = get_or-append xs y d i (omega arith)

pub get_or-last : {A : Type 0} (xs : List A) (y d : A) → get_or (xs ++ y ∷ []) (length xs) d ≡ y
get_or-last [] y d = refl
get_or-last (x ∷ xs) y d = get_or-last xs y d

pub length-snoc : {A : Type 0} (xs : List A) (y : A) → length (xs ++ y ∷ []) ≡ length xs + 1
length-snoc xs y = omega (arith, length-append xs (y ∷ []))

pub tally-set : {A : Type 0} (p : A → Bool) (xs : List A) (i : ℕ) (y d : A) → i < length xs → tally p (set xs i y) + one (p (get_or xs i d)) ≡ tally p xs + one (p y)
tally-set p [] i y d lt = absurd (omega arith)
tally-set p (x ∷ xs) zero y d lt = omega arith
tally-set p (x ∷ xs) (suc i) y d lt = let ih = tally-set p xs i y d (omega arith) in omega arith

-- an item that passes
pub record HasAt {A : Type 0} (p : A → Bool) (xs : List A) (d : A) : Type 0 where
  pub place : ℕ
  pub inside : place < length xs
  pub passes : p (get_or xs place d) ≡ true

pub tally_has : {A : Type 0} (p : A → Bool) (xs : List A) (d : A) → 0 < tally p xs → HasAt p xs d
tally_has p [] d h = absurd (omega arith)
tally_has p (x ∷ xs) d h = go (p x) refl (tally_has p xs d)
  where
    go : (b : Bool) → p x ≡ b → (0 < tally p xs → HasAt p xs d) → HasAt p (x ∷ xs) d
    go true e ih = record { place = 0; inside = omega arith; passes = e }
    go false e ih =
        let more : 0 < tally p xs = grind (arith, e, h) in
        let r = ih more in
        let l = r.inside in
        record { place = suc r.place; inside = omega arith; passes = r.passes }

pub tally_some : {A : Type 0} (p : A → Bool) (xs : List A) (d : A) (i : ℕ) → i < length xs → p (get_or xs i d) ≡ true → 0 < tally p xs
tally_some p [] d i lt h = absurd (omega arith)
tally_some p (x ∷ xs) d zero lt h = grind (arith, h)
tally_some p (x ∷ xs) d (suc i) lt h = let ih = tally_some p xs d i (omega arith) h in omega arith

-- where at most one item passes, two places of items that pass are one
pub tally_one : {A : Type 0} (p : A → Bool) (xs : List A) (d : A) (i j : ℕ) → tally p xs ≤ 1 → i < length xs → j < length xs → p (get_or xs i d) ≡ true → p (get_or xs j d) ≡ true → i ≡ j
tally_one p [] d i j m li lj hi hj = absurd (omega arith)
tally_one p (x ∷ xs) d zero zero m li lj hi hj = refl
tally_one p (x ∷ xs) d zero (suc j) m li lj hi hj = let s = tally_some p xs d j (omega arith) hj in absurd (grind (arith, s, m, hi))
tally_one p (x ∷ xs) d (suc i) zero m li lj hi hj = let s = tally_some p xs d i (omega arith) hi in absurd (grind (arith, s, m, hj))
tally_one p (x ∷ xs) d (suc i) (suc j) m li lj hi hj = let ih = tally_one p xs d i j (omega arith) (omega arith) (omega arith) hi hj in omega arith

-- some item of one list passes exactly where some item of the other does, place by place
pub any_tally : {A B : Type 0} (p : A → Bool) (q : B → Bool) (xs : List A) (ys : List B) (d : A) (e : B) → length xs ≡ length ys → ((i : ℕ) → i < length xs → p (get_or xs i d) ≡ q (get_or ys i e)) → list_any p xs ≡ nat_lt 0 (tally q ys)
any_tally p q [] [] d e l f = refl
any_tally p q [] (y ∷ ys) d e l f = absurd (omega (arith, l))
any_tally p q (x ∷ xs) [] d e l f = absurd (omega (arith, l))
any_tally p q (x ∷ xs) (y ∷ ys) d e l f =
    let ih = any_tally p q xs ys d e (omega (arith, l)) (λ i lt. f (suc i) (omega arith)) in
    let h = f 0 (omega arith) in
    grind (arith, nat_tests, ih, h)

-- a test that no item passes
pub none_at : {A : Type 0} (p : A → Bool) (xs : List A) (d : A) → ((i : ℕ) → i < length xs → p (get_or xs i d) ≡ false) → list_any p xs ≡ false
none_at p [] d h = refl
none_at p (x ∷ xs) d h =
    let here : p x ≡ false = h 0 (omega arith) in
    let rest = none_at p xs d (λ i lt. h (suc i) (omega (arith, lt))) in
    grind (arith, here, rest)

-- AllByRecursion

pub All_map : {A : Type 0} (P Q : A → Type 0) (xs : List A) → ((x : A) → P x → Q x) → AllByRecursion P xs → AllByRecursion Q xs
All_map P Q [] f h = tt
All_map P Q (x ∷ xs) f h = (f x h.0, All_map P Q xs f h.1)

-- at a place, or where the default passes
pub All_at : {A : Type 0} (P : A → Type 0) (xs : List A) (d : A) (i : ℕ) → AllByRecursion P xs → P d → P (get_or xs i d)
All_at P [] d i h k = k
All_at P (x ∷ xs) d zero h k = h.0
All_at P (x ∷ xs) d (suc i) h k = All_at P xs d i h.1 k

pub All_snoc : {A : Type 0} (P : A → Type 0) (xs : List A) (y : A) → AllByRecursion P xs → P y → AllByRecursion P (xs ++ y ∷ [])
All_snoc P [] y h k = (k, tt)
All_snoc P (x ∷ xs) y h k = (h.0, All_snoc P xs y h.1 k)

-- numbers from a first one on
pub all_range : (p : ℕ → Bool) (a n : ℕ) → ((i : ℕ) → a ≤ i → i < a + n → p i ≡ true) → list_all p (range_with_len a n) ≡ true
all_range p a zero f = refl
all_range p a (suc n) f =
    let h = f a (omega arith) (omega arith) in
    let ih = all_range p (suc a) n (λ i lo hi. f i (omega arith) (omega arith)) in
    grind (arith, h, ih)

pub all_range_at : (p : ℕ → Bool) (a n i : ℕ) → list_all p (range_with_len a n) ≡ true → a ≤ i → i < a + n → p i ≡ true
all_range_at p a zero i h lo hi = absurd (omega arith)
all_range_at p a (suc n) i h lo hi = go (a == i) refl (all_range_at p (suc a) n i)
  where
    go : (b : Bool) → (a == i) ≡ b → (list_all p (range_with_len (suc a) n) ≡ true → suc a ≤ i → i < suc a + n → p i ≡ true) → p i ≡ true
    go true e ih = let is : a ≡ i = grind (arith, nat_tests, e) in subst (λ (j : ℕ). p j ≡ true) is (grind (arith, h))
    go false e ih = let ne : a ≢ i = grind (arith, nat_tests, e) in ih (grind (arith, h)) (omega arith) (omega arith)

pub get_or-map : {A B : Type 0} (f : A → B) (xs : List A) (d : A) (i : ℕ) → get_or (map f xs) i (f d) ≡ f (get_or xs i d)
get_or-map f [] d i = refl
get_or-map f (x ∷ xs) d zero = refl
get_or-map f (x ∷ xs) d (suc i) = get_or-map f xs d i

pub length-map : {A B : Type 0} (f : A → B) (xs : List A) → length (map f xs) ≡ length xs
length-map f [] = refl
length-map f (x ∷ xs) = let ih = length-map f xs in omega (arith, ih)
