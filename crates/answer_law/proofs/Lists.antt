-- Lists in which one place changes, and tests of their items.
use Rattle.std.proofs.Common.{◌≡◌, ◌≢◌, ◌⊎◌, ℕ, zero, suc, ◌+◌, ◌<◌, ◌≤◌, ◌==◌, ◌||◌, if◌then◌else◌, Bool, true, false, List, [], ◌∷◌, ◌++◌, length, get_or, set, map, filter, find, position, option_map, Some, refl, ap, subst, inl, inr, arith, length-append}
use Rattle.std.proofs.lemmas.Bool.Decides.{nat_tests}
use Rattle.std.specs.List.{list_any, AllByRecursion}
use Rattle.mpi_base.specs.MemberLists.{has_rank}

-- one place of a list changes
pub set_place : {A : Type 0} (xs : List A) (i : ℕ) (y d : A) (j : ℕ)
    → ((j ≡ i) × (i < length xs) × (get_or (set xs i y) j d ≡ y)) ⊎ (((j ≢ i) ⊎ (length xs ≤ i)) × (get_or (set xs i y) j d ≡ get_or xs j d))
set_place [] i y d j = inr (inr (omega arith), refl)
set_place (x ∷ xs) zero y d zero = inl (refl, omega arith, refl)
set_place (x ∷ xs) zero y d (suc j) = inr (inl (omega arith), refl)
set_place (x ∷ xs) (suc i) y d zero = inr (inl (omega arith), refl)
set_place (x ∷ xs) (suc i) y d (suc j) = let ih = set_place xs i y d j in grind (arith, ih)

-- what holds of the new item and of the old ones holds at each place
pub at_set : {A : Type 0} (P : A → Type 0) (xs : List A) (i : ℕ) (y d : A) (j : ℕ) → (j ≡ i → i < length xs → P y) → P (get_or xs j d) → P (get_or (set xs i y) j d)
at_set P xs i y d j f g = go (set_place xs i y d j)
  where
    go : ((j ≡ i) × (i < length xs) × (get_or (set xs i y) j d ≡ y)) ⊎ (((j ≢ i) ⊎ (length xs ≤ i)) × (get_or (set xs i y) j d ≡ get_or xs j d)) → P (get_or (set xs i y) j d)
    go (inl a) = rw a.2 (f a.0 a.1)
    go (inr a) = rw a.1 g

pub at_map : {A B : Type 0} (f : A → B) (xs : List A) (d : A) (i : ℕ) → get_or (map f xs) i (f d) ≡ f (get_or xs i d)
at_map f [] d i = refl
at_map f (x ∷ xs) d zero = refl
at_map f (x ∷ xs) d (suc i) = at_map f xs d i

pub at_front : {A : Type 0} (xs : List A) (y d : A) (i : ℕ) → i < length xs → get_or (xs ++ y ∷ []) i d ≡ get_or xs i d
at_front [] y d i lt = absurd (omega arith)
at_front (x ∷ xs) y d zero lt = refl
at_front (x ∷ xs) y d (suc i) lt = at_front xs y d i (omega arith)

pub at_last : {A : Type 0} (xs : List A) (y d : A) → get_or (xs ++ y ∷ []) (length xs) d ≡ y
at_last [] y d = refl
at_last (x ∷ xs) y d = at_last xs y d

pub length-snoc : {A : Type 0} (xs : List A) (y : A) → length (xs ++ y ∷ []) ≡ length xs + 1
length-snoc xs y = omega (arith, length-append xs (y ∷ []))

pub length-map : {A B : Type 0} (f : A → B) (xs : List A) → length (map f xs) ≡ length xs
length-map f [] = refl
length-map f (x ∷ xs) = let ih = length-map f xs in omega (arith, ih)

pub past_end : {A : Type 0} (xs : List A) (i : ℕ) (d : A) → length xs ≤ i → get_or xs i d ≡ d
past_end [] i d l = refl
past_end (x ∷ xs) zero d l = absurd (omega arith)
past_end (x ∷ xs) (suc i) d l = past_end xs i d (omega arith)

-- All items

pub all_map : {A : Type 0} (P Q : A → Type 0) (xs : List A) → ((x : A) → P x → Q x) → AllByRecursion P xs → AllByRecursion Q xs
all_map P Q [] f h = tt
all_map P Q (x ∷ xs) f h = (f x h.0, all_map P Q xs f h.1)

-- of which nothing is asked
pub all_any : {A : Type 0} (xs : List A) → AllByRecursion (λ (x : A). Unit {0}) xs
all_any [] = tt
all_any (x ∷ xs) = (tt, all_any xs)

pub all_snoc : {A : Type 0} (P : A → Type 0) (xs : List A) (y : A) → AllByRecursion P xs → P y → AllByRecursion P (xs ++ y ∷ [])
all_snoc P [] y h k = (k, tt)
all_snoc P (x ∷ xs) y h k = (h.0, all_snoc P xs y h.1 k)

pub all_both : {A : Type 0} (P Q R : A → Type 0) (xs : List A) → ((x : A) → P x → Q x → R x) → AllByRecursion P xs → AllByRecursion Q xs → AllByRecursion R xs
all_both P Q R [] f h k = tt
all_both P Q R (x ∷ xs) f h k = (f x h.0 k.0, all_both P Q R xs f h.1 k.1)

pub all_filter : {A : Type 0} (P : A → Type 0) (test : A → Bool) (xs : List A) → AllByRecursion P xs → AllByRecursion P (filter test xs)
all_filter P test [] h = tt
all_filter P test (x ∷ xs) h = go (test x) (all_filter P test xs h.1)
  where
    go : (b : Bool) → AllByRecursion P (filter test xs) → AllByRecursion P (if b then x ∷ filter test xs else filter test xs)
    go true ih = (h.0, ih)
    go false ih = ih

pub all_changed : {A : Type 0} (P : A → Type 0) (f : A → A) (xs : List A) → ((x : A) → P x → P (f x)) → AllByRecursion P xs → AllByRecursion P (map f xs)
all_changed P f [] g h = tt
all_changed P f (x ∷ xs) g h = (g x h.0, all_changed P f xs g h.1)

-- Items that are found

-- what is found passes, and has what all have
pub found : {A : Type 0} (P : A → Type 0) (test : A → Bool) (xs : List A) (y : A) → find test xs ≡ Some y → AllByRecursion P xs → (test y ≡ true) × P y
found P test [] y e h = absurd (cc (e))
found {A = A} P test (x ∷ xs) y e h = go (test x) refl e (found P test xs y)
  where
    go : (b : Bool) → test x ≡ b → (if b then Some x else find test xs) ≡ Some y → (find test xs ≡ Some y → AllByRecursion P xs → (test y ≡ true) × P y) → (test y ≡ true) × P y
    go true t e ih = let is : x ≡ y = cc (e) in (subst (λ (z : A). test z ≡ true) is t, subst P is h.0)
    go false t e ih = ih e h.1

pub found_passes : {A : Type 0} (test : A → Bool) (xs : List A) (y : A) → find test xs ≡ Some y → test y ≡ true
found_passes {A = A} test xs y e = (found (λ (z : A). Unit {0}) test xs y e (all_any xs)).0

pub found_alike : {A : Type 0} (p q : A → Bool) (xs : List A) → ((x : A) → p x ≡ q x) → find p xs ≡ find q xs
found_alike p q [] f = refl
found_alike p q (x ∷ xs) f = let ih = found_alike p q xs f in let e = f x in grind (arith, ih, e)

-- the same where each item of the list is tested alike
pub found_same : {A : Type 0} (p q : A → Bool) (xs : List A) → AllByRecursion (λ x. p x ≡ q x) xs → find p xs ≡ find q xs
found_same p q [] h = refl
found_same p q (x ∷ xs) h = let ih = found_same p q xs h.1 in let e = h.0 in grind (arith, ih, e)

pub found_changed : {A : Type 0} (p : A → Bool) (f : A → A) (xs : List A) → ((x : A) → p (f x) ≡ p x) → find p (map f xs) ≡ option_map f (find p xs)
found_changed p f [] g = refl
found_changed p f (x ∷ xs) g = let ih = found_changed p f xs g in let e = g x in grind (arith, ih, e)

pub none_at : {A : Type 0} (p : A → Bool) (xs : List A) (d : A) (i : ℕ) → list_any p xs ≡ false → i < length xs → p (get_or xs i d) ≡ false
none_at p [] d i h lt = absurd (omega arith)
none_at p (x ∷ xs) d zero h lt = grind (arith, h)
none_at p (x ∷ xs) d (suc i) h lt = none_at p xs d i (grind (arith, h)) (omega arith)

-- a test that no item passes, and another that asks for more
pub none_either : {A : Type 0} (p q : A → Bool) (xs : List A) → list_any p xs ≡ false → ((x : A) → q x ≡ true → p x ≡ true) → list_any q xs ≡ false
none_either p q [] h f = refl
none_either p q (x ∷ xs) h f = go (q x) refl (none_either p q xs (grind (arith, h)) f)
  where
    go : (b : Bool) → q x ≡ b → list_any q xs ≡ false → (b || list_any q xs) ≡ false
    go true e ih = let t = f x e in absurd (grind (arith, h, t))
    go false e ih = ih

-- Members

pub none_of_members : (f : ℕ → Bool) (ms : List ℕ) (r : ℕ) → list_any f ms ≡ false → has_rank ms r ≡ true → f r ≡ false
none_of_members f [] r h m = absurd (cc (m))
none_of_members f (x ∷ xs) r h m = go (x == r) refl (none_of_members f xs r)
  where
    go : (b : Bool) → (x == r) ≡ b → (list_any f xs ≡ false → has_rank xs r ≡ true → f r ≡ false) → f r ≡ false
    go true e ih = let is : x ≡ r = grind (arith, nat_tests, e) in subst (λ (i : ℕ). f i ≡ false) is (grind (arith, h))
    go false e ih = ih (grind (arith, h)) (grind (arith, m, e))

pub position_cons : {A : Type 0} (p : A → Bool) (x : A) (xs : List A) → position p (x ∷ xs) ≡ (if p x then Some 0 else option_map suc (position p xs))
position_cons p x xs = grind (arith, nat_tests)

-- where a member stands
pub member_place : (ms : List ℕ) (r : ℕ) → has_rank ms r ≡ true → (i : ℕ) × (position (λ m. m == r) ms ≡ Some i)
member_place [] r h = absurd (cc (h))
member_place (m ∷ ms) r h = rw (position_cons (λ z. z == r) m ms) (go (m == r) refl (member_place ms r))
  where
    go : (b : Bool) → (m == r) ≡ b → (has_rank ms r ≡ true → (i : ℕ) × (position (λ z. z == r) ms ≡ Some i)) → (i : ℕ) × ((if b then Some 0 else option_map suc (position (λ z. z == r) ms)) ≡ Some i)
    go true e ih = (0, refl)
    go false e ih = let k = ih (grind (arith, h, e)) in (suc k.0, ap (option_map suc) k.1)
