-- Lists in which one place changes, and tests of their items.
use Rattle.std.proofs.Common.{◌≡◌, ℕ, zero, suc, ◌&&◌, ◌||◌, Bool, true, false, List, [], ◌∷◌, get_or, set, refl, ap, ◌∙◌}
use Rattle.std.specs.List.{list_any, list_all}

-- what holds of a new item and of the old ones holds at each place
pub at_set : {A : Type 0} (P : A → Type 0) (xs : List A) (i : ℕ) (y d : A) (j : ℕ) → P y → P (get_or xs j d) → P (get_or (set xs i y) j d)
at_set P [] i y d j new old = old
at_set P (x ∷ xs) zero y d zero new old = new
at_set P (x ∷ xs) zero y d (suc j) new old = old
at_set P (x ∷ xs) (suc i) y d zero new old = old
at_set P (x ∷ xs) (suc i) y d (suc j) new old = at_set P xs i y d j new old

-- one place is set, and set again from what is there then
pub set_again : {A : Type 0} (f : A → A) (xs : List A) (i : ℕ) (y d : A) → set (set xs i y) i (f (get_or (set xs i y) i d)) ≡ set xs i (f y)
set_again f [] i y d = refl
set_again f (x ∷ xs) zero y d = refl
set_again {A = A} f (x ∷ xs) (suc i) y d = ap (λ (ys : List A). x ∷ ys) (set_again f xs i y d)

pub first_of_two : (a b : Bool) → (a && b) ≡ true → a ≡ true
first_of_two true b h = refl
first_of_two false b h = absurd (cc (h))

pub second_of_two : (a b : Bool) → (a && b) ≡ true → b ≡ true
second_of_two true b h = h
second_of_two false b h = absurd (cc (h))

pub two : (a b : Bool) → a ≡ true → b ≡ true → (a && b) ≡ true
two true b h k = k
two false b h k = absurd (cc (h))

-- what all items pass, each passes, and so does the list with another item that passes
pub all_at : {A : Type 0} (p : A → Bool) (xs : List A) (d : A) (i : ℕ) → list_all p xs ≡ true → p d ≡ true → p (get_or xs i d) ≡ true
all_at p [] d i h k = k
all_at p (x ∷ xs) d zero h k = first_of_two (p x) (list_all p xs) h
all_at p (x ∷ xs) d (suc i) h k = all_at p xs d i (second_of_two (p x) (list_all p xs) h) k

pub all_set : {A : Type 0} (p : A → Bool) (xs : List A) (i : ℕ) (y : A) → list_all p xs ≡ true → p y ≡ true → list_all p (set xs i y) ≡ true
all_set p [] i y h k = refl
all_set p (x ∷ xs) zero y h k = two (p y) (list_all p xs) k (second_of_two (p x) (list_all p xs) h)
all_set p (x ∷ xs) (suc i) y h k = two (p x) (list_all p (set xs i y)) (first_of_two (p x) (list_all p xs) h) (all_set p xs i y (second_of_two (p x) (list_all p xs) h) k)

-- two tests that agree on each item
pub any_alike : {A : Type 0} (p q : A → Bool) (xs : List A) → ((x : A) → p x ≡ q x) → list_any p xs ≡ list_any q xs
any_alike p q [] f = refl
any_alike p q (x ∷ xs) f = ap (λ (b : Bool). b || list_any p xs) (f x) ∙ ap (λ (b : Bool). q x || b) (any_alike p q xs f)
