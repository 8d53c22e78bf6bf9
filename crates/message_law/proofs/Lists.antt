-- The first item of a list that passes a test, and the list without it.
use Rattle.std.proofs.Common.{◌≡◌, Bool, true, false, List, [], ◌∷◌, ◌++◌, Some, None, refl, arith, map, filter}
use Rattle.std.specs.Prelude.{find}
use Rattle.std.specs.List.{list_any}
use Rattle.std.specs.Option.{option_map}
use Rattle.match_law.specs.Box.{without_first}
use Rattle.agree_law.proofs.Lists.{AllOf}

pub filter-append : {A : Type 0} (p : A → Bool) (xs ys : List A) → filter p (xs ++ ys) ≡ filter p xs ++ filter p ys
filter-append p [] ys = refl
filter-append p (x ∷ xs) ys = let ih = filter-append p xs ys in grind (arith, ih)

pub any-append : {A : Type 0} (p : A → Bool) (xs ys : List A) → list_any p xs ≡ false → list_any p ys ≡ false → list_any p (xs ++ ys) ≡ false
any-append p [] ys e f = f
any-append p (x ∷ xs) ys e f = let ih = any-append p xs ys in grind (arith, ih, e, f)

pub any-filter : {A : Type 0} (p q : A → Bool) (xs : List A) → list_any p xs ≡ false → list_any p (filter q xs) ≡ false
any-filter p q [] e = refl
any-filter p q (x ∷ xs) e = let ih = any-filter p q xs in grind (arith, ih, e)

pub any-without : {A : Type 0} (p q : A → Bool) (xs : List A) → list_any p xs ≡ false → list_any p (without_first q xs) ≡ false
any-without p q [] e = refl
any-without p q (x ∷ xs) e = let ih = any-without p q xs in grind (arith, ih, e)

-- a test that implies another
pub any_less : {A : Type 0} (p q : A → Bool) (xs : List A) → ((x : A) → p x ≡ true → q x ≡ true) → list_any q xs ≡ false → list_any p xs ≡ false
any_less p q [] f e = refl
any_less p q (x ∷ xs) f e = let ih = any_less p q xs f in let g = f x in grind (arith, ih, g, e)

pub find-append_none : {A : Type 0} (p : A → Bool) (xs ys : List A) → list_any p xs ≡ false → find p (xs ++ ys) ≡ find p ys
find-append_none p [] ys n = refl
find-append_none p (x ∷ xs) ys n = let ih = find-append_none p xs ys in grind (arith, ih, n)

pub find-append_some : {A : Type 0} (p : A → Bool) (xs ys : List A) (m : A) → find p xs ≡ Some m → find p (xs ++ ys) ≡ Some m
find-append_some p [] ys m e = absurd (cc)
find-append_some p (x ∷ xs) ys m e = let ih = find-append_some p xs ys m in grind (arith, ih, e)

pub without-append_none : {A : Type 0} (p : A → Bool) (xs ys : List A) → list_any p xs ≡ false → without_first p (xs ++ ys) ≡ xs ++ without_first p ys
without-append_none p [] ys n = refl
without-append_none p (x ∷ xs) ys n = let ih = without-append_none p xs ys in grind (arith, ih, n)

pub without-append_some : {A : Type 0} (p : A → Bool) (xs ys : List A) (m : A) → find p xs ≡ Some m → without_first p (xs ++ ys) ≡ without_first p xs ++ ys
without-append_some p [] ys m e = absurd (cc)
without-append_some p (x ∷ xs) ys m e = let ih = without-append_some p xs ys m in grind (arith, ih, e)

pub find_none : {A : Type 0} (p : A → Bool) (xs : List A) → find p xs ≡ None → list_any p xs ≡ false
find_none p [] e = refl
find_none p (x ∷ xs) e = let ih = find_none p xs in grind (arith, ih, e)

pub find_passes : {A : Type 0} (p : A → Bool) (xs : List A) (m : A) → find p xs ≡ Some m → p m ≡ true
find_passes p [] m e = absurd (cc)
find_passes p (x ∷ xs) m e = let ih = find_passes p xs m in grind (arith, ih, e)

-- of what passes no test, nothing that is found passes it
pub find_apart : {A : Type 0} (p q : A → Bool) (xs : List A) (m : A) → list_any p xs ≡ false → find q xs ≡ Some m → p m ≡ false
find_apart p q [] m e f = absurd (cc)
find_apart p q (x ∷ xs) m e f = let ih = find_apart p q xs m in grind (arith, ih, e, f)

pub find_has : {A : Type 0} (P : A → Type 0) (q : A → Bool) (xs : List A) (m : A) → AllOf P xs → find q xs ≡ Some m → P m
find_has P q [] m h e = absurd (cc)
find_has P q (x ∷ xs) m h e = go (q x) refl (find_has P q xs m h.1)
  where
    go : (b : Bool) → q x ≡ b → (find q xs ≡ Some m → P m) → P m
    go true t ih = let is : x ≡ m = grind (arith, t, e) in rw (← is) h.0
    go false t ih = ih (grind (arith, t, e))

-- the first that passes is kept by another test
pub find-filter : {A : Type 0} (p q : A → Bool) (xs : List A) (m : A) → find p xs ≡ Some m → q m ≡ true → find p (filter q xs) ≡ Some m
find-filter p q [] m e f = absurd (cc)
find-filter p q (x ∷ xs) m e f = let ih = find-filter p q xs m in grind (arith, ih, e, f)

pub filter-without_same : {A : Type 0} (p q : A → Bool) (xs : List A) (m : A) → find p xs ≡ Some m → q m ≡ true → filter q (without_first p xs) ≡ without_first p (filter q xs)
filter-without_same p q [] m e f = absurd (cc)
filter-without_same p q (x ∷ xs) m e f = let ih = filter-without_same p q xs m in grind (arith, ih, e, f)

pub filter-without_apart : {A : Type 0} (p q : A → Bool) (xs : List A) (m : A) → find p xs ≡ Some m → q m ≡ false → filter q (without_first p xs) ≡ filter q xs
filter-without_apart p q [] m e f = absurd (cc)
filter-without_apart p q (x ∷ xs) m e f = let ih = filter-without_apart p q xs m in grind (arith, ih, e, f)

-- Lists seen through a function, with a test that tells the same

pub record FoundOf {A B : Type 0} (f : A → B) (q : A → Bool) (xs : List A) (y : B) : Type 0 where
  pub item : A
  pub first : find q xs ≡ Some item
  pub is : f item ≡ y

pub find-map : {A B : Type 0} (f : A → B) (p : B → Bool) (q : A → Bool) (xs : List A) (y : B) → AllOf (λ x. p (f x) ≡ q x) xs → find p (map f xs) ≡ Some y → FoundOf f q xs y
find-map f p q [] y h e = absurd (cc)
find-map f p q (x ∷ xs) y h e = go (p (f x)) refl (find-map f p q xs y h.1)
  where
    go : (b : Bool) → p (f x) ≡ b → (find p (map f xs) ≡ Some y → FoundOf f q xs y) → FoundOf f q (x ∷ xs) y
    go true t ih = let s = h.0 in record { item = x; first = grind (arith, t, s); is = grind (arith, t, e) }
    go false t ih =
        let s = h.0 in
        let r = ih (grind (arith, t, e)) in
        let there = r.first in
        record { item = r.item; first = grind (arith, t, s, there); is = r.is }

pub without-map : {A B : Type 0} (f : A → B) (p : B → Bool) (q : A → Bool) (xs : List A) → AllOf (λ x. p (f x) ≡ q x) xs → map f (without_first q xs) ≡ without_first p (map f xs)
without-map f p q [] h = refl
without-map f p q (x ∷ xs) h = let s = h.0 in let ih = without-map f p q xs h.1 in grind (arith, s, ih)

pub filter-map : {A B : Type 0} (f : A → B) (p : B → Bool) (q : A → Bool) (xs : List A) → AllOf (λ x. p (f x) ≡ q x) xs → map f (filter q xs) ≡ filter p (map f xs)
filter-map f p q [] h = refl
filter-map f p q (x ∷ xs) h = let s = h.0 in let ih = filter-map f p q xs h.1 in grind (arith, s, ih)

pub find_same : {A : Type 0} (p q : A → Bool) (xs : List A) → AllOf (λ x. p x ≡ q x) xs → find p xs ≡ find q xs
find_same p q [] h = refl
find_same p q (x ∷ xs) h = let s = h.0 in let ih = find_same p q xs h.1 in grind (arith, s, ih)

-- items changed so that a test tells the same
pub find_changed : {A : Type 0} (f : A → A) (p : A → Bool) (xs : List A) → ((x : A) → p (f x) ≡ p x) → find p (map f xs) ≡ option_map f (find p xs)
find_changed f p [] h = refl
find_changed f p (x ∷ xs) h = let s = h x in let ih = find_changed f p xs h in grind (arith, s, ih)

pub AllOf_changed : {A : Type 0} (P : A → Type 0) (f : A → A) (xs : List A) → ((x : A) → P x → P (f x)) → AllOf P xs → AllOf P (map f xs)
AllOf_changed P f [] g h = tt
AllOf_changed P f (x ∷ xs) g h = (g x h.0, AllOf_changed P f xs g h.1)

-- one item more, which does not pass
pub find-snoc_other : {A : Type 0} (p : A → Bool) (xs : List A) (y : A) → p y ≡ false → find p (xs ++ y ∷ []) ≡ find p xs
find-snoc_other p [] y e = grind (arith, e)
find-snoc_other p (x ∷ xs) y e = let ih = find-snoc_other p xs y in grind (arith, ih, e)
