-- What is said of a list, said by the elements at the places of those that pass a test, and the places after a change.
use Rattle.std.proofs.Common.{◌≡◌, ℕ, zero, suc, Bool, true, false, not, if◌then◌else◌, List, [], ◌∷◌, ◌++◌, length, filter, get_or, slice_get, Some, None, refl, sym, ap, ◌∙◌, arith}
use Rattle.std.specs.List.{list_all, list_any}
use Rattle.central_comms.specs.Places.{places_where}
use Rattle.central_comms.proofs.PlaceFacts.{places-push, any_at_places, count_at_places}

-- One element

pub read_none : {A : Type 0} (xs : List A) (k : ℕ) (d : A) → slice_get xs k ≡ None → get_or xs k d ≡ d
read_none [] k d none = refl
read_none (x ∷ xs) zero d none = absurd (cc (none))
read_none (x ∷ xs) (suc k) d none = read_none xs k d none

pub read_some : {A : Type 0} (xs : List A) (k : ℕ) (d x : A) → slice_get xs k ≡ Some x → get_or xs k d ≡ x
read_some [] k d x some = absurd (cc (some))
read_some (y ∷ xs) zero d x some = cc (some)
read_some (y ∷ xs) (suc k) d x some = read_some xs k d x some

-- All elements

pub none_passes : {A : Type 0} (p : A → Bool) (xs : List A) → ((x : A) → p x ≡ false) → list_any p xs ≡ false
none_passes p [] none = refl
none_passes p (x ∷ xs) none = let here = none x in let later = none_passes p xs none in grind (arith, here, later)

pub all_fail : {A : Type 0} (p : A → Bool) (xs : List A) → not (list_any p xs) ≡ list_all (λ x. not (p x)) xs
all_fail p [] = refl
all_fail p (x ∷ xs) = let later = all_fail p xs in grind (arith, later)

module _ {A : Type 0} (blank : A) (test : A → Bool) where
  -- rows that are the elements, and the places of those that pass
  module _ (p : A → Bool) (only : (x : A) → test x ≡ false → p x ≡ false) (rows xs : List A) (places : List ℕ) (same : rows ≡ xs) (here : places ≡ places_where test xs) where
    pub any_walked : list_any (λ k. p (get_or rows k blank)) places ≡ list_any p xs
    any_walked = ap (λ ys. list_any (λ k. p (get_or ys k blank)) places) same ∙ ap (λ ks. list_any (λ k. p (get_or xs k blank)) ks) here ∙ any_at_places blank test p only xs

    pub count_walked : length (filter (λ k. p (get_or rows k blank)) places) ≡ length (filter p xs)
    count_walked = ap (λ ys. length (filter (λ k. p (get_or ys k blank)) places)) same ∙ ap (λ ks. length (filter (λ k. p (get_or xs k blank)) ks)) here ∙ count_at_places blank test p only xs

  -- with one element more, which passes
  pub places_pushed : (xs new : List A) (x : A) (places held : List ℕ) → test x ≡ true → new ≡ xs ++ x ∷ [] → held ≡ places_where test xs
      → places ≡ held ++ length xs ∷ [] → places ≡ places_where test new
  places_pushed xs new x places held on more was is =
      is ∙ ap (λ ks. ks ++ length xs ∷ []) was
      ∙ ap (λ b. places_where test xs ++ (if b then length xs ∷ [] else [])) (sym on)
      ∙ sym (places-push test xs x)
      ∙ ap (λ ys. places_where test ys) (sym more)
