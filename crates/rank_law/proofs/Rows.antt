-- What holds of each row holds of the rows that are changed, and of the one that is found.
use Rattle.std.proofs.Common.{◌≡◌, ℕ, zero, suc, Bool, true, false, if◌then◌else◌, List, [], ◌∷◌, map, get_or, Some, subst}
use Rattle.std.specs.Prelude.{All, find}
use Rattle.std.proofs.lemmas.List.Elements.{All-head, All-tail, All-map, All-weaker}

module _ {A : Type 0} (P : A → Type 0) where
  -- the rows that pass a test, changed
  pub All-changed : (Q : A → Type 0) (test : A → Bool) (f : A → A) (xs : List A) → ((x : A) → P x → Q (f x)) → ((x : A) → P x → Q x) → All P xs → All Q (map (λ x. if test x then f x else x) xs)
  All-changed Q test f xs new old h = All-map Q (λ x. if test x then f x else x) xs (All-weaker P (λ x. Q (if test x then f x else x)) (λ x p. go x p (test x)) xs h)
    where
      go : (x : A) → P x → (b : Bool) → Q (if b then f x else x)
      go x p true = new x p
      go x p false = old x p

  -- the row at a place, where there is one
  pub All-get : (xs : List A) (i : ℕ) (d : A) → P d → All P xs → P (get_or xs i d)
  All-get [] i d p h = p
  All-get (x ∷ xs) zero d p h = All-head P x xs h
  All-get (x ∷ xs) (suc i) d p h = All-get xs i d p (All-tail P x xs h)

  -- the first row that passes a test
  pub All-find : (test : A → Bool) (xs : List A) (z : A) → find test xs ≡ Some z → All P xs → P z
  All-find test [] z e h = absurd (cc (e))
  All-find test (x ∷ xs) z e h = go (test x) e (λ u. All-find test xs z u (All-tail P x xs h))
    where
      go : (b : Bool) → (if b then Some x else find test xs) ≡ Some z → (find test xs ≡ Some z → P z) → P z
      go true e ih = subst P (cc (e)) (All-head P x xs h)
      go false e ih = ih e
