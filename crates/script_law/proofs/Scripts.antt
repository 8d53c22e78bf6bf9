-- How far a script is called: what is called of it, and what is left.
use Rattle.std.proofs.Common.{◌≡◌, ◌+◌, ℕ, zero, suc, List, [], ◌∷◌, ◌++◌, length, take, drop, slice_get, Some, None, refl, sym, ap, ◌∙◌, arith, append_assoc, append-nil, length-append}
use Rattle.std.proofs.lemmas.List.{take_at}

-- from one count to another these operations of a script are called
pub record Advances {A : Type 0} (script : List A) (old new : ℕ) (called : List A) : Type 0 where
  pub count : new ≡ old + length called
  pub rest : called ++ drop new script ≡ drop old script

drop_at : {A : Type 0} (xs : List A) (n : ℕ) (x : A) → slice_get xs n ≡ Some x → drop n xs ≡ x ∷ drop (n + 1) xs
drop_at [] n x e = absurd (cc (e))
drop_at (y ∷ ys) zero x e = let is : y ≡ x = cc (e) in ap (λ z. z ∷ ys) is
drop_at (y ∷ ys) (suc n) x e = let one : suc (n + 1) ≡ suc n + 1 = omega arith in drop_at ys n x e ∙ ap (λ (m : ℕ). x ∷ drop m (y ∷ ys)) one

drop_past : {A : Type 0} (xs : List A) (n : ℕ) → slice_get xs n ≡ None → drop n xs ≡ []
drop_past [] zero e = refl
drop_past [] (suc n) e = refl
drop_past (y ∷ ys) zero e = absurd (cc (e))
drop_past (y ∷ ys) (suc n) e = drop_past ys n e

module _ {A : Type 0} (script : List A) where
  pub advances_none : (old new : ℕ) → new ≡ old → Advances script old new []
  advances_none old new e = record { count = omega (arith, e); rest = ap (λ (n : ℕ). drop n script) e }

  pub advances_one : (old new : ℕ) (x : A) → slice_get script old ≡ Some x → new ≡ old + 1 → Advances script old new (x ∷ [])
  advances_one old new x at e = record { count = omega (arith, e); rest = ap (λ (n : ℕ). x ∷ drop n script) e ∙ sym (drop_at script old x at) }

  pub advances_on : (a b c : ℕ) (xs ys : List A) → Advances script a b xs → Advances script b c ys → Advances script a c (xs ++ ys)
  advances_on a b c xs ys f g =
      record {
        count = let m = f.count in let n = g.count in let l = length-append xs ys in omega (arith, m, n, l);
        rest = append_assoc xs ys (drop c script) ∙ (ap (λ (zs : List A). xs ++ zs) g.rest ∙ f.rest);
      }

  -- from the start, what is called is the beginning
  pub advances_taken : (n : ℕ) (xs : List A) → Advances script 0 n xs → xs ≡ take n script
  advances_taken n xs h = sym (take_at xs (drop n script) n (let e = h.count in omega (arith, e))) ∙ ap (λ (ys : List A). take n ys) h.rest

  -- and where nothing is next, the whole
  pub advances_whole : (n : ℕ) (xs : List A) → Advances script 0 n xs → slice_get script n ≡ None → xs ≡ script
  advances_whole n xs h e = sym (append-nil xs) ∙ (ap (λ (ys : List A). xs ++ ys) (sym (drop_past script n e)) ∙ h.rest)
