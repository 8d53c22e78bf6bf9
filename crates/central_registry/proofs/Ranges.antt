-- Tests of all numbers below a length, and tests of a list's elements.
use Rattle.std.proofs.Common.{◌≡◌, ℕ, suc, ◌+◌, ◌||◌, Bool, List, [], ◌∷◌, length, get_or, refl, ap, sym, ◌∙◌, arith}
use Rattle.std.specs.List.{list_any, range_with_len}
use Rattle.mpi_law.specs.declared.setting.TheConstants.{THREADS}
use Rattle.mpi_law.specs.Registry.State.{Registry, Creation, created_by, idle_thread, part_of, thread_of}
use Rattle.mpi_law.specs.Registry.Creations.{creates, has_open}

module _ {A : Type 0} (p : A → Bool) (d : A) where
  -- the numbers from those of the elements before on
  any_from : (f : ℕ → A) (n : ℕ) (xs : List A) → ((i : ℕ) → get_or xs i d ≡ f (n + i)) → list_any (λ i. p (f i)) (range_with_len n (length xs)) ≡ list_any p xs
  any_from f n [] at = refl
  any_from f n (x ∷ xs) at =
      let here : f n ≡ x = sym (at 0 ∙ ap f (omega arith)) in
      let rest = any_from f (n + 1) xs (λ i. at (suc i) ∙ ap f (omega arith)) in
      ap (λ b. p b || list_any (λ i. p (f i)) (range_with_len (n + 1) (length xs))) here ∙ ap (λ b. p x || b) rest

  pub any_place : (xs : List A) → list_any (λ i. p (get_or xs i d)) (range_with_len 0 (length xs)) ≡ list_any p xs
  any_place xs = any_from (λ i. get_or xs i d) 0 xs (λ i. ap (λ k. get_or xs k d) (omega arith))

-- a creation is open at a rank, told by the numbers of its threads
pub open_here : (g : Registry) (r : ℕ) (test : Creation → Bool) → length (part_of g r).threads ≡ THREADS
    → list_any (λ t. creates g test (created_by (thread_of g r t).wait)) (range_with_len 0 THREADS) ≡ has_open g r test
open_here g r test many =
    ap (λ n. list_any (λ t. creates g test (created_by (thread_of g r t).wait)) (range_with_len 0 n)) (sym many)
    ∙ any_place (λ t. creates g test (created_by t.wait)) idle_thread (part_of g r).threads
