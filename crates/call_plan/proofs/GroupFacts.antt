-- Groups and the ranks in them.
use Rattle.std.proofs.Common.{◌≡◌, ℕ, ◌==◌, Bool, not, List, [], ◌∷◌, length, refl, arith}
use Rattle.std.specs.Prelude.{is_none, filter, position}
use Rattle.std.specs.List.{list_all}
use Rattle.std.proofs.lemmas.Bool.Decides.{nat_tests}
use Rattle.mpi_base.specs.MemberLists.{has_rank}

-- a rank without a place in a list is not in it
pub no_place : (members : List ℕ) (rank : ℕ) → is_none (position (λ m. m == rank) members) ≡ not (has_rank members rank)
no_place [] rank = refl
no_place (m ∷ ms) rank = let ih = no_place ms rank in grind (arith, nat_tests, ih)

-- no item fails exactly where all pass
pub none_fail : (p : ℕ → Bool) (xs : List ℕ) → (length (filter (λ x. not (p x)) xs) == 0) ≡ list_all p xs
none_fail p [] = refl
none_fail p (x ∷ xs) = let ih = none_fail p xs in grind (arith, nat_tests, ih)
