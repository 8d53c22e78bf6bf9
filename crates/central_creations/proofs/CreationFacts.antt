-- The first creation that passes, and what a call joins.
use Rattle.std.proofs.Common.{◌≡◌, ℕ, suc, ◌+◌, ◌<◌, ◌≤◌, Bool, true, false, if◌then◌else◌, List, [], ◌∷◌, ◌++◌, length, get_or, set, position, Option, Some, None, option_map, unwrap_or, refl, ap, ◌∙◌, arith}
use Rattle.mpi_law.specs.Registry.State.{Caller, Creation, CreationName}
use Rattle.mpi_law.specs.Registry.Creations.{is_joinable, join, place_where, with_caller}
use Rattle.central_comms.proofs.PlaceFacts.{position-cons}

next_or : (o : Option ℕ) (n : ℕ) → unwrap_or (option_map (λ k. k + 1) o) (suc n) ≡ suc (unwrap_or o n)
next_or None n = refl
next_or (Some k) n = omega arith

module _ (test : Creation → Bool) where
  pub place_is : (cs : List Creation) → unwrap_or (position test cs) (length cs) ≡ place_where test cs
  place_is [] = refl
  place_is (c ∷ cs) = rw (position-cons test c cs) (go (test c) (next_or (position test cs) (length cs) ∙ ap suc (place_is cs)))
    where
      go : (b : Bool) → unwrap_or (option_map (λ k. k + 1) (position test cs)) (suc (length cs)) ≡ suc (place_where test cs)
          → unwrap_or (if b then Some 0 else option_map (λ k. k + 1) (position test cs)) (suc (length cs)) ≡ (if b then 0 else suc (place_where test cs))
      go true later = refl
      go false later = later

module _ (name : CreationName) (group : List ℕ) (k : Caller) where
  there : (cs : List Creation) (p : ℕ) → p ≡ place_where (is_joinable name) cs → p < length cs → (d : Creation) → set cs p (with_caller (get_or cs p d) k) ≡ join cs name group k
  there [] p is below d = absurd (omega (arith, below))
  there (c ∷ cs) p is below d = go (is_joinable name c) p is below (λ less. there cs (place_where (is_joinable name) cs) refl less d)
    where
      go : (b : Bool) (p : ℕ) → p ≡ (if b then 0 else suc (place_where (is_joinable name) cs)) → p < length (c ∷ cs)
          → (place_where (is_joinable name) cs < length cs → set cs (place_where (is_joinable name) cs) (with_caller (get_or cs (place_where (is_joinable name) cs) d) k) ≡ join cs name group k)
          → set (c ∷ cs) p (with_caller (get_or (c ∷ cs) p d) k) ≡ (if b then with_caller c k ∷ cs else c ∷ join cs name group k)
      go true p is below later = rw is refl
      go false p is below later = rw is (ap (λ (ds : List Creation). c ∷ ds) (later (omega (arith, is, below))))

  -- the creation that the call joins is there
  pub join_there : (cs : List Creation) (p : ℕ) (old new d : Creation) → p ≡ place_where (is_joinable name) cs → p < length cs → old ≡ get_or cs p d → new ≡ with_caller old k → set cs p new ≡ join cs name group k
  join_there cs p old new d is below was becomes = ap (λ c. set cs p c) (becomes ∙ ap (λ (c : Creation). with_caller c k) was) ∙ there cs p is below d

  -- it is not
  pub join_new : (cs : List Creation) → length cs ≤ place_where (is_joinable name) cs
      → cs ++ record { name = name; group = group; callers = k ∷ []; picks = []; answered = [] } ∷ [] ≡ join cs name group k
  join_new [] past = refl
  join_new (c ∷ cs) past = go (is_joinable name c) past (join_new cs)
    where
      go : (b : Bool) → length (c ∷ cs) ≤ (if b then 0 else suc (place_where (is_joinable name) cs))
          → (length cs ≤ place_where (is_joinable name) cs → cs ++ record { name = name; group = group; callers = k ∷ []; picks = []; answered = [] } ∷ [] ≡ join cs name group k)
          → (c ∷ cs) ++ record { name = name; group = group; callers = k ∷ []; picks = []; answered = [] } ∷ [] ≡ (if b then with_caller c k ∷ cs else c ∷ join cs name group k)
      go true past later = absurd (omega (arith, past))
      go false past later = ap (λ (ds : List Creation). c ∷ ds) (later (omega (arith, past)))
