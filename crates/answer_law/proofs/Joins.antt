-- What a call that joins a creation, or opens one, leaves of the creation at each place.
use Rattle.std.proofs.Common.{◌≡◌, ℕ, zero, suc, ◌==◌, ◌||◌, if◌then◌else◌, Bool, true, false, List, [], ◌∷◌, ◌++◌, get_or, refl, arith}
use Rattle.std.specs.List.{list_any}
use Rattle.std.proofs.lemmas.Bool.Decides.{nat_tests}
use Rattle.mpi_base.proofs.KeyFacts.{same_bytes}
use Rattle.mpi_law.specs.Registry.State.{Caller, Creation, CreationName, Group_and_tag, Nth_dup, Nth_split, Group_on, blank_creation}
use Rattle.mpi_law.specs.Registry.Creations.{same_name, has_called, is_joinable, place_where, with_caller, join}

abbrev pub row : List Creation → ℕ → Creation
row cs m = get_or cs m blank_creation

abbrev pub opened_row : CreationName → List ℕ → Caller → Creation
opened_row name group k = record { name = name; group = group; callers = k ∷ []; picks = []; answered = [] }

pub data JoinedAt (cs new : List Creation) (name : CreationName) (group : List ℕ) (k : Caller) (m : ℕ) : Type 0 where
  stays : row new m ≡ row cs m → JoinedAt cs new name group k m
  joined : is_joinable name (row cs m) ≡ true → row new m ≡ with_caller (row cs m) k → JoinedAt cs new name group k m
  opened : row cs m ≡ blank_creation → row new m ≡ opened_row name group k → JoinedAt cs new name group k m

pub joined_at : (cs : List Creation) (name : CreationName) (group : List ℕ) (k : Caller) (m : ℕ) → JoinedAt cs (join cs name group k) name group k m
joined_at [] name group k zero = opened refl refl
joined_at [] name group k (suc m) = stays refl
joined_at (c ∷ cs) name group k m = go (is_joinable name c) refl m (λ i. joined_at cs name group k i)
  where
    up : (i : ℕ) → JoinedAt cs (join cs name group k) name group k i → JoinedAt (c ∷ cs) (c ∷ join cs name group k) name group k (suc i)
    up i (stays e) = stays e
    up i (joined j e) = joined j e
    up i (opened b e) = opened b e

    go : (b : Bool) → is_joinable name c ≡ b → (m : ℕ) → ((i : ℕ) → JoinedAt cs (join cs name group k) name group k i) → JoinedAt (c ∷ cs) (if b then with_caller c k ∷ cs else c ∷ join cs name group k) name group k m
    go true e zero ih = joined e refl
    go true e (suc i) ih = stays refl
    go false e zero ih = stays refl
    go false e (suc i) ih = up i (ih i)

-- The creation that is joined has the name, and the caller

pub same_name_is : (a b : CreationName) → same_name a b ≡ true → a ≡ b
same_name_is (Group_and_tag g t) (Group_and_tag h u) e = let x = same_bytes g h (grind (arith, e)) in let y = same_bytes t u (grind (arith, e)) in cc (x, y)
same_name_is (Nth_dup p n) (Nth_dup q m) e = let x : p ≡ q = grind (arith, nat_tests, e) in let y : n ≡ m = grind (arith, nat_tests, e) in cc (x, y)
same_name_is (Nth_split p n) (Nth_split q m) e = let x : p ≡ q = grind (arith, nat_tests, e) in let y : n ≡ m = grind (arith, nat_tests, e) in cc (x, y)
same_name_is (Group_on p t g) (Group_on q u h) e =
    let x : p ≡ q = grind (arith, nat_tests, e) in
    let y : t ≡ u = grind (arith, nat_tests, e) in
    let z = same_bytes g h (grind (arith, e)) in
    cc (x, y, z)
same_name_is a b e = absurd (cc (e))

-- who has called goes on to have called, and who calls has called
pub called_more : (ks : List Caller) (k : Caller) (r : ℕ) → list_any (λ (z : Caller). z.rank == r) (ks ++ k ∷ []) ≡ (list_any (λ (z : Caller). z.rank == r) ks || (k.rank == r))
called_more [] k r = grind (arith)
called_more (z ∷ zs) k r = let ih = called_more zs k r in grind (arith, ih)

own_call : (ks : List Caller) (k : Caller) → list_any (λ (z : Caller). z.rank == k.rank) (ks ++ k ∷ []) ≡ true
own_call ks k = let e = called_more ks k k.rank in grind (arith, nat_tests, e)

pub record JoinedPlace (k : Caller) (name : CreationName) (c : Creation) : Type 0 where
  pub called : has_called c k.rank ≡ true
  pub name_is : c.name ≡ name

pub joined_place : (cs : List Creation) (name : CreationName) (group : List ℕ) (k : Caller) → JoinedPlace k name (row (join cs name group k) (place_where (is_joinable name) cs))
joined_place [] name group k = record { called = own_call [] k; name_is = refl }
joined_place (c ∷ cs) name group k = go (is_joinable name c) refl (joined_place cs name group k)
  where
    go : (b : Bool) → is_joinable name c ≡ b → JoinedPlace k name (row (join cs name group k) (place_where (is_joinable name) cs)) → JoinedPlace k name (row (if b then with_caller c k ∷ cs else c ∷ join cs name group k) (if b then 0 else suc (place_where (is_joinable name) cs)))
    go true e ih = record { called = own_call c.callers k; name_is = same_name_is c.name name (grind (arith, e)) }
    go false e ih = ih
