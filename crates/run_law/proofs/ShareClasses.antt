-- The shares of all that have called a split: the class that a rank derives from them is the registry's.
use Rattle.std.proofs.Common.{◌≡◌, ◌<◌, ℕ, zero, suc, ℤ, ◌==◌, if◌then◌else◌, Bool, true, false, List, [], ◌∷◌, length, map, filter, slice_get, Option, Some, None, refl, sym, ap, ◌∙◌, subst, arith}
use Rattle.std.specs.Prelude.{int_lt}
use Rattle.std.proofs.lemmas.Cmp.{int_eq_equiv}
use Rattle.std.proofs.lemmas.Bool.Decides.{nat_tests}
use Rattle.mpi_base.specs.MemberLists.{has_rank}
use Rattle.mpi_base.specs.declared.shares.Shared1.{Shared1}
use Rattle.mpi_law.specs.Splits.{has_colour, put_in, by_key, split_class}
use Rattle.mpi_law.specs.Registry.State.{Creation}
use Rattle.mpi_law.specs.Registry.Creations.{all_called, share_of}
use Rattle.agree_law.specs.Classes.{Mate, mate_in, is_colour, mates_of, class_of}
use Rattle.agree_law.specs.Tree.{place_in, member_at}
use Rattle.agree_law.proofs.TreeFacts.{member_place}
use Rattle.run_law.proofs.Classes.{by_key_has}

-- a list is the shares of all that call a creation, in order, and all have called it
pub record SharesOf (c : Creation) (list : List Shared1) : Type 0 where
  pub all : all_called c ≡ true
  pub are : list ≡ map (share_of c) c.group

-- the share of a member stands at the member's place
pub item_in : (f : ℕ → Shared1) (ms : List ℕ) (i : ℕ) → i < length ms → slice_get (map f ms) i ≡ Some (f (member_at ms i))
item_in f [] i lt = absurd (omega arith)
item_in f (m ∷ ms) zero lt = refl
item_in f (m ∷ ms) (suc i) lt = item_in f ms i (omega (arith, lt))

pub item_at : (f : ℕ → Shared1) (ms : List ℕ) (q : ℕ) → has_rank ms q ≡ true → slice_get (map f ms) (place_in ms q) ≡ Some (f q)
item_at f ms q h = let p = member_place ms q h in item_in f ms (place_in ms q) p.0 ∙ ap (λ (z : ℕ). Some (f z)) p.1

-- Classes

-- a member with its key in the class
abbrev mate : (ℕ → Shared1) → ℕ → Mate
mate f m = record { key = (f m).key; rank = m }

mates_in : (f : ℕ → Shared1) (m : ℕ) (xs : List ℕ) → mate_in (mate f m) (map (mate f) xs) ≡ map (mate f) (put_in f m xs)
mates_in f m [] = refl
mates_in f m (x ∷ xs) = go (int_lt (f x).key (f m).key) (mates_in f m xs)
  where
    go : (b : Bool) → mate_in (mate f m) (map (mate f) xs) ≡ map (mate f) (put_in f m xs) → (if b then mate f x ∷ mate_in (mate f m) (map (mate f) xs) else mate f m ∷ mate f x ∷ map (mate f) xs) ≡ map (mate f) (if b then x ∷ put_in f m xs else m ∷ x ∷ xs)
    go true ih = ap (λ (ys : List Mate). mate f x ∷ ys) ih
    go false ih = refl

same_colour : (o : Option ℤ) (k : ℤ) → is_colour o (Some k) ≡ has_colour k o
same_colour None k = refl
same_colour (Some a) k = refl

mates_are : (f : ℕ → Shared1) (k : ℤ) (ms : List ℕ) → mates_of (Some k) ms (map f ms) ≡ map (mate f) (by_key f (filter (λ m. has_colour k (f m).colour) ms))
mates_are f k [] = refl
mates_are f k (m ∷ ms) = rw (same_colour (f m).colour k) (go (has_colour k (f m).colour) (mates_are f k ms))
  where
    go : (b : Bool) → mates_of (Some k) ms (map f ms) ≡ map (mate f) (by_key f (filter (λ m. has_colour k (f m).colour) ms))
        → (if b then mate_in (mate f m) (mates_of (Some k) ms (map f ms)) else mates_of (Some k) ms (map f ms)) ≡ map (mate f) (by_key f (if b then m ∷ filter (λ m. has_colour k (f m).colour) ms else filter (λ m. has_colour k (f m).colour) ms))
    go true ih = ap (mate_in (mate f m)) ih ∙ mates_in f m (by_key f (filter (λ m. has_colour k (f m).colour) ms))
    go false ih = ih

ranks_of : (f : ℕ → Shared1) (xs : List ℕ) → map (λ (y : Mate). y.rank) (map (mate f) xs) ≡ xs
ranks_of f [] = refl
ranks_of f (x ∷ xs) = ap (λ (ys : List ℕ). x ∷ ys) (ranks_of f xs)

pub classes_agree : (f : ℕ → Shared1) (k : ℤ) (ms : List ℕ) → class_of (Some k) ms (map f ms) ≡ split_class f ms k
unfolding class_of split_class
classes_agree f k ms = ap (λ (ys : List Mate). map (λ (y : Mate). y.rank) ys) (mates_are f k ms) ∙ ranks_of f (by_key f (filter (λ m. has_colour k (f m).colour) ms))

-- a member is in the class of its colour
pub in_class : (f : ℕ → Shared1) (k : ℤ) (ms : List ℕ) (q : ℕ) → has_rank ms q ≡ true → (f q).colour ≡ Some k → has_rank (split_class f ms k) q ≡ true
unfolding split_class
in_class f k ms q h e = by_key_has f (filter (λ m. has_colour k (f m).colour) ms) q ∙ kept ms h
  where
    own : has_colour k (f q).colour ≡ true
    own = rw e (int_eq_equiv.refl k)

    kept : (xs : List ℕ) → has_rank xs q ≡ true → has_rank (filter (λ m. has_colour k (f m).colour) xs) q ≡ true
    kept [] h = absurd (cc (h))
    kept (x ∷ xs) h = go (x == q) refl (has_colour k (f x).colour) refl (kept xs)
      where
        go : (b : Bool) → (x == q) ≡ b → (c : Bool) → has_colour k (f x).colour ≡ c → (has_rank xs q ≡ true → has_rank (filter (λ m. has_colour k (f m).colour) xs) q ≡ true) → has_rank (if c then x ∷ filter (λ m. has_colour k (f m).colour) xs else filter (λ m. has_colour k (f m).colour) xs) q ≡ true
        go true t true u ih = grind (arith, t)
        go true t false u ih =
            let is : x ≡ q = grind (arith, nat_tests, t) in
            let o : has_colour k (f x).colour ≡ true = subst (λ (z : ℕ). has_colour k (f z).colour ≡ true) (sym is) own in
            absurd (cc (o, u))
        go false t true u ih = let z = ih (grind (arith, h, t)) in grind (arith, z)
        go false t false u ih = ih (grind (arith, h, t))
