-- The members of a class are members of what is split.
use Rattle.std.proofs.Common.{◌≡◌, ℕ, ℤ, ◌==◌, ◌||◌, ◌&&◌, if◌then◌else◌, Bool, true, false, List, [], ◌∷◌, filter, Option, Some, None, refl, sym, ◌∙◌, subst, arith}
use Rattle.std.specs.List.{list_all, list_any}
use Rattle.std.specs.Option.{is_none}
use Rattle.std.specs.Prelude.{int_lt}
use Rattle.std.proofs.lemmas.Bool.Decides.{nat_tests}
use Rattle.mpi_base.specs.MemberLists.{has_rank}
use Rattle.mpi_base.specs.declared.shares.Shared1.{Shared1}
use Rattle.mpi_law.specs.Splits.{has_colour, put_in, by_key, split_class}
use Rattle.mpi_law.specs.Registry.State.{Creation}
use Rattle.mpi_law.specs.Registry.Creations.{is_split, share_of, is_uncoloured, class_by, class_of}

put_in_has : (f : ℕ → Shared1) (m : ℕ) (ms : List ℕ) (q : ℕ) → has_rank (put_in f m ms) q ≡ ((m == q) || has_rank ms q)
put_in_has f m [] q = grind (arith)
put_in_has f m (x ∷ xs) q = go (int_lt (f x).key (f m).key) (put_in_has f m xs q)
  where
    go : (b : Bool) → has_rank (put_in f m xs) q ≡ ((m == q) || has_rank xs q) → has_rank (if b then x ∷ put_in f m xs else m ∷ x ∷ xs) q ≡ ((m == q) || ((x == q) || has_rank xs q))
    go true ih = grind (arith, ih)
    go false ih = grind (arith)

pub by_key_has : (f : ℕ → Shared1) (ms : List ℕ) (q : ℕ) → has_rank (by_key f ms) q ≡ has_rank ms q
by_key_has f [] q = refl
by_key_has f (m ∷ ms) q = let ih = by_key_has f ms q in let p = put_in_has f m (by_key f ms) q in grind (arith, ih, p)

pub filter_has : (p : ℕ → Bool) (ms : List ℕ) (q : ℕ) → has_rank (filter p ms) q ≡ true → has_rank ms q ≡ true
filter_has p [] q h = h
filter_has p (m ∷ ms) q h = go (p m) h (filter_has p ms q)
  where
    go : (b : Bool) → has_rank (if b then m ∷ filter p ms else filter p ms) q ≡ true → (has_rank (filter p ms) q ≡ true → has_rank ms q ≡ true) → has_rank (m ∷ ms) q ≡ true
    go true h ih = at (m == q) refl
      where
        at : (b : Bool) → (m == q) ≡ b → has_rank (m ∷ ms) q ≡ true
        at true e = grind (arith, e)
        at false e = let k = ih (grind (arith, h, e)) in grind (arith, k)
    go false h ih = let k = ih h in grind (arith, k)

pub class_within : (c : Creation) (r q : ℕ) → has_rank (class_of c r) q ≡ true → has_rank c.group q ≡ true
unfolding split_class
class_within c r q h = go (is_split c.name) (share_of c r).colour h
  where
    go : (b : Bool) (o : Option ℤ) → has_rank (if b then class_by c o else c.group) q ≡ true → has_rank c.group q ≡ true
    go false o h = h
    go true None h = absurd (cc (h))
    go true (Some k) h = filter_has (λ m. has_colour k (share_of c m).colour) c.group q (sym (by_key_has (share_of c) (filter (λ m. has_colour k (share_of c m).colour) c.group) q) ∙ h)

-- a rank that gets members has a colour
pub coloured : (c : Creation) (r : ℕ) (ms : List ℕ) → class_of c r ≡ ms → has_rank ms r ≡ true → is_uncoloured c r ≡ false
coloured c r ms e m = go (is_split c.name) (share_of c r).colour e
  where
    go : (b : Bool) (o : Option ℤ) → (if b then class_by c o else c.group) ≡ ms → (b && is_none o) ≡ false
    go false o h = refl
    go true (Some z) h = refl
    go true None h = absurd (let z : has_rank [] r ≡ true = subst (λ (q : List ℕ). has_rank q r ≡ true) (sym h) m in cc (z))

-- what holds of each member
pub each_member : (f : ℕ → Bool) (ms : List ℕ) → ((q : ℕ) → has_rank ms q ≡ true → f q ≡ true) → list_all f ms ≡ true
each_member f [] h = refl
each_member f (m ∷ ms) h =
    let here = h m (grind (arith, nat_tests)) in
    let ih = each_member f ms (λ q k. h q (grind (arith, k))) in
    grind (arith, here, ih)

-- what fails for one member does not hold of all
pub not_all : (f : ℕ → Bool) (ms : List ℕ) (q : ℕ) → has_rank ms q ≡ true → f q ≡ false → list_all f ms ≡ false
not_all f [] q h k = absurd (cc (h))
not_all f (m ∷ ms) q h k = go (m == q) refl (not_all f ms q)
  where
    go : (b : Bool) → (m == q) ≡ b → (has_rank ms q ≡ true → f q ≡ false → list_all f ms ≡ false) → list_all f (m ∷ ms) ≡ false
    go true e ih = let is : m ≡ q = grind (arith, nat_tests, e) in let z : f m ≡ false = rw is k in grind (arith, z)
    go false e ih = let i = ih (grind (arith, h, e)) k in grind (arith, i)

pub no_member : (f : ℕ → Bool) (ms : List ℕ) → ((q : ℕ) → has_rank ms q ≡ true → f q ≡ false) → list_any f ms ≡ false
no_member f [] h = refl
no_member f (m ∷ ms) h =
    let here = h m (grind (arith, nat_tests)) in
    let ih = no_member f ms (λ q k. h q (grind (arith, k))) in
    grind (arith, here, ih)

pub some_member : (f : ℕ → Bool) (ms : List ℕ) (q : ℕ) → has_rank ms q ≡ true → f q ≡ true → list_any f ms ≡ true
some_member f [] q h k = absurd (cc (h))
some_member f (m ∷ ms) q h k = go (m == q) refl (some_member f ms q)
  where
    go : (b : Bool) → (m == q) ≡ b → (has_rank ms q ≡ true → f q ≡ true → list_any f ms ≡ true) → list_any f (m ∷ ms) ≡ true
    go true e ih = let is : m ≡ q = grind (arith, nat_tests, e) in let z : f m ≡ true = rw is k in grind (arith, z)
    go false e ih = let i = ih (grind (arith, h, e)) k in grind (arith, i)
