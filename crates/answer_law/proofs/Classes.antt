-- The classes of a split: who is in one, and that its members have one class.
use Rattle.std.proofs.Common.{◌≡◌, ℕ, ℤ, ◌==◌, ◌&&◌, ◌||◌, if◌then◌else◌, int_lt, Bool, true, false, List, [], ◌∷◌, filter, Option, Some, None, refl, ap, ◌∙◌, subst, arith}
use Rattle.std.specs.Ordering.{int_eq}
use Rattle.std.proofs.lemmas.Bool.Decides.{nat_tests, Decides-int_eq}
use Rattle.mpi_base.specs.MemberLists.{has_rank}
use Rattle.mpi_base.specs.declared.shares.Shared1.{Shared1}
use Rattle.mpi_law.specs.Splits.{has_colour, put_in, by_key, split_class}
use Rattle.mpi_law.specs.Registry.State.{Creation}
use Rattle.mpi_law.specs.Registry.Creations.{is_split, share_of, class_by, class_of, is_uncoloured}

pub int_is : (a b : ℤ) → int_eq a b ≡ true → a ≡ b
int_is a b e = (Decides-int_eq a b).0 e

put_has : (share : ℕ → Shared1) (member : ℕ) (ms : List ℕ) (q : ℕ) → has_rank (put_in share member ms) q ≡ ((member == q) || has_rank ms q)
put_has share member [] q = refl
put_has share member (m ∷ ms) q = go (int_lt (share m).key (share member).key) (put_has share member ms q)
  where
    go : (b : Bool) → has_rank (put_in share member ms) q ≡ ((member == q) || has_rank ms q) → has_rank (if b then m ∷ put_in share member ms else member ∷ m ∷ ms) q ≡ ((member == q) || ((m == q) || has_rank ms q))
    go true ih = grind (arith, nat_tests, ih)
    go false ih = refl

pub by_key_has : (share : ℕ → Shared1) (ms : List ℕ) (q : ℕ) → has_rank (by_key share ms) q ≡ has_rank ms q
by_key_has share [] q = refl
by_key_has share (m ∷ ms) q = let ih = by_key_has share ms q in let e = put_has share m (by_key share ms) q in grind (arith, nat_tests, ih, e)

pub filter_has : (test : ℕ → Bool) (ms : List ℕ) (q : ℕ) → has_rank (filter test ms) q ≡ (has_rank ms q && test q)
filter_has test [] q = refl
filter_has test (m ∷ ms) q = go (test m) refl (m == q) refl (filter_has test ms q)
  where
    go : (b : Bool) → test m ≡ b → (d : Bool) → (m == q) ≡ d → has_rank (filter test ms) q ≡ (has_rank ms q && test q) → has_rank (if b then m ∷ filter test ms else filter test ms) q ≡ (((m == q) || has_rank ms q) && test q)
    go b t true e ih =
        let is : m ≡ q = grind (arith, nat_tests, e) in
        let same : test q ≡ b = subst (λ (i : ℕ). test i ≡ b) is t in
        by b same
      where
        by : (b : Bool) → test q ≡ b → has_rank (if b then m ∷ filter test ms else filter test ms) q ≡ (((m == q) || has_rank ms q) && test q)
        by true same = grind (arith, e, same)
        by false same = grind (arith, e, same, ih)
    go true t false e ih = grind (arith, e, ih)
    go false t false e ih = grind (arith, e, ih)

pub class_has : (share : ℕ → Shared1) (ms : List ℕ) (colour : ℤ) (q : ℕ) → has_rank (split_class share ms colour) q ≡ (has_rank ms q && has_colour colour (share q).colour)
unfolding split_class
class_has share ms colour q =
    by_key_has share (filter (λ m. has_colour colour (share m).colour) ms) q ∙ filter_has (λ m. has_colour colour (share m).colour) ms q

colour_is : (colour : ℤ) (o : Option ℤ) → has_colour colour o ≡ true → o ≡ Some colour
colour_is colour None e = absurd (cc (e))
colour_is colour (Some d) e = ap (λ (z : ℤ). Some z) (int_is d colour e)

-- a member of a class has its colour
coloured_by : (c : Creation) (o : Option ℤ) (q : ℕ) → has_rank (class_by c o) q ≡ true → (share_of c q).colour ≡ o
coloured_by c None q h = absurd (cc (h))
coloured_by c (Some k) q h =
    let e = class_has (share_of c) c.group k q in
    colour_is k (share_of c q).colour (grind (arith, e, h))

pub same_class : (c : Creation) (r q : ℕ) → has_rank (class_of c r) q ≡ true → class_of c q ≡ class_of c r
same_class c r q h = go (is_split c.name) h
  where
    go : (b : Bool) → has_rank (if b then class_by c (share_of c r).colour else c.group) q ≡ true → (if b then class_by c (share_of c q).colour else c.group) ≡ (if b then class_by c (share_of c r).colour else c.group)
    go true h = ap (class_by c) (coloured_by c (share_of c r).colour q h)
    go false h = refl

-- and so it has one
pub class_coloured : (c : Creation) (r q : ℕ) → has_rank (class_of c r) q ≡ true → is_uncoloured c q ≡ false
class_coloured c r q h = go (is_split c.name) refl (share_of c r).colour refl h
  where
    go : (b : Bool) → is_split c.name ≡ b → (o : Option ℤ) → (share_of c r).colour ≡ o → has_rank (if b then class_by c o else c.group) q ≡ true → is_uncoloured c q ≡ false
    go true e None f h = absurd (cc (h))
    go true e (Some k) f h = let z = coloured_by c (Some k) q h in rw (e, z) refl
    go false e o f h = rw e refl
