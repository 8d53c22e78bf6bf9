-- Lists of distinct ranks below a number: what the group calls make of them.
use Rattle.std.proofs.Common.{◌≡◌, ◌<◌, ◌≤◌, ◌||◌, ◌==◌, ◌+◌, not, ℕ, ℤ, pos, negsuc, zero, suc, Bool, true, false, if◌then◌else◌, List, [], ◌∷◌, ◌++◌, length, map, filter, get_or, Option, Some, None, Result, Ok, Err, refl, ap, arith, bytes_eq}
use Rattle.std.specs.Prelude.{nat_lt, unsigned_abs}
use Rattle.std.specs.List.{list_all, list_any, range_with_len, flat_map}
use Rattle.std.specs.Option.{option_map}
use Rattle.std.proofs.lemmas.Bool.Decides.{nat_tests}
use Rattle.mpi_base.specs.MemberLists.{has_rank, are_distinct}
use Rattle.mpi_base.specs.declared.errors.ErrClass.{ErrClass}
use Rattle.mpi_base.specs.declared.errors.ErrClass.TheVariants as class
use Rattle.mpi_base.specs.declared.groups.Triplet.{Triplet}
use Rattle.mpi_group.specs.Algebra.{union_of, has_number, are_ranks, member_at, included, excluded, range_included, range_excluded, has_zero_stride, expanded}
use Rattle.mpi_group.proofs.MemberListFacts.{has_rank_picked, has_rank-filter, list_all-filter, list_all_get}
use Rattle.mpi_group.proofs.ListingFacts.{has_number-places}
use Rattle.pset_reg.specs.Sets.{NamedSet, set_of, members_in, self_name}
use Rattle.projection_law.specs.Premises.{are_distinct_ranks, are_rank_sets}

distinct-filter : (p : ℕ → Bool) (xs : List ℕ) → are_distinct xs ≡ true → are_distinct (filter p xs) ≡ true
distinct-filter p [] d = refl
distinct-filter p (x ∷ xs) d =
    let ih = distinct-filter p xs (grind (arith, d)) in
    let none = has_rank-filter p xs x (grind (arith, d)) in
    grind (arith, ih, none)

pub filter_ranks : (n : ℕ) (p : ℕ → Bool) (xs : List ℕ) → are_distinct_ranks n xs ≡ true → are_distinct_ranks n (filter p xs) ≡ true
filter_ranks n p xs e =
    let d = distinct-filter p xs (grind (arith, e)) in
    let b = list_all-filter (λ m. nat_lt m n) p xs (grind (arith, e)) in
    rw (d, b) refl

has_either : (xs ys : List ℕ) (r : ℕ) → has_rank (xs ++ ys) r ≡ (has_rank xs r || has_rank ys r)
has_either [] ys r = refl
has_either (x ∷ xs) ys r = let ih = has_either xs ys r in grind (arith, ih)

none_of_both : (xs zs : List ℕ) (r : ℕ) → has_rank (filter (λ m. not (has_rank xs m)) zs) r ≡ true → has_rank xs r ≡ false
none_of_both xs [] r e = absurd (cc (e))
none_of_both xs (z ∷ zs) r e = go (has_rank xs z) refl e (none_of_both xs zs r)
  where
    go : (b : Bool) → has_rank xs z ≡ b → has_rank (if not b then z ∷ filter (λ m. not (has_rank xs m)) zs else filter (λ m. not (has_rank xs m)) zs) r ≡ true → (has_rank (filter (λ m. not (has_rank xs m)) zs) r ≡ true → has_rank xs r ≡ false) → has_rank xs r ≡ false
    go true t e ih = ih e
    go false t e ih = here (z == r) refl e ih
      where
        here : (c : Bool) → (z == r) ≡ c → (c || has_rank (filter (λ m. not (has_rank xs m)) zs) r) ≡ true → (has_rank (filter (λ m. not (has_rank xs m)) zs) r ≡ true → has_rank xs r ≡ false) → has_rank xs r ≡ false
        here true u e ih = let is : z ≡ r = grind (arith, nat_tests, u) in rw (← is) t
        here false u e ih = ih e

distinct-join : (xs ys : List ℕ) → are_distinct xs ≡ true → are_distinct ys ≡ true → ((r : ℕ) → has_rank ys r ≡ true → has_rank xs r ≡ false) → are_distinct (xs ++ ys) ≡ true
distinct-join [] ys d e f = e
distinct-join (x ∷ xs) ys d e f =
    let ih = distinct-join xs ys (grind (arith, d)) e (λ r h. let g = f r h in grind (arith, g)) in
    let either = has_either xs ys x in
    let none : has_rank ys x ≡ false = apart (has_rank ys x) refl in
    grind (arith, ih, either, none, d)
  where
    apart : (b : Bool) → has_rank ys x ≡ b → has_rank ys x ≡ false
    apart true h = let g = f x h in absurd (grind (arith, nat_tests, g))
    apart false h = h

below-join : (n : ℕ) (xs ys : List ℕ) → list_all (λ m. nat_lt m n) xs ≡ true → list_all (λ m. nat_lt m n) ys ≡ true → list_all (λ m. nat_lt m n) (xs ++ ys) ≡ true
below-join n [] ys a b = b
below-join n (x ∷ xs) ys a b = let ih = below-join n xs ys (grind (arith, a)) b in grind (arith, ih, a)

pub union_ranks : (n : ℕ) (xs ys : List ℕ) → are_distinct_ranks n xs ≡ true → are_distinct_ranks n ys ≡ true → are_distinct_ranks n (union_of xs ys) ≡ true
union_ranks n xs ys a b =
    let rest = filter_ranks n (λ m. not (has_rank xs m)) ys b in
    let d = distinct-join xs (filter (λ m. not (has_rank xs m)) ys) (grind (arith, a)) (grind (arith, rest)) (none_of_both xs ys) in
    let e = below-join n xs (filter (λ m. not (has_rank xs m)) ys) (grind (arith, a)) (grind (arith, rest)) in
    rw (d, e) refl

-- Members at places

pub picked_ranks : (n : ℕ) (xs ps : List ℕ) → are_distinct_ranks n xs ≡ true → are_distinct ps ≡ true → list_all (λ p. nat_lt p (length xs)) ps ≡ true → are_distinct_ranks n (map (λ p. get_or xs p 0) ps) ≡ true
picked_ranks n xs [] a d b = refl
picked_ranks n xs (p ∷ ps) a d b =
    let ih = picked_ranks n xs ps a (grind (arith, d)) (grind (arith, b)) in
    let lt : p < length xs = grind (arith, nat_tests, b) in
    let apart = has_rank_picked xs ps p (grind (arith, a)) (grind (arith, b)) lt (grind (arith, d)) in
    let low = list_all_get (λ m. nat_lt m n) xs p (grind (arith, a)) lt in
    grind (arith, ih, apart, low)

places_distinct : (size : ℕ) (ns : List ℤ) → are_ranks size ns ≡ true → are_distinct (map unsigned_abs ns) ≡ true
places_distinct size [] e = refl
places_distinct size (negsuc k ∷ ns) e = absurd (grind (arith, e))
places_distinct size (pos k ∷ ns) e =
    let ih = places_distinct size ns (grind (arith, e)) in
    let there = has_number-places size ns k (grind (arith, e)) in
    grind (arith, ih, there, e)

places_below : (size : ℕ) (ns : List ℤ) → are_ranks size ns ≡ true → list_all (λ p. nat_lt p size) (map unsigned_abs ns) ≡ true
places_below size [] e = refl
places_below size (negsuc k ∷ ns) e = absurd (grind (arith, e))
places_below size (pos k ∷ ns) e = let ih = places_below size ns (grind (arith, e)) in grind (arith, ih, e)

map_twice : (xs : List ℕ) (ns : List ℤ) → map (member_at xs) ns ≡ map (λ p. get_or xs p 0) (map unsigned_abs ns)
map_twice xs [] = refl
map_twice xs (k ∷ ns) = ap (λ z. get_or xs (unsigned_abs k) 0 ∷ z) (map_twice xs ns)

range_from : (a k r : ℕ) → has_rank (range_with_len a k) r ≡ true → a ≤ r
range_from a zero r e = absurd (cc (e))
range_from a (suc k) r e = go (a == r) refl e (range_from (a + 1) k r)
  where
    go : (b : Bool) → (a == r) ≡ b → (b || has_rank (range_with_len (a + 1) k) r) ≡ true → (has_rank (range_with_len (a + 1) k) r ≡ true → a + 1 ≤ r) → a ≤ r
    go true t e ih = let is : a ≡ r = grind (arith, nat_tests, t) in omega (arith, is)
    go false t e ih = let l = ih e in omega (arith, l)

range_distinct : (a k : ℕ) → are_distinct (range_with_len a k) ≡ true
range_distinct a zero = refl
range_distinct a (suc k) = let ih = range_distinct (a + 1) k in let none = apart (has_rank (range_with_len (a + 1) k) a) refl in grind (arith, ih, none)
  where
    apart : (b : Bool) → has_rank (range_with_len (a + 1) k) a ≡ b → has_rank (range_with_len (a + 1) k) a ≡ false
    apart true h = let l = range_from (a + 1) k a h in absurd (omega (arith, l))
    apart false h = h

range_below : (a k n : ℕ) → a + k ≤ n → list_all (λ p. nat_lt p n) (range_with_len a k) ≡ true
range_below a zero n l = refl
range_below a (suc k) n l = let ih = range_below (a + 1) k n (omega (arith, l)) in let here : a < n = omega (arith, l) in grind (arith, nat_tests, ih, here)

-- what comes of a group call, where something does
abbrev pub RanksOr : ℕ → Result (List ℕ) ErrClass → Type 0
RanksOr n (Ok ms) = are_distinct_ranks n ms ≡ true
RanksOr n (Err e) = Unit {0}

pub included_ranks : (n : ℕ) (xs : List ℕ) (ns : List ℤ) → are_distinct_ranks n xs ≡ true → RanksOr n (included xs ns)
included_ranks n xs ns a = go (are_ranks (length xs) ns) refl
  where
    go : (b : Bool) → are_ranks (length xs) ns ≡ b → RanksOr n (if b then Ok (map (member_at xs) ns) else Err class.Rank)
    go true e = rw (map_twice xs ns) (picked_ranks n xs (map unsigned_abs ns) a (places_distinct (length xs) ns e) (places_below (length xs) ns e))
    go false e = tt

pub excluded_ranks : (n : ℕ) (xs : List ℕ) (ns : List ℤ) → are_distinct_ranks n xs ≡ true → RanksOr n (excluded xs ns)
excluded_ranks n xs ns a = go (are_ranks (length xs) ns)
  where
    places : List ℕ
    places = filter (λ place. not (has_number ns (pos place))) (range_with_len 0 (length xs))

    go : (b : Bool) → RanksOr n (if b then Ok (map (λ place. get_or xs place 0) places) else Err class.Rank)
    go true = picked_ranks n xs places a (distinct-filter _ (range_with_len 0 (length xs)) (range_distinct 0 (length xs))) (list_all-filter _ _ (range_with_len 0 (length xs)) (range_below 0 (length xs) (length xs) (omega arith)))
    go false = tt

pub range_included_ranks : (n : ℕ) (xs : List ℕ) (ts : List Triplet) → are_distinct_ranks n xs ≡ true → RanksOr n (range_included xs ts)
range_included_ranks n xs ts a = go (list_any has_zero_stride ts)
  where
    go : (b : Bool) → RanksOr n (if b then Err class.Arg else included xs (flat_map expanded ts))
    go true = tt
    go false = included_ranks n xs (flat_map expanded ts) a

pub range_excluded_ranks : (n : ℕ) (xs : List ℕ) (ts : List Triplet) → are_distinct_ranks n xs ≡ true → RanksOr n (range_excluded xs ts)
range_excluded_ranks n xs ts a = go (list_any has_zero_stride ts)
  where
    go : (b : Bool) → RanksOr n (if b then Err class.Arg else excluded xs (flat_map expanded ts))
    go true = tt
    go false = excluded_ranks n xs (flat_map expanded ts) a

-- Process sets

set_ranks : (n : ℕ) (sets : List NamedSet) (name : List ℕ) (set : NamedSet) → are_rank_sets n sets ≡ true → set_of sets name ≡ Some set → are_distinct_ranks n set.members ≡ true
set_ranks n [] name set a e = absurd (cc (e))
set_ranks n (x ∷ xs) name set a e = go (bytes_eq name x.name) refl e (set_ranks n xs name set (grind (arith, a)))
  where
    go : (b : Bool) → bytes_eq name x.name ≡ b → (if b then Some x else set_of xs name) ≡ Some set → (set_of xs name ≡ Some set → are_distinct_ranks n set.members ≡ true) → are_distinct_ranks n set.members ≡ true
    go true t h ih = let is : x ≡ set = cc (h) in rw (← is) (grind (arith, a))
    go false t h ih = ih h

pub members_ranks : (n : ℕ) (sets : List NamedSet) (rank : ℕ) (name ms : List ℕ) → are_rank_sets n sets ≡ true → rank < n → members_in sets rank name ≡ Some ms → are_distinct_ranks n ms ≡ true
members_ranks n sets rank name ms a lt e = go (set_of sets name) refl e
  where
    one : (b : Bool) (set : NamedSet) → are_distinct_ranks n set.members ≡ true → are_distinct_ranks n (if b then rank ∷ [] else set.members) ≡ true
    one true set f = grind (arith, nat_tests, lt)
    one false set f = f

    go : (o : Option NamedSet) → set_of sets name ≡ o → option_map (λ (z : NamedSet). if bytes_eq name self_name then rank ∷ [] else z.members) o ≡ Some ms → are_distinct_ranks n ms ≡ true
    go None s h = absurd (cc (h))
    go (Some set) s h =
        let is : (if bytes_eq name self_name then rank ∷ [] else set.members) ≡ ms = cc (h) in
        rw (← is) (one (bytes_eq name self_name) set (set_ranks n sets name set a s))
