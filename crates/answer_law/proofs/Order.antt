-- The order of a class of a split: by key, and where keys are equal by rank in the communicator that is split.
use Rattle.std.proofs.Common.{◌≡◌, ℕ, suc, ℤ, pos, negsuc, ◌==◌, ◌&&◌, ◌||◌, not, if◌then◌else◌, nat_lt, int_lt, Bool, true, false, List, [], ◌∷◌, filter, position, Some, option_map, refl, sym, ap, ◌∙◌, subst, arith}
use Rattle.std.specs.Prelude.{unwrap_or}
use Rattle.std.specs.Ordering.{int_eq}
use Rattle.std.proofs.lemmas.Bool.Decides.{nat_tests}
use Rattle.mpi_base.specs.MemberLists.{has_rank}
use Rattle.mpi_base.specs.declared.shares.Shared1.{Shared1}
use Rattle.mpi_law.specs.Splits.{has_colour, put_in, by_key, split_class}
use Rattle.mpi_law.specs.Registry.State.{place_in}
use Rattle.answer_law.specs.Places.{comes_before}
use Rattle.answer_law.proofs.Lists.{position_cons, member_place}
use Rattle.answer_law.proofs.Classes.{by_key_has, filter_has}

-- Signed numbers

less_not : (a : ℤ) → int_lt a a ≡ false
less_not (pos n) = grind (arith, nat_tests)
less_not (negsuc n) = grind (arith, nat_tests)

-- less, equal or greater
one_of : (a b : ℤ) → int_lt a b ≡ true → int_lt b a ≡ false
one_of (pos n) (pos m) e = grind (arith, nat_tests, e)
one_of (pos n) (negsuc m) e = grind (arith, nat_tests, e)
one_of (negsuc n) (pos m) e = grind (arith, nat_tests, e)
one_of (negsuc n) (negsuc m) e = grind (arith, nat_tests, e)

neither : (a b : ℤ) → not (int_lt b a) ≡ (int_lt a b || int_eq a b)
neither (pos n) (pos m) = grind (arith, nat_tests)
neither (pos n) (negsuc m) = grind (arith, nat_tests)
neither (negsuc n) (pos m) = grind (arith, nat_tests)
neither (negsuc n) (negsuc m) = grind (arith, nat_tests)

-- at most goes on
at_most_on : (a b c : ℤ) → int_lt b a ≡ false → int_lt c b ≡ false → int_lt c a ≡ false
at_most_on (pos n) (pos m) (pos k) e f = grind (arith, nat_tests, e, f)
at_most_on (pos n) (pos m) (negsuc k) e f = grind (arith, nat_tests, e, f)
at_most_on (pos n) (negsuc m) (pos k) e f = grind (arith, nat_tests, e, f)
at_most_on (pos n) (negsuc m) (negsuc k) e f = grind (arith, nat_tests, e, f)
at_most_on (negsuc n) (pos m) (pos k) e f = grind (arith, nat_tests, e, f)
at_most_on (negsuc n) (pos m) (negsuc k) e f = grind (arith, nat_tests, e, f)
at_most_on (negsuc n) (negsuc m) (pos k) e f = grind (arith, nat_tests, e, f)
at_most_on (negsuc n) (negsuc m) (negsuc k) e f = grind (arith, nat_tests, e, f)

-- Places

-- whether the first of two numbers stands before the other in a list
abbrev stands : List ℕ → ℕ → ℕ → Bool
stands [] a b = false
stands (x ∷ xs) a b = if x == b then false else (if x == a then true else stands xs a b)

placed : (xs : List ℕ) (a b : ℕ) → has_rank xs a ≡ true → has_rank xs b ≡ true → nat_lt (place_in xs a) (place_in xs b) ≡ stands xs a b
placed [] a b ha hb = absurd (cc (ha))
placed (x ∷ xs) a b ha hb =
    rw (position_cons (λ m. m == a) x xs, position_cons (λ m. m == b) x xs) (go (x == a) refl (x == b) refl (placed xs a b))
  where
    go : (s : Bool) → (x == a) ≡ s → (t : Bool) → (x == b) ≡ t → (has_rank xs a ≡ true → has_rank xs b ≡ true → nat_lt (place_in xs a) (place_in xs b) ≡ stands xs a b)
        → nat_lt (unwrap_or (if s then Some 0 else option_map suc (position (λ m. m == a) xs)) 0) (unwrap_or (if t then Some 0 else option_map suc (position (λ m. m == b) xs)) 0) ≡ (if t then false else (if s then true else stands xs a b))
    go s e true f later = grind (arith, nat_tests)
    go true e false f later =
        let j = member_place xs b (grind (arith, hb, f)) in
        let at = j.1 in
        rw at (grind (arith, nat_tests))
    go false e false f later =
        let i = member_place xs a (grind (arith, ha, e)) in
        let j = member_place xs b (grind (arith, hb, f)) in
        let ih : nat_lt (place_in xs a) (place_in xs b) ≡ stands xs a b = later (grind (arith, ha, e)) (grind (arith, hb, f)) in
        let both : nat_lt i.0 j.0 ≡ stands xs a b = rw (i.1, j.1) at ih in
        rw (i.1, j.1) (grind (arith, nat_tests, both))

same_number : (a b : ℕ) → (a == b) ≡ true → a ≡ b
same_number a b e = grind (arith, nat_tests, e)

own_number : (a : ℕ) → (a == a) ≡ true
own_number a = grind (arith, nat_tests)

stands_self : (xs : List ℕ) (a : ℕ) → stands xs a a ≡ false
stands_self [] a = refl
stands_self (x ∷ xs) a = let ih = stands_self xs a in grind (arith, ih)

stands_filter : (test : ℕ → Bool) (xs : List ℕ) (a b : ℕ) → test a ≡ true → test b ≡ true → stands (filter test xs) a b ≡ stands xs a b
stands_filter test [] a b ta tb = refl
stands_filter test (x ∷ xs) a b ta tb = go (test x) refl (x == a) refl (x == b) refl (stands_filter test xs a b ta tb)
  where
    go : (t : Bool) → test x ≡ t → (d : Bool) → (x == a) ≡ d → (e : Bool) → (x == b) ≡ e → stands (filter test xs) a b ≡ stands xs a b → stands (if t then x ∷ filter test xs else filter test xs) a b ≡ (if e then false else (if d then true else stands xs a b))
    go true t d u e v ih = grind (arith, u, v, ih)
    go false t true u e v ih = let z : test a ≡ false = subst (λ (i : ℕ). test i ≡ false) (same_number x a u) t in absurd (cc (z, ta))
    go false t false u true v ih = let z : test b ≡ false = subst (λ (i : ℕ). test i ≡ false) (same_number x b v) t in absurd (cc (z, tb))
    go false t false u false v ih = ih

module _ (share : ℕ → Shared1) where
  abbrev key : ℕ → ℤ
  key m = (share m).key

  -- no key is less, and no later key is less than an earlier one
  abbrev lower : ℤ → List ℕ → Bool
  lower k [] = true
  lower k (m ∷ ms) = not (int_lt (key m) k) && lower k ms

  abbrev sorted : List ℕ → Bool
  sorted [] = true
  sorted (m ∷ ms) = lower (key m) ms && sorted ms

  lower_on : (a b : ℤ) (xs : List ℕ) → int_lt b a ≡ false → lower b xs ≡ true → lower a xs ≡ true
  lower_on a b [] e h = refl
  lower_on a b (x ∷ xs) e h =
      let ih = lower_on a b xs e (grind (arith, h)) in
      let z = at_most_on a b (key x) e (grind (arith, h)) in
      grind (arith, ih, z)

  lower_put : (k : ℤ) (m : ℕ) (xs : List ℕ) → int_lt (key m) k ≡ false → lower k xs ≡ true → lower k (put_in share m xs) ≡ true
  lower_put k m [] e h = grind (arith, e)
  lower_put k m (x ∷ xs) e h = let ih = lower_put k m xs e (grind (arith, h)) in grind (arith, ih, e, h)

  put_sorted : (m : ℕ) (xs : List ℕ) → sorted xs ≡ true → sorted (put_in share m xs) ≡ true
  put_sorted m [] h = refl
  put_sorted m (x ∷ xs) h = go (int_lt (key x) (key m)) refl (put_sorted m xs (grind (arith, h)))
    where
      go : (b : Bool) → int_lt (key x) (key m) ≡ b → sorted (put_in share m xs) ≡ true → sorted (if b then x ∷ put_in share m xs else m ∷ x ∷ xs) ≡ true
      go true e ih = let z = lower_put (key x) m xs (one_of (key x) (key m) e) (grind (arith, h)) in grind (arith, z, ih)
      go false e ih = let z = lower_on (key m) (key x) xs e (grind (arith, h)) in grind (arith, z, e, h)

  by_key_sorted : (ms : List ℕ) → sorted (by_key share ms) ≡ true
  by_key_sorted [] = refl
  by_key_sorted (m ∷ ms) = put_sorted m (by_key share ms) (by_key_sorted ms)

  lower_at : (k : ℤ) (xs : List ℕ) (q : ℕ) → lower k xs ≡ true → has_rank xs q ≡ true → int_lt (key q) k ≡ false
  lower_at k [] q h e = absurd (cc (e))
  lower_at k (x ∷ xs) q h e = go (x == q) refl (lower_at k xs q)
    where
      go : (b : Bool) → (x == q) ≡ b → (lower k xs ≡ true → has_rank xs q ≡ true → int_lt (key q) k ≡ false) → int_lt (key q) k ≡ false
      go true s ih = subst (λ (i : ℕ). int_lt (key i) k ≡ false) (same_number x q s) (grind (arith, h))
      go false s ih = ih (grind (arith, h)) (grind (arith, e, s))

  -- where a member is put before the first whose key is not less, no later key is less
  none_less : (m x : ℕ) (xs : List ℕ) (q : ℕ) → int_lt (key x) (key m) ≡ false → sorted (x ∷ xs) ≡ true → has_rank (x ∷ xs) q ≡ true → int_lt (key q) (key m) ≡ false
  none_less m x xs q e h there = lower_at (key m) (x ∷ xs) q (let z = lower_on (key m) (key x) xs e (grind (arith, h)) in grind (arith, z, e)) there

  put_others : (m : ℕ) (xs : List ℕ) (a b : ℕ) → (m == a) ≡ false → (m == b) ≡ false → stands (put_in share m xs) a b ≡ stands xs a b
  put_others m [] a b d e = grind (arith, d, e)
  put_others m (x ∷ xs) a b d e = go (int_lt (key x) (key m)) (put_others m xs a b d e)
    where
      go : (t : Bool) → stands (put_in share m xs) a b ≡ stands xs a b → stands (if t then x ∷ put_in share m xs else m ∷ x ∷ xs) a b ≡ stands (x ∷ xs) a b
      go true ih = grind (arith, ih)
      go false ih = grind (arith, d, e)

  put_first : (m : ℕ) (xs : List ℕ) (b : ℕ) → (m == b) ≡ false → sorted xs ≡ true → has_rank xs b ≡ true → stands (put_in share m xs) m b ≡ not (int_lt (key b) (key m))
  put_first m [] b e h there = absurd (cc (there))
  put_first m (x ∷ xs) b e h there = go (int_lt (key x) (key m)) refl (x == b) refl (x == m) refl (put_first m xs b e)
    where
      go : (t : Bool) → int_lt (key x) (key m) ≡ t → (d : Bool) → (x == b) ≡ d → (u : Bool) → (x == m) ≡ u → (sorted xs ≡ true → has_rank xs b ≡ true → stands (put_in share m xs) m b ≡ not (int_lt (key b) (key m)))
          → stands (if t then x ∷ put_in share m xs else m ∷ x ∷ xs) m b ≡ not (int_lt (key b) (key m))
      go true t true d u v ih = let z : int_lt (key b) (key m) ≡ true = subst (λ (i : ℕ). int_lt (key i) (key m) ≡ true) (same_number x b d) t in grind (arith, d, z)
      go true t false d true v ih = let z = subst (λ (i : ℕ). int_lt (key i) (key m) ≡ true) (same_number x m v) t in let no = less_not (key m) in absurd (cc (z, no))
      go true t false d false v ih = let k = ih (grind (arith, h)) (grind (arith, there, d)) in grind (arith, d, v, k)
      go false t d d' u v ih = let z = none_less m x xs b t h there in let o = own_number m in grind (arith, e, o, z)

  put_last : (m : ℕ) (xs : List ℕ) (a : ℕ) → (m == a) ≡ false → sorted xs ≡ true → has_rank xs a ≡ true → stands (put_in share m xs) a m ≡ int_lt (key a) (key m)
  put_last m [] a e h there = absurd (cc (there))
  put_last m (x ∷ xs) a e h there = go (int_lt (key x) (key m)) refl (x == a) refl (x == m) refl (put_last m xs a e)
    where
      go : (t : Bool) → int_lt (key x) (key m) ≡ t → (d : Bool) → (x == a) ≡ d → (u : Bool) → (x == m) ≡ u → (sorted xs ≡ true → has_rank xs a ≡ true → stands (put_in share m xs) a m ≡ int_lt (key a) (key m))
          → stands (if t then x ∷ put_in share m xs else m ∷ x ∷ xs) a m ≡ int_lt (key a) (key m)
      go true t d d' true v ih = let z = subst (λ (i : ℕ). int_lt (key i) (key m) ≡ true) (same_number x m v) t in let no = less_not (key m) in absurd (cc (z, no))
      go true t true d false v ih = let z : int_lt (key a) (key m) ≡ true = subst (λ (i : ℕ). int_lt (key i) (key m) ≡ true) (same_number x a d) t in grind (arith, d, v, z)
      go true t false d false v ih = let k = ih (grind (arith, h)) (grind (arith, there, d)) in grind (arith, d, v, k)
      go false t d d' u v ih = let z = none_less m x xs a t h there in let o = own_number m in grind (arith, o, z)

  ordered : (ms : List ℕ) (a b : ℕ) → has_rank ms a ≡ true → has_rank ms b ≡ true → stands (by_key share ms) a b ≡ (int_lt (key a) (key b) || (int_eq (key a) (key b) && stands ms a b))
  ordered [] a b ha hb = absurd (cc (ha))
  ordered (m ∷ ms) a b ha hb = go (m == a) refl (m == b) refl (ordered ms a b)
    where
      go : (d : Bool) → (m == a) ≡ d → (e : Bool) → (m == b) ≡ e → (has_rank ms a ≡ true → has_rank ms b ≡ true → stands (by_key share ms) a b ≡ (int_lt (key a) (key b) || (int_eq (key a) (key b) && stands ms a b)))
          → stands (put_in share m (by_key share ms)) a b ≡ (int_lt (key a) (key b) || (int_eq (key a) (key b) && (if e then false else (if d then true else stands ms a b))))
      go true d true e ih =
          let is : a ≡ b = sym (same_number m a d) ∙ same_number m b e in
          let no = less_not (key a) in
          let self = stands_self (put_in share m (by_key share ms)) a in
          subst (λ (i : ℕ). stands (put_in share m (by_key share ms)) a i ≡ (int_lt (key a) (key i) || (int_eq (key a) (key i) && false))) is (grind (arith, no, self))
      go true d false e ih =
          let is = same_number m a d in
          let there : has_rank (by_key share ms) b ≡ true = rw (by_key_has share ms b) (grind (arith, hb, e)) in
          let f = put_first m (by_key share ms) b e (by_key_sorted ms) there in
          let n = neither (key m) (key b) in
          subst (λ (i : ℕ). stands (put_in share m (by_key share ms)) i b ≡ (int_lt (key i) (key b) || (int_eq (key i) (key b) && true))) is (grind (arith, f, n))
      go false d true e ih =
          let is = same_number m b e in
          let there : has_rank (by_key share ms) a ≡ true = rw (by_key_has share ms a) (grind (arith, ha, d)) in
          let f = put_last m (by_key share ms) a d (by_key_sorted ms) there in
          subst (λ (i : ℕ). stands (put_in share m (by_key share ms)) a i ≡ (int_lt (key a) (key i) || (int_eq (key a) (key i) && false))) is (grind (arith, f))
      go false d false e ih =
          let k = ih (grind (arith, ha, d)) (grind (arith, hb, e)) in
          put_others m (by_key share ms) a b d e ∙ k

  pub class_in_order : (members : List ℕ) (colour : ℤ) (a b : ℕ) → has_rank (split_class share members colour) a ≡ true → has_rank (split_class share members colour) b ≡ true
      → nat_lt (place_in (split_class share members colour) a) (place_in (split_class share members colour) b) ≡ comes_before share members a b
  unfolding split_class
  class_in_order members colour a b ha hb =
      let test = λ (m : ℕ). has_colour colour (share m).colour in
      let inside = filter test members in
      let ia : has_rank inside a ≡ true = sym (by_key_has share inside a) ∙ ha in
      let ib : has_rank inside b ≡ true = sym (by_key_has share inside b) ∙ hb in
      let fa = filter_has test members a in
      let fb = filter_has test members b in
      let ma : has_rank members a ≡ true = grind (arith, ia, fa) in
      let mb : has_rank members b ≡ true = grind (arith, ib, fb) in
      let ta : test a ≡ true = grind (arith, ia, fa) in
      let tb : test b ≡ true = grind (arith, ib, fb) in
      placed (by_key share inside) a b ha hb ∙ ordered inside a b ia ib
      ∙ ap (λ (t : Bool). int_lt (key a) (key b) || (int_eq (key a) (key b) && t)) (stands_filter test members a b ta tb ∙ sym (placed members a b ma mb))
