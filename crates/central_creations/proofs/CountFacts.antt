-- Counts of calls and places of splits, as creations change.
use Rattle.std.proofs.Common.{◌≡◌, ℕ, zero, suc, ◌+◌, ◌<◌, ◌==◌, ◌&&◌, ◌||◌, Bool, true, false, if◌then◌else◌, List, [], ◌∷◌, ◌++◌, filter, get_or, set, length, position, Option, Some, None, option_map, unwrap_or, refl, sym, ap, subst, ◌∙◌, arith}
use Rattle.std.proofs.lemmas.List.Folds.{list_any-append}
use Rattle.std.proofs.lemmas.Bool.Decides.{nat_tests}
use Rattle.mpi_law.specs.Registry.State.{Caller, Creation, CreationName, Group_and_tag, Nth_dup, Nth_split, Group_on}
use Rattle.mpi_law.specs.Registry.Creations.{has_called, is_counted_on, is_nil, is_pickable, is_place, is_split, place_where, same_name, with_caller}
use Rattle.central_comms.specs.declared.pairs.Pair.{Pair}
use Rattle.central_comms.specs.Pairs.{found_by}
use Rattle.central_comms.specs.Places.{places_where}
use Rattle.central_comms.proofs.PlaceFacts.{position-cons}
use Rattle.central_creations.specs.Found.{AreFound, count_in, counted_parent, counts_for, first_or, newly_counted, split_in}
use Rattle.central_creations.specs.Waiting.{is_waiting}
use Rattle.central_creations.proofs.CreationFacts.{place_is}

-- Lists that change

abbrev one_if : Bool → ℕ
one_if true = 1
one_if false = 0

module _ {A : Type 0} (test : A → Bool) where
  filtered-push : (xs : List A) (x : A) → length (filter test (xs ++ x ∷ [])) ≡ length (filter test xs) + one_if (test x)
  filtered-push [] x = go (test x)
    where
      go : (b : Bool) → length (if b then x ∷ [] else []) ≡ 0 + one_if b
      go true = omega arith
      go false = omega arith
  filtered-push (y ∷ ys) x = go (test y) (filtered-push ys x)
    where
      go : (b : Bool) → length (filter test (ys ++ x ∷ [])) ≡ length (filter test ys) + one_if (test x)
          → length (if b then y ∷ filter test (ys ++ x ∷ []) else filter test (ys ++ x ∷ [])) ≡ length (if b then y ∷ filter test ys else filter test ys) + one_if (test x)
      go true later = omega (arith, later)
      go false later = later

  filtered-set : (xs : List A) (p : ℕ) (x d : A) → p < length xs → length (filter test (set xs p x)) + one_if (test (get_or xs p d)) ≡ length (filter test xs) + one_if (test x)
  filtered-set [] p x d within = absurd (omega (arith, within))
  filtered-set (y ∷ ys) zero x d within = go (test x) (test y)
    where
      go : (b c : Bool) → length (if b then x ∷ filter test ys else filter test ys) + one_if c ≡ length (if c then y ∷ filter test ys else filter test ys) + one_if b
      go true true = refl
      go true false = omega arith
      go false true = omega arith
      go false false = refl
  filtered-set (y ∷ ys) (suc p) x d within = go (test y) (filtered-set ys p x d (omega (arith, within)))
    where
      go : (b : Bool) → length (filter test (set ys p x)) + one_if (test (get_or ys p d)) ≡ length (filter test ys) + one_if (test x)
          → length (if b then y ∷ filter test (set ys p x) else filter test (set ys p x)) + one_if (test (get_or ys p d)) ≡ length (if b then y ∷ filter test ys else filter test ys) + one_if (test x)
      go true later = omega (arith, later)
      go false later = later

  position-push : (xs : List A) (x : A) → position test (xs ++ x ∷ []) ≡ first_or (position test xs) (test x) (length xs)
  position-push [] x = position-cons test x []
  position-push (y ∷ ys) x = rw (position-cons test y (ys ++ x ∷ []), position-cons test y ys) (go (test y) (position test ys) (test x) (position-push ys x))
    where
      go : (b : Bool) (o : Option ℕ) (c : Bool) → position test (ys ++ x ∷ []) ≡ first_or o c (length ys)
          → (if b then Some 0 else option_map (λ k. k + 1) (position test (ys ++ x ∷ []))) ≡ first_or (if b then Some 0 else option_map (λ k. k + 1) o) c (suc (length ys))
      go true o c later = refl
      go false (Some q) c later = ap (λ o. option_map (λ k. k + 1) o) later
      go false None true later = ap (λ o. option_map (λ k. k + 1) o) later ∙ ap (λ (k : ℕ). Some k) (let e : length ys + 1 ≡ suc (length ys) = omega arith in e)
      go false None false later = ap (λ o. option_map (λ k. k + 1) o) later

  position-set : (xs : List A) (p : ℕ) (x d : A) → p < length xs → test x ≡ test (get_or xs p d) → position test (set xs p x) ≡ position test xs
  position-set [] p x d within same = refl
  position-set (y ∷ ys) zero x d within same = rw (position-cons test x ys, position-cons test y ys, same) refl
  position-set (y ∷ ys) (suc p) x d within same = rw (position-cons test y (set ys p x), position-cons test y ys, position-set ys p x d (omega (arith, within)) same) refl

-- Counts

raised : (b : Bool) (n : ℕ) → (if b then n + 1 else n) ≡ n + one_if b
raised true n = refl
raised false n = omega arith

is_parent : (p : ℕ) (name : CreationName) → is_place p (counted_parent name) ≡ is_counted_on p name
is_parent p (Group_and_tag group tag) = refl
is_parent p (Nth_dup q n) = refl
is_parent p (Nth_split q n) = refl
is_parent p (Group_on q tag group) = refl

-- the count of a rank that calls a creation, where it had not called it
called_once : (c : Creation) (j : Caller) (p r : ℕ)
    → one_if (counts_for p r (with_caller c j)) ≡ one_if (counts_for p r c) + one_if (is_place p (newly_counted c j.rank) && (j.rank == r))
called_once c j p r =
    let more = list_any-append (λ k. k.rank == r) c.callers (j ∷ []) in
    let same : (j.rank == r) ≡ true → has_called c j.rank ≡ has_called c r = λ e. ap (λ q. has_called c q) (let is : j.rank ≡ r = grind (arith, nat_tests, e) in is) in
    rw more (go (is_counted_on p c.name) (has_called c r) (j.rank == r) (has_called c j.rank) (counted_parent c.name) same (is_parent p c.name))
  where
    go : (i h e once : Bool) (o : Option ℕ) → (e ≡ true → once ≡ h) → is_place p o ≡ i
        → one_if (i && (h || (e || false))) ≡ one_if (i && h) + one_if (is_place p (if once then None else o) && e)
    go i h true once o same is = rw (same refl) (on h)
      where
        on : (h : Bool) → one_if (i && (h || true)) ≡ one_if (i && h) + one_if (is_place p (if h then None else o) && true)
        on true = grind arith
        on false = rw is (grind arith)
    go i h false once o same is = grind arith

module _ (cs : List Creation) (waiting left : List ℕ) (calls next raise splits : List (Pair × ℕ)) (found : AreFound waiting calls splits cs) where
  module _ (k : ℕ) (before after d : Creation) (within : k < length cs) (was : before ≡ get_or cs k d) (is : left ≡ places_where is_waiting (set cs k after)) where
    firsts_set : after.name ≡ before.name → (p n : ℕ) → found_by splits p n ≡ position (λ c. same_name c.name (Nth_split p n)) (set cs k after)
    firsts_set named p n =
        found.firsts p n
        ∙ sym (position-set (λ c. same_name c.name (Nth_split p n)) cs k after d within (ap (λ m. same_name m (Nth_split p n)) (named ∙ ap (λ (c : Creation). c.name) was)))

    -- a creation that keeps its name and its callers
    pub found_set : after.name ≡ before.name → after.callers ≡ before.callers → AreFound left calls splits (set cs k after)
    found_set named called = record {
      places = is;
      counts = λ p r.
          let same : counts_for p r after ≡ counts_for p r (get_or cs k d) = grind (arith, named, called, was) in
          found.counts p r ∙ omega (arith, filtered-set (counts_for p r) cs k after d within, ap one_if same);
      firsts = firsts_set named;
    }

    -- a creation with one caller more
    pub found_called : (j : Caller) → after ≡ with_caller before j → ((p r : ℕ) → count_in next p r ≡ count_in calls p r)
        → ((p r : ℕ) → count_in raise p r ≡ (if is_place p (newly_counted before j.rank) && (j.rank == r) then count_in next p r + 1 else count_in next p r))
        → AreFound left raise splits (set cs k after)
    found_called j becomes room more = record {
      places = is;
      counts = λ p r.
          let step = filtered-set (counts_for p r) cs k after d within in
          let once = called_once before j p r in
          let now = ap (λ c. one_if (counts_for p r c)) becomes in
          let earlier = ap (λ c. one_if (counts_for p r c)) was in
          let up = more p r ∙ raised (is_place p (newly_counted before j.rank) && (j.rank == r)) (count_in next p r) in
          omega (arith, step, once, now, earlier, up, room p r, found.counts p r);
      firsts = firsts_set (ap (λ (c : Creation). c.name) becomes);
    }

  -- a creation more, with one caller
  pub found_opened : (rows : List Creation) (c : Creation) (j : Caller) (split : List (Pair × ℕ)) → rows ≡ cs ++ c ∷ [] → c.callers ≡ j ∷ [] → left ≡ places_where is_waiting (cs ++ c ∷ [])
      → ((p r : ℕ) → count_in next p r ≡ count_in calls p r)
      → ((p r : ℕ) → count_in raise p r ≡ (if is_place p (counted_parent c.name) && (j.rank == r) then count_in next p r + 1 else count_in next p r))
      → ((p n : ℕ) → found_by split p n ≡ first_or (found_by splits p n) (same_name c.name (Nth_split p n)) (length cs))
      → AreFound left raise split rows
  found_opened rows c j split pushed one is room more entered = subst (λ ds. AreFound left raise split ds) (sym pushed) (record {
    places = is;
    counts = λ p r.
        let step = filtered-push (counts_for p r) cs c in
        let up = more p r ∙ raised (is_place p (counted_parent c.name) && (j.rank == r)) (count_in next p r) in
        let here = ap one_if (one_call c j p r one) in
        omega (arith, step, up, here, room p r, found.counts p r);
    firsts = λ p n.
        entered p n ∙ ap (λ o. first_or o (same_name c.name (Nth_split p n)) (length cs)) (found.firsts p n)
        ∙ sym (position-push (λ k. same_name k.name (Nth_split p n)) cs c);
  })
    where
      one_call : (c : Creation) (j : Caller) (p r : ℕ) → c.callers ≡ j ∷ [] → counts_for p r c ≡ (is_place p (counted_parent c.name) && (j.rank == r))
      one_call c j p r one = let on = is_parent p c.name in grind (arith, one, on)

-- Splits

split_pickable : (p n : ℕ) (cs : List Creation) → place_where (λ c. same_name c.name (Nth_split p n)) cs ≡ place_where (is_pickable (Nth_split p n)) cs
split_pickable p n [] = refl
split_pickable p n (c ∷ cs) = rw (split_pickable p n cs, here c.name) refl
  where
    here : (m : CreationName) → (same_name m (Nth_split p n) && (is_split m || is_nil c.picks)) ≡ same_name m (Nth_split p n)
    here (Group_and_tag g t) = refl
    here (Nth_dup q m) = refl
    here (Nth_split q m) = grind arith
    here (Group_on q t g) = refl

-- the place kept of a split's name is that of the creation that a pick is for
pub split_found : (name : CreationName) (waiting : List ℕ) (calls splits : List (Pair × ℕ)) (cs : List Creation) → is_split name ≡ true → AreFound waiting calls splits cs
    → unwrap_or (split_in splits name) (length cs) ≡ place_where (is_pickable name) cs
split_found (Group_and_tag g t) waiting calls splits cs split found = absurd (cc (split))
split_found (Nth_dup p n) waiting calls splits cs split found = absurd (cc (split))
split_found (Nth_split p n) waiting calls splits cs split found =
    ap (λ o. unwrap_or o (length cs)) (found.firsts p n) ∙ place_is (λ c. same_name c.name (Nth_split p n)) cs ∙ split_pickable p n cs
split_found (Group_on p t g) waiting calls splits cs split found = absurd (cc (split))
