-- A list read at the places of those elements that pass a test.
use Rattle.std.proofs.Common.{◌≡◌, ℕ, suc, ◌+◌, ◌<◌, Bool, true, false, if◌then◌else◌, List, [], ◌∷◌, ◌++◌, length, map, filter, get_or, set, find, position, Option, Some, None, option_map, is_some, All, add-zero, zero-add, inl, inr, refl, sym, ap, subst, ◌∙◌, arith, append_assoc, length-append, length-set}
use Rattle.std.specs.List.{list_any, fold}
use Rattle.std.specs.Option.{option_to_list}
use Rattle.std.proofs.lemmas.List.{append-nil, get_or_past}
use Rattle.std.proofs.lemmas.List.Elements.{filter-append}
use Rattle.std.proofs.lemmas.Bool.Decides.{nat_tests}
use Rattle.std.proofs.lemmas.Bool.{cases_eq}
use Rattle.std.proofs.lemmas.List.{get_or_at, set_at, get_or-map, get_or-set_same, get_or-set_other, length-map}
use Rattle.std.proofs.lemmas.List.Elements.{All-nil, All-cons, All-weaker}
use Rattle.central_comms.specs.Places.{places_from, places_where}

-- The first place

module _ {A : Type 0} (p : A → Bool) where
  pub position-cons : (x : A) (xs : List A) → position p (x ∷ xs) ≡ (if p x then Some 0 else option_map (λ k. k + 1) (position p xs))
  position-cons x xs = grind (arith, nat_tests)

  pub is_some_position : (xs : List A) → is_some (position p xs) ≡ list_any p xs
  is_some_position [] = refl
  is_some_position (x ∷ xs) = let ih = is_some_position xs in let here = position-cons x xs in grind (arith, here, ih)

-- Elements read by their places

-- what stands at the places from a number on
pub record Reads {A : Type 0} (blank : A) (at : ℕ → A) (n : ℕ) (xs : List A) : Type 0 where
  pub each : (k : ℕ) → k < length xs → at (n + k) ≡ get_or xs k blank

module _ {A : Type 0} (blank : A) (at : ℕ → A) where
  reads_first : (n : ℕ) (x : A) (xs : List A) → Reads blank at n (x ∷ xs) → at n ≡ x
  reads_first n x xs reads = rw add-zero at (reads.each 0 (omega arith))

  reads_rest : (n : ℕ) (x : A) (xs : List A) → Reads blank at n (x ∷ xs) → Reads blank at (n + 1) xs
  reads_rest n x xs reads = record {
    each = λ k below. ap at (let e : (n + 1) + k ≡ n + suc k = omega arith in e) ∙ reads.each (suc k) (omega arith);
  }

pub reads_all : {A : Type 0} (blank : A) (xs : List A) → Reads blank (λ k. get_or xs k blank) 0 xs
reads_all blank xs = record { each = λ k below. ap (λ i. get_or xs i blank) (zero-add k) }

module _ {A : Type 0} (blank : A) (test : A → Bool) (at : ℕ → A) (p : A → Bool) (only : (x : A) → test x ≡ false → p x ≡ false) where
  any_from : (n : ℕ) (xs : List A) → Reads blank at n xs → list_any (λ k. p (at k)) (places_from test n xs) ≡ list_any p xs
  any_from n [] reads = refl
  any_from n (x ∷ xs) reads =
      let here = reads_first blank at n x xs reads in
      let later = any_from (n + 1) xs (reads_rest blank at n x xs reads) in
      let none = only x in
      grind (arith, here, later, none)

  counted_on : (n : ℕ) (o : Option ℕ) → option_map (λ k. (n + 1) + k) o ≡ option_map (λ k. n + k) (option_map (λ k. k + 1) o)
  counted_on n None = refl
  counted_on n (Some k) = ap (λ i. Some i) (let e : (n + 1) + k ≡ n + (k + 1) = omega arith in e)

  find_from : (n : ℕ) (xs : List A) → Reads blank at n xs → find (λ k. p (at k)) (places_from test n xs) ≡ option_map (λ k. n + k) (position p xs)
  find_from n [] reads = refl
  find_from n (x ∷ xs) reads =
      rw (position-cons p x xs) (kept (test x) refl (find_from (n + 1) xs (reads_rest blank at n x xs reads) ∙ counted_on n (position p xs)))
    where
      first : (b : Bool) → find (λ k. p (at k)) (places_from test (n + 1) xs) ≡ option_map (λ k. n + k) (option_map (λ k. k + 1) (position p xs))
          → (if b then Some n else find (λ k. p (at k)) (places_from test (n + 1) xs)) ≡ option_map (λ k. n + k) (if b then Some 0 else option_map (λ k. k + 1) (position p xs))
      first true later = ap (λ i. Some i) (sym (add-zero n))
      first false later = later

      kept : (b : Bool) → test x ≡ b → find (λ k. p (at k)) (places_from test (n + 1) xs) ≡ option_map (λ k. n + k) (option_map (λ k. k + 1) (position p xs))
          → find (λ k. p (at k)) (if b then n ∷ places_from test (n + 1) xs else places_from test (n + 1) xs)
          ≡ option_map (λ k. n + k) (if p x then Some 0 else option_map (λ k. k + 1) (position p xs))
      kept true is later = rw (reads_first blank at n x xs reads) (first (p x) later)
      kept false is later = rw (only x is) later

  count_from : (n : ℕ) (xs : List A) → Reads blank at n xs → length (filter (λ k. p (at k)) (places_from test n xs)) ≡ length (filter p xs)
  count_from n [] reads = refl
  count_from n (x ∷ xs) reads =
      let here = reads_first blank at n x xs reads in
      let later = count_from (n + 1) xs (reads_rest blank at n x xs reads) in
      let none = only x in
      grind (arith, here, later, none)

-- Where the places lie

module _ {A : Type 0} (test : A → Bool) where
  within_from : (n : ℕ) (xs : List A) → All (λ k. k < n + length xs) (places_from test n xs)
  within_from n [] = All-nil (λ k. k < n + 0)
  within_from n (x ∷ xs) =
      let later : All (λ k. k < n + length (x ∷ xs)) (places_from test (n + 1) xs) = All-weaker (λ k. k < (n + 1) + length xs) (λ k. k < n + length (x ∷ xs)) (λ k below. omega arith) (places_from test (n + 1) xs) (within_from (n + 1) xs) in
      go (test x) later
    where
      go : (b : Bool) → All (λ k. k < n + length (x ∷ xs)) (places_from test (n + 1) xs)
          → All (λ k. k < n + length (x ∷ xs)) (if b then n ∷ places_from test (n + 1) xs else places_from test (n + 1) xs)
      go true later = All-cons (λ k. k < n + length (x ∷ xs)) n (places_from test (n + 1) xs) (omega arith) later
      go false later = later

  pub places_within : (xs : List A) → All (λ k. k < length xs) (places_where test xs)
  places_within xs = All-weaker (λ k. k < 0 + length xs) (λ k. k < length xs) (λ k below. omega arith) (places_where test xs) (within_from 0 xs)

  push_from : (n : ℕ) (xs : List A) (y : A) → places_from test n (xs ++ y ∷ []) ≡ places_from test n xs ++ (if test y then (n + length xs) ∷ [] else [])
  push_from n [] y = rw (add-zero n) refl
  push_from n (x ∷ xs) y =
      let later = push_from (n + 1) xs y in
      let same : (n + 1) + length xs ≡ n + length (x ∷ xs) = omega arith in
      grind (arith, later, same)

  pub places-push : (xs : List A) (y : A) → places_where test (xs ++ y ∷ []) ≡ places_where test xs ++ (if test y then length xs ∷ [] else [])
  places-push xs y = rw zero-add at (push_from 0 xs y)

-- Elements that change, of which none begins to pass

module _ {A : Type 0} (blank : A) (test : A → Bool) (at : ℕ → A) where
  kept_from : (n : ℕ) (xs ys : List A) → length ys ≡ length xs → ((k : ℕ) → k < length ys → test (get_or xs k blank) ≡ false → test (get_or ys k blank) ≡ false)
      → Reads blank at n ys → filter (λ k. test (at k)) (places_from test n xs) ≡ places_from test n ys
  kept_from n [] [] same down reads = refl
  kept_from n [] (y ∷ ys) same down reads = absurd (omega (arith, same))
  kept_from n (x ∷ xs) [] same down reads = absurd (omega (arith, same))
  kept_from n (x ∷ xs) (y ∷ ys) same down reads =
      let here = reads_first blank at n y ys reads in
      let later = kept_from (n + 1) xs ys (omega (arith, same)) (λ k below. down (suc k) (omega arith)) (reads_rest blank at n y ys reads) in
      let none = down 0 (omega arith) in
      grind (arith, here, later, none)

module _ {A : Type 0} (blank : A) (test : A → Bool) where
  pub places_kept : (xs ys : List A) → length ys ≡ length xs → ((k : ℕ) → k < length ys → test (get_or xs k blank) ≡ false → test (get_or ys k blank) ≡ false)
      → filter (λ k. test (get_or ys k blank)) (places_where test xs) ≡ places_where test ys
  places_kept xs ys same down = kept_from blank test (λ k. get_or ys k blank) 0 xs ys same down (reads_all blank ys)

  module _ (xs : List A) (f : A → A) (down : (x : A) → test x ≡ false → test (f x) ≡ false) where
    set_down : (p k : ℕ) → k < length (set xs p (f (get_or xs p blank))) → test (get_or xs k blank) ≡ false → test (get_or (set xs p (f (get_or xs p blank))) k blank) ≡ false
    set_down p k below done = elim (cases_eq k p) [
      | inl same ↦
          let within : p < length xs = omega (arith, same, below, length-set xs p (f (get_or xs p blank))) in
          subst (λ q. test (get_or (set xs p (f (get_or xs p blank))) q blank) ≡ false) (sym same)
          (rw (get_or-set_same xs p (f (get_or xs p blank)) blank within) (down (get_or xs p blank) (subst (λ q. test (get_or xs q blank) ≡ false) same done)))
      | inr apart ↦ rw (get_or-set_other xs p k (f (get_or xs p blank)) blank apart) done
    ]

    pub places_kept_set : (p : ℕ) → filter (λ k. test (get_or (set xs p (f (get_or xs p blank))) k blank)) (places_where test xs) ≡ places_where test (set xs p (f (get_or xs p blank)))
    places_kept_set p = places_kept xs (set xs p (f (get_or xs p blank))) (length-set xs p (f (get_or xs p blank))) (set_down p)

    map_down : (k : ℕ) → k < length (map f xs) → test (get_or xs k blank) ≡ false → test (get_or (map f xs) k blank) ≡ false
    map_down k below done = ap test (get_or-map f xs k blank blank (omega (arith, below, length-map xs f))) ∙ down (get_or xs k blank) done

    pub places_kept_map : filter (λ k. test (get_or (map f xs) k blank)) (places_where test xs) ≡ places_where test (map f xs)
    places_kept_map = places_kept xs (map f xs) (length-map xs f) map_down

  -- a test that no other element passes asks the elements at the places alone
  module _ (p : A → Bool) (only : (x : A) → test x ≡ false → p x ≡ false) (xs : List A) where
    pub any_at_places : list_any (λ k. p (get_or xs k blank)) (places_where test xs) ≡ list_any p xs
    any_at_places = any_from blank test (λ k. get_or xs k blank) p only 0 xs (reads_all blank xs)

    pub find_at_places : find (λ k. p (get_or xs k blank)) (places_where test xs) ≡ position p xs
    find_at_places = find_from blank test (λ k. get_or xs k blank) p only 0 xs (reads_all blank xs) ∙ counted (position p xs)
      where
        counted : (o : Option ℕ) → option_map (λ k. 0 + k) o ≡ o
        counted None = refl
        counted (Some k) = ap (λ i. Some i) (zero-add k)

    pub count_at_places : length (filter (λ k. p (get_or xs k blank)) (places_where test xs)) ≡ length (filter p xs)
    count_at_places = count_from blank test (λ k. get_or xs k blank) p only 0 xs (reads_all blank xs)

  -- a change that leaves each other element is one of the elements at the places alone
  module _ (f : A → A) (stays : (x : A) → test x ≡ false → f x ≡ x) where
    fold_from : (front xs : List A) (n : ℕ) → length front ≡ n → fold (λ ys k. set ys k (f (get_or ys k blank))) (front ++ xs) (places_from test n xs) ≡ front ++ map f xs
    fold_from front [] n long = refl
    fold_from front (x ∷ xs) n long =
        go (test x) refl (fold_from (front ++ f x ∷ []) xs (n + 1) (length-append front (f x ∷ []) ∙ omega (arith, long)) ∙ append_assoc front (f x ∷ []) (map f xs))
      where
        go : (b : Bool) → test x ≡ b → fold (λ ys k. set ys k (f (get_or ys k blank))) ((front ++ f x ∷ []) ++ xs) (places_from test (n + 1) xs) ≡ front ++ map f (x ∷ xs)
            → fold (λ ys k. set ys k (f (get_or ys k blank))) (front ++ x ∷ xs) (if b then n ∷ places_from test (n + 1) xs else places_from test (n + 1) xs) ≡ front ++ map f (x ∷ xs)
        go true is later =
            let read = get_or_at front x xs blank n long in
            let wrote = set_at front x xs (f x) n long in
            let one : set (front ++ x ∷ xs) n (f (get_or (front ++ x ∷ xs) n blank)) ≡ (front ++ f x ∷ []) ++ xs = ap (λ y. set (front ++ x ∷ xs) n (f y)) read ∙ wrote ∙ sym (append_assoc front (f x ∷ []) xs) in
            ap (λ ys. fold (λ ys k. set ys k (f (get_or ys k blank))) ys (places_from test (n + 1) xs)) one ∙ later
        go false is later =
            let one : front ++ x ∷ xs ≡ (front ++ f x ∷ []) ++ xs = ap (λ y. front ++ y ∷ xs) (sym (stays x is)) ∙ sym (append_assoc front (f x ∷ []) xs) in
            ap (λ ys. fold (λ ys k. set ys k (f (get_or ys k blank))) ys (places_from test (n + 1) xs)) one ∙ later

    pub fold_at_places : (xs : List A) → fold (λ ys k. set ys k (f (get_or ys k blank))) xs (places_where test xs) ≡ map f xs
    fold_at_places xs = fold_from [] xs 0 refl

-- Fewer elements

module _ {A : Type 0} (blank : A) (test : A → Bool) where
  -- the places that are left, once those of elements that no longer pass are gone
  pub places_left : (old new rows : List A) (held left : List ℕ) → held ≡ places_where test old → rows ≡ new
      → left ≡ filter (λ k. test (get_or rows k blank)) held
      → filter (λ k. test (get_or new k blank)) (places_where test old) ≡ places_where test new → left ≡ places_where test new
  places_left old new rows held left was same is step =
      is ∙ ap (λ ys. filter (λ k. test (get_or ys k blank)) held) same ∙ ap (λ ks. filter (λ k. test (get_or new k blank)) ks) was ∙ step

  module _ (off : test blank ≡ false) where
    last_goes : (ys : List A) (b : Bool) → filter (λ k. test (get_or ys k blank)) (if b then length ys ∷ [] else []) ≡ []
    last_goes ys true = let past = ap test (get_or_past ys (length ys) blank (omega arith)) ∙ off in grind (arith, past)
    last_goes ys false = refl

    -- without the last element
    pub places_popped : (ys : List A) (last : Option A) → filter (λ k. test (get_or ys k blank)) (places_where test (ys ++ option_to_list last)) ≡ places_where test ys
    places_popped ys None =
        ap (λ xs. filter (λ k. test (get_or ys k blank)) (places_where test xs)) (append-nil ys) ∙ places_kept blank test ys ys refl (λ k below done. done)
    places_popped ys (Some x) =
        ap (λ ks. filter (λ k. test (get_or ys k blank)) ks) (places-push test ys x)
        ∙ filter-append (λ k. test (get_or ys k blank)) (places_where test ys) (if test x then length ys ∷ [] else [])
        ∙ ap (λ ks. filter (λ k. test (get_or ys k blank)) (places_where test ys) ++ ks) (last_goes ys (test x))
        ∙ append-nil (filter (λ k. test (get_or ys k blank)) (places_where test ys))
        ∙ places_kept blank test ys ys refl (λ k below done. done)
