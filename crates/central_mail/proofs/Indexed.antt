-- The place of the first element that passes a test, and a list with the places of its elements.
use Rattle.std.proofs.Common.{◌≡◌, ℕ, zero, suc, ◌+◌, ◌-◌, ◌<◌, ◌==◌, ◌&&◌, Bool, true, false, if◌then◌else◌, List, [], ◌∷◌, ◌++◌, length, map, find, slice_get, take, drop, position, Vec, Option, Some, None, option_map, refl, sym, ap, ◌∙◌, arith}
use Rattle.std.specs.List.{position_or_len}
use Rattle.std.specs.Option.{option_or}
use Rattle.std.proofs.lemmas.Bool.Decides.{nat_tests}
use Rattle.std.proofs.lemmas.List.Folds.{find_at}
use Rattle.std.proofs.lemmas.List.{append-nil, drop_all, length-drop, length-map, take_all, with_items_is}
use Rattle.std.proofs.lemmas.Option.{slice_get_past}
use Rattle.std.specs.Vec.{with_items}
use borrow.Rule.Slice.PartMut.{put_mid}
use Rattle.central_comms.specs.declared.pairs.Pair.{Pair}
use Rattle.central_comms.specs.Pairs.{found_by}
use Rattle.central_comms.specs.Places.{places_where}
use Rattle.central_comms.proofs.PlaceFacts.{position-cons}
use Rattle.central_mail.specs.Indexed.{IsIndexed, but_not}

-- The first place

module _ {A : Type 0} (p : A → Bool) where
  one_on : (b : Bool) (o : Option ℕ) (n : ℕ) → option_map (λ k. k + 1) (option_or o (if b then Some n else None)) ≡ option_or (option_map (λ k. k + 1) o) (if b then Some (n + 1) else None)
  one_on true None n = refl
  one_on false None n = refl
  one_on b (Some k) n = refl

  pub position-append : (xs : List A) (y : A) → position p (xs ++ y ∷ []) ≡ option_or (position p xs) (if p y then Some (length xs) else None)
  position-append [] y = position-cons p y []
  position-append (x ∷ xs) y =
      let here = position-cons p x xs in
      let longer = position-cons p x (xs ++ y ∷ []) in
      let later = position-append xs y in
      let on = one_on (p y) (position p xs) (length xs) in
      grind (arith, here, longer, later, on)

  pub position-map : (f : A → A) (same : (x : A) → p (f x) ≡ p x) (xs : List A) → position p (map f xs) ≡ position p xs
  position-map f same [] = refl
  position-map f same (x ∷ xs) =
      let here = position-cons p x xs in
      let there = position-cons p (f x) (map f xs) in
      let later = position-map f same xs in
      let is = same x in
      grind (arith, here, there, later, is)

  pub position_within : (xs : List A) (k : ℕ) → position p xs ≡ Some k → k < length xs
  position_within [] k at = absurd (cc (at))
  position_within (x ∷ xs) k at = go (p x) (position p xs) (position_within xs) refl (sym (position-cons p x xs) ∙ at)
    where
      go : (b : Bool) (o : Option ℕ) → ((j : ℕ) → position p xs ≡ Some j → j < length xs) → position p xs ≡ o → (if b then Some 0 else option_map (λ k. k + 1) o) ≡ Some k → k < suc (length xs)
      go true o later is at = let first : 0 ≡ k = cc (at) in omega (arith, first)
      go false None later is at = absurd (cc (at))
      go false (Some j) later is at = let next : j + 1 ≡ k = cc (at) in let below = later j is in omega (arith, next, below)

  pub find_placed : (xs : List A) (k : ℕ) → position p xs ≡ Some k → find p xs ≡ slice_get xs k
  find_placed xs k at = let is = find_at p xs in grind (arith, nat_tests, is, at)

  pub find_unplaced : (xs : List A) → position p xs ≡ None → find p xs ≡ None
  find_unplaced xs none = let is = find_at p xs in let past = slice_get_past xs (position_or_len p xs) in grind (arith, nat_tests, is, none, past)

  -- a change that leaves each element that does not pass begins at the first place
  module _ (f : A → A) (stays : (x : A) → p x ≡ false → f x ≡ x) where
    pub map_unplaced : (xs : List A) → position p xs ≡ None → map f xs ≡ xs
    map_unplaced [] none = refl
    map_unplaced (x ∷ xs) none = go (p x) (position p xs) (map_unplaced xs) refl refl (sym (position-cons p x xs) ∙ none)
      where
        go : (b : Bool) (o : Option ℕ) → (position p xs ≡ None → map f xs ≡ xs) → p x ≡ b → position p xs ≡ o → (if b then Some 0 else option_map (λ k. k + 1) o) ≡ None → map f (x ∷ xs) ≡ x ∷ xs
        go true o later fails is none = absurd (cc (none))
        go false (Some j) later fails is none = absurd (cc (none))
        go false None later fails is none = ap (λ y. y ∷ map f xs) (stays x fails) ∙ ap (λ ys. x ∷ ys) (later is)

    pub map_from_placed : (xs : List A) (k : ℕ) → position p xs ≡ Some k → take k xs ++ map f (drop k xs) ≡ map f xs
    map_from_placed [] k at = absurd (cc (at))
    map_from_placed (x ∷ xs) zero at = refl
    map_from_placed (x ∷ xs) (suc k) at = go (p x) (position p xs) (map_from_placed xs k) refl refl (sym (position-cons p x xs) ∙ at)
      where
        go : (b : Bool) (o : Option ℕ) → (position p xs ≡ Some k → take k xs ++ map f (drop k xs) ≡ map f xs) → p x ≡ b → position p xs ≡ o → (if b then Some 0 else option_map (λ k. k + 1) o) ≡ Some (suc k) → take (suc k) (x ∷ xs) ++ map f (drop (suc k) (x ∷ xs)) ≡ map f (x ∷ xs)
        go true o later fails is at = let first : 0 ≡ suc k = cc (at) in absurd (omega (arith, first))
        go false None later fails is at = absurd (cc (at))
        go false (Some j) later fails is at =
            let next : j + 1 ≡ suc k = cc (at) in
            let same : j ≡ k = omega (arith, next) in
            ap (λ ys. x ∷ ys) (later (is ∙ ap (λ i. Some i) same)) ∙ ap (λ y. y ∷ map f xs) (sym (stays x fails))

    -- rows of which those from the first place on were lent and changed
    pub rows_changed : {Z : Type 0} (v : Vec A Z) (xs ys : List A) (k : ℕ) → xs ≡ v.items → length xs ≡ v.len → position p v.items ≡ Some k → ys ≡ map f (take (length xs - k) (drop k xs))
        → (with_items v (put_mid k (length xs - k) xs ys)).items ≡ map f v.items
    rows_changed v xs ys k same long at are =
        let placed : position p xs ≡ Some k = ap (λ l. position p l) same ∙ at in
        let below = position_within xs k placed in
        let rest : ys ≡ map f (drop k xs) = are ∙ ap (λ l. map f l) (take_all (length xs - k) (drop k xs) (omega (arith, length-drop k xs))) in
        let none : drop (length xs - k) (drop k xs) ≡ [] = drop_all (length xs - k) (drop k xs) (omega (arith, length-drop k xs)) in
        let whole : put_mid k (length xs - k) xs ys ≡ map f xs = ap (λ l. take k xs ++ (ys ++ l)) none ∙ ap (λ l. take k xs ++ l) (append-nil ys ∙ rest) ∙ map_from_placed xs k placed in
        with_items_is v (put_mid k (length xs - k) xs ys) (ap (λ l. length l) whole ∙ length-map xs f ∙ long) ∙ whole ∙ ap (λ l. map f l) same

-- The places that are found

module _ {A : Type 0} (passes : A → Bool) (numbered : ℕ → ℕ → A → Bool) (held kept : List ℕ) (old new : List (Pair × ℕ)) (was now : List A) (before : IsIndexed passes numbered held old was) where
  -- one element more or less, with these two numbers, at this place
  module _ (first second place : ℕ) (x : A) (own : (a b : ℕ) → numbered a b x ≡ ((first == a) && (second == b))) where
    pub indexed_pushed : place ≡ length was → now ≡ was ++ x ∷ [] → kept ≡ places_where passes now
        → ((a b : ℕ) → found_by new a b ≡ option_or (found_by old a b) (if (first == a) && (second == b) then Some place else None))
        → IsIndexed passes numbered kept new now
    indexed_pushed at more passing is = record {
      passing = passing;
      first = λ a b.
          is a b
          ∙ ap (λ o. option_or o (if (first == a) && (second == b) then Some place else None)) (before.first a b)
          ∙ ap (λ t. option_or (position (numbered a b) was) (if t then Some place else None)) (sym (own a b))
          ∙ ap (λ n. option_or (position (numbered a b) was) (if numbered a b x then Some n else None)) at
          ∙ sym (position-append (numbered a b) was x)
          ∙ ap (λ rows. position (numbered a b) rows) (sym more);
    }

    -- a place below the last is found still, and the last where it was found is not
    without_last : (t : Bool) (o : Option ℕ) → ((k : ℕ) → o ≡ Some k → k < length now)
        → (if t then but_not (length now) (option_or o (if t then Some (length now) else None)) else option_or o (if t then Some (length now) else None)) ≡ o
    without_last true None below = grind (arith, nat_tests)
    without_last true (Some k) below = let less = below k refl in grind (arith, nat_tests, less)
    without_last false None below = refl
    without_last false (Some k) below = refl

    pub indexed_popped : place ≡ length now → was ≡ now ++ x ∷ [] → kept ≡ places_where passes now
        → ((a b : ℕ) → found_by new a b ≡ (if (first == a) && (second == b) then but_not place (found_by old a b) else found_by old a b))
        → IsIndexed passes numbered kept new now
    indexed_popped at less passing is = record {
      passing = passing;
      first = λ a b.
          let found : found_by old a b ≡ option_or (position (numbered a b) now) (if (first == a) && (second == b) then Some (length now) else None) =
          before.first a b ∙ ap (λ rows. position (numbered a b) rows) less ∙ position-append (numbered a b) now x
          ∙ ap (λ t. option_or (position (numbered a b) now) (if t then Some (length now) else None)) (own a b) in
          is a b
          ∙ ap (λ n. if (first == a) && (second == b) then but_not n (found_by old a b) else found_by old a b) at
          ∙ ap (λ o. if (first == a) && (second == b) then but_not (length now) o else o) found
          ∙ without_last ((first == a) && (second == b)) (position (numbered a b) now) (position_within (numbered a b) now);
    }

  -- each element changed, but not its numbers
  pub indexed_changed : (f : A → A) → ((a b : ℕ) (x : A) → numbered a b (f x) ≡ numbered a b x) → now ≡ map f was → kept ≡ places_where passes now
      → IsIndexed passes numbered kept old now
  indexed_changed f same are passing = record {
    passing = passing;
    first = λ a b. before.first a b ∙ sym (position-map (numbered a b) f (same a b) was) ∙ ap (λ rows. position (numbered a b) rows) (sym are);
  }
