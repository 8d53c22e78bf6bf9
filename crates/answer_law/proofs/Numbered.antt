-- Items whose numbers rise: the messages of a sender and the receives of a rank, as they are sent and posted.
use Rattle.std.proofs.Common.{◌≡◌, ◌≤◌, ◌<◌, ◌==◌, ℕ, Bool, true, false, ◌&&◌, if◌then◌else◌, List, [], ◌∷◌, ◌++◌, Option, Some, None, find, map, refl, arith}
use Rattle.std.specs.Prelude.{nat_lt, nat_le}
use Rattle.std.specs.List.{list_any}
use Rattle.std.proofs.lemmas.Bool.Decides.{nat_tests}

-- the numbers of those that pass a test rise, and lie above a number and not above another
abbrev pub rises : {A : Type 0} → (A → Bool) → (A → ℕ) → ℕ → ℕ → List A → Bool
rises mine number a b [] = nat_le a b
rises mine number a b (x ∷ xs) = if mine x then nat_lt a (number x) && rises mine number (number x) b xs else rises mine number a b xs

module _ {A : Type 0} (mine : A → Bool) (number : A → ℕ) where
  pub rises_more : (xs : List A) (y : A) (a b : ℕ) → rises mine number a b xs ≡ true → mine y ≡ true → b < number y → rises mine number a (number y) (xs ++ y ∷ []) ≡ true
  rises_more [] y a b h m l = grind (arith, nat_tests, h, m, l)
  rises_more (x ∷ xs) y a b h m l = let one = rises_more xs y (number x) b in let two = rises_more xs y a b in grind (arith, nat_tests, one, two, h, m, l)

  pub rises_other : (xs : List A) (y : A) (a b : ℕ) → rises mine number a b xs ≡ true → mine y ≡ false → rises mine number a b (xs ++ y ∷ []) ≡ true
  rises_other [] y a b h m = grind (arith, nat_tests, h, m)
  rises_other (x ∷ xs) y a b h m = let one = rises_other xs y (number x) b in let two = rises_other xs y a b in grind (arith, nat_tests, one, two, h, m)

  pub rises_changed : (f : A → A) (xs : List A) (a b : ℕ) → ((x : A) → mine (f x) ≡ mine x) → ((x : A) → number (f x) ≡ number x) → rises mine number a b xs ≡ true → rises mine number a b (map f xs) ≡ true
  rises_changed f [] a b g h e = e
  rises_changed f (x ∷ xs) a b g h e = let one = rises_changed f xs (number x) b g h in let two = rises_changed f xs a b g h in let p = g x in let q = h x in grind (arith, nat_tests, one, two, p, q, e)

  none_low : (xs : List A) (a b n : ℕ) → rises mine number a b xs ≡ true → n ≤ a → find (λ x. mine x && (number x == n)) xs ≡ None
  none_low [] a b n h l = refl
  none_low (x ∷ xs) a b n h l = let one = none_low xs (number x) b n in let two = none_low xs a b n in grind (arith, nat_tests, one, two, h, l)

  -- the item with a number is the first that passes a test, where none with a lower number passes it
  pub first_of : (test : A → Bool) (xs : List A) (a b n : ℕ) (m : A) → rises mine number a b xs ≡ true → find (λ x. mine x && (number x == n)) xs ≡ Some m → test m ≡ true
      → list_any (λ x. mine x && (nat_lt (number x) n && test x)) xs ≡ false → find (λ x. mine x && test x) xs ≡ Some m
  first_of test [] a b n m h e t f = absurd (cc)
  first_of test (x ∷ xs) a b n m h e t f =
      let one = first_of test xs (number x) b n m in
      let two = first_of test xs a b n m in
      let low = none_low xs (number x) b n in
      grind (arith, nat_tests, one, two, low, h, e, t, f)

-- of one rank: the items rise up to a bound that is not above its count, and one that it is about to add has this count as its
-- number, above the bound
pub record Line {A : Type 0} (mine : A → Bool) (number : A → ℕ) (count : ℕ) (pending : ℕ → Option A) (Good : A → Type 0) (xs : List A) : Type 0 where
  pub bound : ℕ
  pub rising : rises mine number 0 bound xs ≡ true
  pub below : bound ≤ count
  pub mine_next : (u : ℕ) (y : A) → pending u ≡ Some y → mine y ≡ true
  pub number_next : (u : ℕ) (y : A) → pending u ≡ Some y → number y ≡ count
  pub above_next : (u : ℕ) (y : A) → pending u ≡ Some y → bound < number y
  pub good_next : (u : ℕ) (y : A) → pending u ≡ Some y → Good y

module _ {A : Type 0} (mine : A → Bool) (number : A → ℕ) where
  -- nothing is added, and no more is about to be
  pub line_less : (count : ℕ) (pending less : ℕ → Option A) (Good Better : A → Type 0) (xs : List A) → ((u : ℕ) (y : A) → less u ≡ Some y → pending u ≡ Some y) → ((y : A) → Good y → Better y)
      → Line mine number count pending Good xs → Line mine number count less Better xs
  line_less count pending less Good Better xs f g h = record {
    bound = h.bound;
    rising = h.rising;
    below = h.below;
    mine_next = λ u y e. h.mine_next u y (f u y e);
    number_next = λ u y e. h.number_next u y (f u y e);
    above_next = λ u y e. h.above_next u y (f u y e);
    good_next = λ u y e. g y (h.good_next u y (f u y e));
  }

  pub line_changed : (count : ℕ) (pending : ℕ → Option A) (Good : A → Type 0) (f : A → A) (xs : List A) → ((x : A) → mine (f x) ≡ mine x) → ((x : A) → number (f x) ≡ number x)
      → Line mine number count pending Good xs → Line mine number count pending Good (map f xs)
  line_changed count pending Good f xs g k h = record {
    bound = h.bound;
    rising = rises_changed mine number f xs 0 h.bound g k h.rising;
    below = h.below;
    mine_next = h.mine_next;
    number_next = h.number_next;
    above_next = h.above_next;
    good_next = h.good_next;
  }

  -- a call, where nothing was about to be added
  pub line_called : (count more : ℕ) (pending next : ℕ → Option A) (Good : A → Type 0) (xs : List A) → count ≤ more → ((u : ℕ) (y : A) → next u ≡ Some y → (mine y ≡ true) × (number y ≡ more) × (count < more) × Good y)
      → Line mine number count pending Good xs → Line mine number more next Good xs
  line_called count more pending next Good xs l f h =
      let b = h.below in
      record {
        bound = h.bound;
        rising = h.rising;
        below = omega (arith, b, l);
        mine_next = λ u y e. (f u y e).0;
        number_next = λ u y e. (f u y e).1;
        above_next = λ u y e. (let k = f u y e in let i = k.1 in let z = k.2 in omega (arith, b, i, z));
        good_next = λ u y e. (f u y e).3;
      }

  -- what was about to be added is added, and nothing else is about to be
  pub line_added : (count : ℕ) (pending less : ℕ → Option A) (Good : A → Type 0) (xs : List A) (u : ℕ) (y : A) → pending u ≡ Some y → ((v : ℕ) (z : A) → less v ≡ Some z → ⊥)
      → Line mine number count pending Good xs → Line mine number count less Good (xs ++ y ∷ [])
  line_added count pending less Good xs u y e none h =
      let n = h.number_next u y e in
      record {
        bound = number y;
        rising = rises_more mine number xs y 0 h.bound h.rising (h.mine_next u y e) (h.above_next u y e);
        below = omega (arith, n);
        mine_next = λ v z f. absurd (none v z f);
        number_next = λ v z f. absurd (none v z f);
        above_next = λ v z f. absurd (none v z f);
        good_next = λ v z f. absurd (none v z f);
      }

  -- another rank adds one
  pub line_other : (count : ℕ) (pending : ℕ → Option A) (Good : A → Type 0) (xs : List A) (y : A) → mine y ≡ false → Line mine number count pending Good xs → Line mine number count pending Good (xs ++ y ∷ [])
  line_other count pending Good xs y e h = record {
    bound = h.bound;
    rising = rises_other mine number xs y 0 h.bound h.rising e;
    below = h.below;
    mine_next = h.mine_next;
    number_next = h.number_next;
    above_next = h.above_next;
    good_next = h.good_next;
  }
