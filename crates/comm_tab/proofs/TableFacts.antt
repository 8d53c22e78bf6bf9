-- What is found among rows, and what a change of them keeps.
use Rattle.std.proofs.Common.{◌≡◌, ◌≢◌, ℕ, zero, suc, ◌+◌, ◌<◌, ◌≤◌, ◌==◌, Bool, true, false, if◌then◌else◌, List, [], ◌∷◌, ◌++◌, length, map, filter, take, Some, None, slice_get, add-one, refl, ◌∙◌, arith}
use Rattle.std.specs.List.{list_all, list_any}
use Rattle.std.proofs.lemmas.Bool.Decides.{nat_tests}
use Rattle.comm_law.specs.declared.rows.CommRow.{CommRow}
use Rattle.comm_law.specs.declared.rows.MarkerRow.{MarkerRow}
use Rattle.comm_law.specs.Comms.{Comms, changed, add}
use Rattle.comm_tab.specs.Tables.{rise, IsOrderly}

-- All of a list

pub one_fails : {X : Type 0} (test : X → Bool) (xs : List X) (i : ℕ) (x : X) → Some x ≡ slice_get xs i → test x ≡ false → list_all test xs ≡ false
one_fails test [] i x at fails = absurd (cc (at))
one_fails test (y ∷ ys) zero x at fails = grind (arith, at, fails)
one_fails test (y ∷ ys) (suc i) x at fails = let later = one_fails test ys i x at fails in grind (arith, later)

next_passes : {X : Type 0} (test : X → Bool) (xs : List X) (i : ℕ) (x : X) → Some x ≡ slice_get xs i → test x ≡ true → list_all test (take i xs) ≡ true
    → list_all test (take (suc i) xs) ≡ true
next_passes test [] i x at pass all = absurd (cc (at))
next_passes test (y ∷ ys) zero x at pass all = grind (arith, at, pass)
next_passes test (y ∷ ys) (suc i) x at pass all =
    let later = next_passes test ys i x at pass (grind (arith, all)) in
    grind (arith, later, all)

pub one_more_passes : {X : Type 0} (test : X → Bool) (xs : List X) (i : ℕ) (x : X) → Some x ≡ slice_get xs i → test x ≡ true → list_all test (take i xs) ≡ true
    → list_all test (take (i + 1) xs) ≡ true
one_more_passes test xs i x at pass all = rw (add-one i) (next_passes test xs i x at pass all)

-- there is one below the end
pub none_below : {X : Type 0} (xs : List X) (i : ℕ) → None ≡ slice_get xs i → length xs ≤ i
none_below [] i at = omega arith
none_below (x ∷ xs) zero at = absurd (cc (at))
none_below (x ∷ xs) (suc i) at = omega (arith, none_below xs i at)

-- Rows that change

module _ (test : CommRow → Bool) (f : CommRow → CommRow) (serial : (m : CommRow) → (f m).serial ≡ m.serial) where
  rise-changed : (below top : ℕ) (rows : List CommRow) → rise below top (map (λ m. if test m then f m else m) rows) ≡ rise below top rows
  rise-changed below top [] = refl
  rise-changed below top (m ∷ ms) = let later = rise-changed m.serial top ms in let same = serial m in grind (arith, later, same)

  pub IsOrderly-changed : (t : Comms) → IsOrderly t → IsOrderly (changed test f t)
  IsOrderly-changed t is = record { given = rise-changed 0 t.added t.rows ∙ is.given }

-- Rows that are taken out

module _ (test : CommRow → Bool) where
  rise-lower : (below first top : ℕ) (rows : List CommRow) → below ≤ first → rise first top rows ≡ true → rise below top rows ≡ true
  rise-lower below first top [] low up = refl
  rise-lower below first top (m ∷ ms) low up = grind (arith, nat_tests, low, up)

  rise-filter : (below top : ℕ) (rows : List CommRow) → rise below top rows ≡ true → rise below top (filter test rows) ≡ true
  rise-filter below top [] up = refl
  rise-filter below top (m ∷ ms) up =
      let later = rise-filter m.serial top ms (grind (arith, up)) in
      let lower = rise-lower below m.serial top (filter test ms) (grind (arith, nat_tests, up)) later in
      grind (arith, up, later, lower)

  pub IsOrderly-filter : (t : Comms) (noted : List MarkerRow) → IsOrderly t → IsOrderly (record { rows = filter test t.rows; added = t.added; noted = noted })
  IsOrderly-filter t noted is = record { given = rise-filter 0 t.added t.rows is.given }

-- One row more

rise-more : (below top : ℕ) (rows : List CommRow) (row : CommRow) → below ≤ top → row.serial ≡ top + 1 → rise below top rows ≡ true → rise below (top + 1) (rows ++ row ∷ []) ≡ true
rise-more below top [] row low last up = grind (arith, nat_tests, low, last)
rise-more below top (m ∷ ms) row low last up =
    let here : m.serial ≤ top = grind (arith, nat_tests, up) in
    let later = rise-more m.serial top ms row here last (grind (arith, up)) in
    grind (arith, nat_tests, up, here, later)

pub IsOrderly-add : (t : Comms) (c : ℕ) (members : List ℕ) (session : ℕ) → IsOrderly t → IsOrderly (add t c members session)
IsOrderly-add t c members session is = record { given = rise-more 0 t.added t.rows _ (omega arith) refl is.given }

-- a serial above those given is no row's
pub none_above : (below top : ℕ) (rows : List CommRow) (n : ℕ) → rise below top rows ≡ true → top < n → list_any (λ m. m.serial == n) rows ≡ false
none_above below top [] n up above = refl
none_above below top (m ∷ ms) n up above =
    let later = none_above m.serial top ms n (grind (arith, up)) above in
    grind (arith, nat_tests, up, above, later)

-- A row that passes a test of numbers is changed, another one stays

module _ (f : CommRow → CommRow) (m : CommRow) (a b : ℕ) where
  pub changed_where : a ≡ b → f m ≡ (if a == b then f m else m)
  changed_where same =
      let test : (a == b) ≡ true = grind (arith, nat_tests, same) in
      rw test refl

  pub kept_elsewhere : a ≢ b → m ≡ (if a == b then f m else m)
  kept_elsewhere other =
      let test : (a == b) ≡ false = grind (arith, nat_tests, other) in
      rw test refl
