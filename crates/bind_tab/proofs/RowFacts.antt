-- Rows of names, as the map keeps them and as contracts see them.
use Rattle.std.proofs.Common.{◌≡◌, ℕ, Bool, true, false, List, [], ◌∷◌, map, Option, Some, None, option_map, bytes_eq, refl, sym, ap, ◌∙◌, arith}
use Rattle.std.specs.Map.{lookup, set_value, remove_entry}
use Rattle.std.proofs.lemmas.Map.Keys.{IsDistinct-tail}
use Rattle.local_law.proofs.Lookups.{bytes_eq-flip, Lacks, lacking_rest}
use Rattle.local_law.proofs.Renamed.{bound_of-renamed, unbind-renamed, rebind-renamed}
use Rattle.local_law.specs.Objects as objects
use Rattle.bind_tab.specs.declared.bound.Bound.{Bound}
use Rattle.bind_tab.specs.Rows.{seen}
use Rattle.local_law.specs.Names.{Rows, bound_of, rebind, unbind, unbind_all}
use Rattle.local_law.specs.Renaming.{renamed_rows}
use Rattle.local_law.specs.NameFacts.{AreDistinct}

lookup_is : (rows : Rows Bound) (name : List ℕ) → lookup (bytes_eq name) rows ≡ bound_of rows name
lookup_is [] name = refl
lookup_is (row ∷ rows) name =
    let later = lookup_is rows name in
    let flip = bytes_eq-flip name row.0 in
    grind (arith, later, flip)

-- what the map finds, as contracts see it
pub found-seen : (rows : Rows Bound) (name : List ℕ) → option_map seen (lookup (bytes_eq name) rows) ≡ bound_of (renamed_rows seen rows) name
found-seen rows name = ap (λ (found : Option Bound). option_map seen found) (lookup_is rows name) ∙ sym (bound_of-renamed seen rows name)

-- what is not found is not in the map
pub absent-seen : (found : Option Bound) → option_map seen found ≡ None → found ≡ None
absent-seen None absent = refl
absent-seen (Some bound) absent = absurd (cc (absent))

-- names are the same, whatever they are bound to
pub names-seen : (rows : Rows Bound) → map (λ r. r.0) (renamed_rows seen rows) ≡ map (λ r. r.0) rows
names-seen [] = refl
names-seen (row ∷ rows) = ap (λ (names : List (List ℕ)). row.0 ∷ names) (names-seen rows)

unbind-lacking : (rows : Rows Bound) (name : List ℕ) → Lacks rows name → unbind rows name ≡ rows
unbind-lacking [] name lack = refl
unbind-lacking (row ∷ rows) name lack =
    let later = unbind-lacking rows name lack.1 in
    let flip = bytes_eq-flip name row.0 in
    grind (arith, later, flip, lack.0)

rebind-lacking : (rows : Rows Bound) (name : List ℕ) (bound : Bound) → Lacks rows name → rebind rows name bound ≡ rows
rebind-lacking [] name bound lack = refl
rebind-lacking (row ∷ rows) name bound lack =
    let later = rebind-lacking rows name bound lack.1 in
    let flip = bytes_eq-flip name row.0 in
    grind (arith, later, flip, lack.0)

-- without the name nothing is bound to something else
pub rebind-absent : {B : Type 0} (rows : Rows B) (name : List ℕ) (bound : B) → bound_of rows name ≡ None → rebind rows name bound ≡ rows
rebind-absent [] name bound absent = refl
rebind-absent (row ∷ rows) name bound absent = go (bytes_eq row.0 name) refl (rebind-absent rows name bound)
  where
    go : (b : Bool) → bytes_eq row.0 name ≡ b → (bound_of rows name ≡ None → rebind rows name bound ≡ rows) → rebind (row ∷ rows) name bound ≡ row ∷ rows
    go true same later = absurd (cc (absent, same))
    go false differs later =
        let rest : bound_of rows name ≡ None = grind (arith, absent, differs) in
        let here = later rest in
        grind (arith, differs, here)

-- the first row with the name is the only one
remove_entry_is : (rows : Rows Bound) (name : List ℕ) → AreDistinct rows → remove_entry (bytes_eq name) rows ≡ unbind rows name
remove_entry_is [] name distinct = refl
remove_entry_is (row ∷ rows) name distinct = go (bytes_eq name row.0) refl (remove_entry_is rows name (IsDistinct-tail bytes_eq row.0 (map (λ r. r.0) rows) distinct))
  where
    flip : bytes_eq name row.0 ≡ bytes_eq row.0 name
    flip = bytes_eq-flip name row.0

    go : (b : Bool) → bytes_eq name row.0 ≡ b → remove_entry (bytes_eq name) rows ≡ unbind rows name
        → remove_entry (bytes_eq name) (row ∷ rows) ≡ unbind (row ∷ rows) name
    go true same later =
        let alone = unbind-lacking rows name (lacking_rest row rows name distinct same) in
        grind (arith, flip, same, alone)
    go false differs later = grind (arith, flip, differs, later)

set_value_is : (rows : Rows Bound) (name : List ℕ) (bound : Bound) → AreDistinct rows → set_value (bytes_eq name) rows bound ≡ rebind rows name bound
set_value_is [] name bound distinct = refl
set_value_is (row ∷ rows) name bound distinct = go (bytes_eq name row.0) refl (set_value_is rows name bound (IsDistinct-tail bytes_eq row.0 (map (λ r. r.0) rows) distinct))
  where
    flip : bytes_eq name row.0 ≡ bytes_eq row.0 name
    flip = bytes_eq-flip name row.0

    go : (b : Bool) → bytes_eq name row.0 ≡ b → set_value (bytes_eq name) rows bound ≡ rebind rows name bound
        → set_value (bytes_eq name) (row ∷ rows) bound ≡ rebind (row ∷ rows) name bound
    go true same later =
        let alone = rebind-lacking rows name bound (lacking_rest row rows name distinct same) in
        grind (arith, flip, same, alone)
    go false differs later = grind (arith, flip, differs, later)

-- what the map keeps where a name is taken out, or bound to something else, as contracts see it
pub removed-seen : (rows : Rows Bound) (name : List ℕ) → AreDistinct rows → renamed_rows seen (remove_entry (bytes_eq name) rows) ≡ unbind (renamed_rows seen rows) name
removed-seen rows name distinct = ap (λ (rest : Rows Bound). renamed_rows seen rest) (remove_entry_is rows name distinct) ∙ unbind-renamed seen rows name

pub set_value-seen : (rows : Rows Bound) (name : List ℕ) (bound : Bound) → AreDistinct rows
    → renamed_rows seen (set_value (bytes_eq name) rows bound) ≡ rebind (renamed_rows seen rows) name (seen bound)
set_value-seen rows name bound distinct = ap (λ (rest : Rows Bound). renamed_rows seen rest) (set_value_is rows name bound distinct) ∙ rebind-renamed seen rows name bound

-- what the map keeps where names are taken out by what they are bound to
pub kept-seen : (rows : Rows Bound) (test : objects.Bound ℕ ℕ → Bool) → renamed_rows seen (unbind_all rows (λ bound. test (seen bound))) ≡ unbind_all (renamed_rows seen rows) test
kept-seen [] test = refl
kept-seen (row ∷ rows) test = let later = kept-seen rows test in grind (arith, later)
