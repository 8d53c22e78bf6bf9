-- The cost of the rows of open creations: one of them changes, is closed or is opened, and offers come and go.
use Rattle.std.proofs.Common.{◌≡◌, ◌≤◌, ◌+◌, ◌==◌, ◌&&◌, ◌||◌, not, ℕ, Bool, true, false, List, [], ◌∷◌, ◌++◌, length, Some, refl, sym, subst, arith}
use Rattle.std.specs.Prelude.{if◌then◌else◌}
use Rattle.std.specs.List.{list_all}
use Rattle.mpi_base.specs.declared.keys.Key.{Key}
use Rattle.mpi_base.specs.Keys.{same_key}
use Rattle.mpi_base.proofs.KeyFacts.{same_key_is, same_key_tells}
use Rattle.agree_law.specs.declared.rows.CreationRow.{CreationRow}
use Rattle.agree_law.specs.declared.rows.Stage.{Stage}
use Rattle.agree_law.specs.declared.rows.Stage.TheVariants.{Sharing, Called, Waiting, Offered, Done}
use Rattle.agree_law.specs.Tree.{place_in, children_of}
use Rattle.agree_law.specs.Part.{Offer, stage_of, set_stage, close_creation, drop_offers}
use Rattle.agree_law.specs.Gather.{has_offer, is_ready}
use Rattle.wayout_law.specs.Potential.{sum_of, More, owed, stage_cost, row_cost}
use Rattle.wayout_law.proofs.Sums.{sum_of-le, sum_of-filter}

-- Each key has one row

abbrev pub has_no_row : Key → List CreationRow → Bool
has_no_row key [] = true
has_no_row key (o ∷ os) = not (same_key o.key key) && has_no_row key os

abbrev pub OneEach : List CreationRow → Type 0
OneEach [] = Unit {0}
OneEach (o ∷ os) = (has_no_row o.key os ≡ true) × OneEach os

-- a cost of a row by its key and its stage
abbrev by_row : (Key → Stage → ℕ) → CreationRow → ℕ
by_row g o = g o.key o.stage

set-none : (g : Key → Stage → ℕ) (os : List CreationRow) (key : Key) (s : Stage) → has_no_row key os ≡ true → sum_of (by_row g) (set_stage os key s) ≡ sum_of (by_row g) os
set-none g [] key s e = refl
set-none g (o ∷ os) key s e = go (same_key o.key key) refl (set-none g os key s)
  where
    go : (b : Bool) → same_key o.key key ≡ b → (has_no_row key os ≡ true → sum_of (by_row g) (set_stage os key s) ≡ sum_of (by_row g) os) → sum_of (by_row g) (set_stage (o ∷ os) key s) ≡ sum_of (by_row g) (o ∷ os)
    go true a ih = let z = rw a at e in absurd (cc)
    go false a ih = let i = ih (rw a at e) in rw a (omega (arith, i))

pub rows-set : (g : Key → Stage → ℕ) (os : List CreationRow) (key : Key) (s t : Stage) → OneEach os → stage_of os key ≡ Some s → sum_of (by_row g) (set_stage os key t) + g key s ≡ sum_of (by_row g) os + g key t
rows-set g [] key s t h e = absurd (cc)
rows-set g (o ∷ os) key s t h e = go (same_key o.key key) refl (rows-set g os key s t h.1)
  where
    go : (b : Bool) → same_key o.key key ≡ b → (stage_of os key ≡ Some s → sum_of (by_row g) (set_stage os key t) + g key s ≡ sum_of (by_row g) os + g key t)
        → sum_of (by_row g) (set_stage (o ∷ os) key t) + g key s ≡ sum_of (by_row g) (o ∷ os) + g key t
    go true a ih =
        let is = same_key_is o.key key a in
        let st : o.stage ≡ s = (let f : Some o.stage ≡ Some s = rw a at e in cc) in
        let none = set-none g os key t (subst (λ k. has_no_row k os ≡ true) is h.0) in
        let c : g o.key t ≡ g key t = subst (λ k. g o.key t ≡ g k t) is refl in
        let d : g o.key o.stage ≡ g key s = subst (λ k. g o.key o.stage ≡ g k s) is (subst (λ z. g o.key o.stage ≡ g o.key z) st refl) in
        rw a (omega (arith, none, c, d))
    go false a ih = let i = ih (rw a at e) in rw a (omega (arith, i))

pub rows-close : (g : Key → Stage → ℕ) (os : List CreationRow) (key : Key) (s : Stage) → stage_of os key ≡ Some s → sum_of (by_row g) (close_creation os key) + g key s ≤ sum_of (by_row g) os
rows-close g [] key s e = absurd (cc)
rows-close g (o ∷ os) key s e = go (same_key o.key key) refl (rows-close g os key s)
  where
    go : (b : Bool) → same_key o.key key ≡ b → (stage_of os key ≡ Some s → sum_of (by_row g) (close_creation os key) + g key s ≤ sum_of (by_row g) os)
        → sum_of (by_row g) (close_creation (o ∷ os) key) + g key s ≤ sum_of (by_row g) (o ∷ os)
    go true a ih =
        let is = same_key_is o.key key a in
        let st : o.stage ≡ s = (let f : Some o.stage ≡ Some s = rw a at e in cc) in
        let d : g o.key o.stage ≡ g key s = subst (λ k. g o.key o.stage ≡ g k s) is (subst (λ z. g o.key o.stage ≡ g o.key z) st refl) in
        let l = sum_of-filter (by_row g) (λ o. not (same_key o.key key)) os in
        rw a (omega (arith, d, l))
    go false a ih = let i = ih (rw a at e) in rw a (omega (arith, i))

-- one row costs less, and none costs more
pub rows-less : (f g : Key → Stage → ℕ) (os : List CreationRow) (key : Key) (s : Stage) → stage_of os key ≡ Some s → ((k : Key) (t : Stage) → f k t ≤ g k t) → f key s + 1 ≤ g key s → sum_of (by_row f) os + 1 ≤ sum_of (by_row g) os
rows-less f g [] key s e le less = absurd (cc)
rows-less f g (o ∷ os) key s e le less = go (same_key o.key key) refl (λ z. rows-less f g os key s z le less)
  where
    go : (b : Bool) → same_key o.key key ≡ b → (stage_of os key ≡ Some s → sum_of (by_row f) os + 1 ≤ sum_of (by_row g) os) → sum_of (by_row f) (o ∷ os) + 1 ≤ sum_of (by_row g) (o ∷ os)
    go true a ih =
        let is = same_key_is o.key key a in
        let st : o.stage ≡ s = (let f : Some o.stage ≡ Some s = rw a at e in cc) in
        let d : f o.key o.stage + 1 ≤ g o.key o.stage = subst (λ k. f k o.stage + 1 ≤ g k o.stage) (sym is) (subst (λ z. f key z + 1 ≤ g key z) (sym st) less) in
        let l = sum_of-le (by_row f) (by_row g) os (λ x. le x.key x.stage) in
        omega (arith, d, l)
    go false a ih = let i = ih (rw a at e) in let l = le o.key o.stage in omega (arith, i, l)

-- Offers that come and go

pub stage-owed : (n : ℕ) (more : More) (new old : List Offer) (r : ℕ) (key : Key) (s : Stage) → owed new r key ≤ owed old r key → stage_cost n more new r key s ≤ stage_cost n more old r key s
stage-owed n more new old r key (Sharing s) le = omega arith
stage-owed n more new old r key Called le = omega (arith, le)
stage-owed n more new old r key (Waiting i) le = omega arith
stage-owed n more new old r key (Offered i own) le = omega (arith, le)
stage-owed n more new old r key (Done o) le = omega arith

pub has_offer-append : (os : List Offer) (o : Offer) (key : Key) (p : ℕ) → has_offer (os ++ o ∷ []) key p ≡ (has_offer os key p || (same_key o.key key && (o.place == p)))
has_offer-append [] o key p = grind arith
has_offer-append (x ∷ os) o key p = let ih = has_offer-append os o key p in grind (arith, ih)

all-more : (f g : ℕ → Bool) (ps : List ℕ) → ((p : ℕ) → f p ≡ true → g p ≡ true) → list_all f ps ≡ true → list_all g ps ≡ true
all-more f g [] h e = refl
all-more f g (p ∷ ps) h e = let ih = all-more f g ps h in let a = h p in grind (arith, ih, a, e)

ready-append : (os : List Offer) (o : Offer) (key : Key) (p : ℕ) → is_ready os key p ≡ true → is_ready (os ++ o ∷ []) key p ≡ true
unfolding is_ready
ready-append os o key p e = all-more (has_offer os key) (has_offer (os ++ o ∷ []) key) (p ∷ children_of p (length key.members)) (λ q t. let a = has_offer-append os o key q in grind (arith, a, t)) e

pub owed-append : (os : List Offer) (o : Offer) (r : ℕ) (key : Key) → owed (os ++ o ∷ []) r key ≤ owed os r key
owed-append os o r key = go (is_ready (os ++ o ∷ []) key (place_in key.members r)) (is_ready os key (place_in key.members r)) (ready-append os o key (place_in key.members r))
  where
    go : (a b : Bool) → (b ≡ true → a ≡ true) → (if a then 0 else 1) ≤ (if b then 0 else 1)
    go true b h = omega arith
    go false false h = omega arith
    go false true h = let z = h refl in absurd (cc)

pub has_offer-drop : (os : List Offer) (key k : Key) (p : ℕ) → same_key key k ≡ false → has_offer (drop_offers os key) k p ≡ has_offer os k p
has_offer-drop [] key k p e = refl
has_offer-drop (x ∷ os) key k p e = let ih = has_offer-drop os key k p e in grind (arith, same_key_tells, ih, e)

pub all-same : (f g : ℕ → Bool) (ps : List ℕ) → ((p : ℕ) → f p ≡ g p) → list_all f ps ≡ list_all g ps
all-same f g [] h = refl
all-same f g (p ∷ ps) h = let ih = all-same f g ps h in let a = h p in grind (arith, ih, a)

owed-drop : (os : List Offer) (r : ℕ) (key k : Key) → same_key key k ≡ false → owed (drop_offers os key) r k ≡ owed os r k
unfolding is_ready
owed-drop os r key k e =
    let a = all-same (has_offer (drop_offers os key) k) (has_offer os k) (place_in k.members r ∷ children_of (place_in k.members r) (length k.members)) (λ p. has_offer-drop os key k p e) in
    rw a refl

-- the offers of a key that has a verdict are dropped: its stage then owes nothing
pub rows-decided : (n : ℕ) (more : More) (gathered : List Offer) (r : ℕ) (os : List CreationRow) (key : Key) (t : Stage)
    → ((k : Key) → stage_cost n more (drop_offers gathered key) r k t ≤ stage_cost n more gathered r k t)
    → sum_of (row_cost n more (drop_offers gathered key) r) (set_stage os key t) ≤ sum_of (row_cost n more gathered r) (set_stage os key t)
rows-decided n more gathered r [] key t same = omega arith
rows-decided n more gathered r (o ∷ os) key t same = let ih = rows-decided n more gathered r os key t same in go (same_key o.key key) refl ih
  where
    go : (b : Bool) → same_key o.key key ≡ b → sum_of (row_cost n more (drop_offers gathered key) r) (set_stage os key t) ≤ sum_of (row_cost n more gathered r) (set_stage os key t)
        → sum_of (row_cost n more (drop_offers gathered key) r) (set_stage (o ∷ os) key t) ≤ sum_of (row_cost n more gathered r) (set_stage (o ∷ os) key t)
    go true a ih = let s = same o.key in rw a (omega (arith, s, ih))
    go false a ih =
        let far : same_key key o.key ≡ false = grind (arith, same_key_tells, a) in
        let w = owed-drop gathered r key o.key far in
        let s = stage-owed n more (drop_offers gathered key) gathered r o.key o.stage (omega (arith, w)) in
        rw a (omega (arith, s, ih))
