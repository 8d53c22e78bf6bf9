-- Each key has one row at a rank: what opening, changing and closing a creation keeps of it.
use Rattle.std.proofs.Common.{◌≡◌, ◌&&◌, not, Bool, true, false, List, [], ◌∷◌, Some, None, refl, ◌∙◌, arith}
use Rattle.std.specs.Prelude.{if◌then◌else◌}
use Rattle.mpi_base.specs.declared.keys.Key.{Key}
use Rattle.mpi_base.specs.Keys.{same_key}
use Rattle.mpi_base.proofs.KeyFacts.{same_key_tells}
use Rattle.agree_law.specs.declared.rows.CreationRow.{CreationRow}
use Rattle.agree_law.specs.declared.rows.Stage.{Stage}
use Rattle.agree_law.specs.Part.{stage_of, open_creation, set_stage, close_creation}
use Rattle.wayout_law.proofs.Rows.{has_no_row, OneEach}

pub no_row : (os : List CreationRow) (key : Key) → stage_of os key ≡ None → has_no_row key os ≡ true
no_row [] key e = refl
no_row (o ∷ os) key e = let ih = no_row os key in go (same_key o.key key) refl ih
  where
    go : (b : Bool) → same_key o.key key ≡ b → (stage_of os key ≡ None → has_no_row key os ≡ true) → (not (same_key o.key key) && has_no_row key os) ≡ true
    go true s ih = let z : Some o.stage ≡ None = rw s at e in absurd (cc)
    go false s ih = let i = ih (rw s at e) in rw (s, i) refl

no_row-open : (os : List CreationRow) (k key : Key) (s : Stage) → has_no_row k os ≡ true → same_key key k ≡ false → has_no_row k (open_creation os key s) ≡ true
no_row-open [] k key s e f = rw f refl
no_row-open (o ∷ os) k key s e f = let ih = no_row-open os k key s (grind (arith, e)) f in grind (arith, e, ih)

pub one-open : (os : List CreationRow) (key : Key) (s : Stage) → OneEach os → has_no_row key os ≡ true → OneEach (open_creation os key s)
one-open [] key s h e = (refl, tt)
one-open (o ∷ os) key s h e =
    let far : same_key key o.key ≡ false = (let a = same_key_tells key o.key in let b = same_key_tells o.key key in grind (arith, a, b, e)) in
    (no_row-open os o.key key s h.0 far, one-open os key s h.1 (grind (arith, e)))

no_row-set : (os : List CreationRow) (k key : Key) (s : Stage) → has_no_row k (set_stage os key s) ≡ has_no_row k os
no_row-set [] k key s = refl
no_row-set (o ∷ os) k key s = let ih = no_row-set os k key s in go (same_key o.key key) ih
  where
    go : (b : Bool) → has_no_row k (set_stage os key s) ≡ has_no_row k os → has_no_row k ((if b then record { key = o.key; stage = s } else o) ∷ set_stage os key s) ≡ has_no_row k (o ∷ os)
    go true ih = rw ih refl
    go false ih = rw ih refl

pub one-set : (os : List CreationRow) (key : Key) (s : Stage) → OneEach os → OneEach (set_stage os key s)
one-set [] key s h = tt
one-set (o ∷ os) key s h = let ih = one-set os key s h.1 in go (same_key o.key key) ih
  where
    go : (b : Bool) → OneEach (set_stage os key s) → OneEach ((if b then record { key = o.key; stage = s } else o) ∷ set_stage os key s)
    go true ih = (no_row-set os o.key key s ∙ h.0, ih)
    go false ih = (no_row-set os o.key key s ∙ h.0, ih)

no_row-close : (os : List CreationRow) (k key : Key) → has_no_row k os ≡ true → has_no_row k (close_creation os key) ≡ true
no_row-close [] k key e = refl
no_row-close (o ∷ os) k key e = let ih = no_row-close os k key (grind (arith, e)) in go (not (same_key o.key key)) ih
  where
    go : (b : Bool) → has_no_row k (close_creation os key) ≡ true → has_no_row k (if b then o ∷ close_creation os key else close_creation os key) ≡ true
    go true ih = grind (arith, e, ih)
    go false ih = ih

pub one-close : (os : List CreationRow) (key : Key) → OneEach os → OneEach (close_creation os key)
one-close [] key h = tt
one-close (o ∷ os) key h = let ih = one-close os key h.1 in go (not (same_key o.key key)) ih
  where
    go : (b : Bool) → OneEach (close_creation os key) → OneEach (if b then o ∷ close_creation os key else close_creation os key)
    go true ih = (no_row-close os o.key key h.0, ih)
    go false ih = ih
