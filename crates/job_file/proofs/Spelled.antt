-- Lines that spell operations, and lines that do not.
use Rattle.std.proofs.Common.{◌≡◌, ℕ, ◌+◌, Bool, true, false, List, [], ◌∷◌, ◌++◌, Option, Some, None, refl}
use Rattle.mpi_base.specs.declared.ops.Op.{Op}
use Rattle.script_text.specs.Spelling.{IsOp, Spells}
use Rattle.script_text.specs.Faults.{fault_of}
use Rattle.script_text.specs.declared.faults.LineFault.{LineFault}
use Rattle.job_file.specs.Lines.{body_of, is_blank, SpellsFirst, Spell, line_fault, at_line, first_fault}

-- What holds of spellings, as the laws of lines say it

abbrev pub Alone : Type 0
Alone = (line : List ℕ) (a b : Op) → IsOp a → IsOp b → Spells line a → Spells line b → a ≡ b

abbrev pub Good : Type 0
Good = (line : List ℕ) (op : Op) → IsOp op → Spells line op → fault_of line ≡ None

-- What lines spell

-- lines one behind another spell operations one behind another
pub spell_both : (a b : List (List ℕ)) (xs ys : List Op) → Spell a xs → Spell b ys → Spell (a ++ b) (xs ++ ys)
spell_both [] b [] ys p q = q
spell_both [] b (x ∷ xs) ys p q = absurd p
spell_both (line ∷ a) b xs ys p q = go (is_blank line) xs p (λ zs h. spell_both a b zs ys h q)
  where
    go : (t : Bool) (xs : List Op) → SpellsFirst t (body_of line) (Spell a) xs → ((zs : List Op) → Spell a zs → Spell (a ++ b) (zs ++ ys)) → SpellsFirst t (body_of line) (Spell (a ++ b)) (xs ++ ys)
    go true xs p more = more xs p
    go false [] p more = absurd p
    go false (x ∷ xs) p more = (p.0, p.1, more xs p.2)

-- the same lines spell the same operations
pub spell_once : Alone → (lines : List (List ℕ)) (xs ys : List Op) → Spell lines xs → Spell lines ys → xs ≡ ys
spell_once alone [] [] [] p q = refl
spell_once alone [] [] (y ∷ ys) p q = absurd q
spell_once alone [] (x ∷ xs) ys p q = absurd p
spell_once alone (line ∷ a) xs ys p q = go (is_blank line) xs ys p q (λ zs ws h k. spell_once alone a zs ws h k)
  where
    go : (t : Bool) (xs ys : List Op) → SpellsFirst t (body_of line) (Spell a) xs → SpellsFirst t (body_of line) (Spell a) ys → ((zs ws : List Op) → Spell a zs → Spell a ws → zs ≡ ws) → xs ≡ ys
    go true xs ys p q more = more xs ys p q
    go false [] ys p q more = absurd p
    go false (x ∷ xs) [] p q more = absurd q
    go false (x ∷ xs) (y ∷ ys) p q more =
        let e = alone (body_of line) x y p.0 q.0 p.1 q.1 in
        let r = more xs ys p.2 q.2 in
        cc (e, r)

-- Faults of lines

-- lines that spell operations have no fault
pub spell_good : Good → (n : ℕ) (lines : List (List ℕ)) (xs : List Op) → Spell lines xs → first_fault n lines ≡ None
spell_good good n [] xs p = refl
spell_good good n (line ∷ a) xs p = go (is_blank line) refl xs p (λ zs h. spell_good good (n + 1) a zs h)
  where
    go : (t : Bool) → is_blank line ≡ t → (xs : List Op) → SpellsFirst t (body_of line) (Spell a) xs → ((zs : List Op) → Spell a zs → first_fault (n + 1) a ≡ None) → first_fault n (line ∷ a) ≡ None
    go true e xs p more = rw e (more xs p)
    go false e [] p more = absurd p
    go false e (x ∷ xs) p more = rw (e, good (body_of line) x p.0 p.1) (more xs p.2)

-- no line has a fault, whatever the number of the first one
abbrev pub HasNoFault : List (List ℕ) → Type 0
HasNoFault [] = Unit {0}
HasNoFault (line ∷ lines) = (line_fault line ≡ None) × HasNoFault lines

pub good_line : (n : ℕ) (line : List ℕ) (lines : List (List ℕ)) → first_fault n (line ∷ lines) ≡ None → (line_fault line ≡ None) × (first_fault (n + 1) lines ≡ None)
good_line n line lines e = go (line_fault line) e
  where
    go : (o : Option LineFault) → at_line n o (first_fault (n + 1) lines) ≡ None → (o ≡ None) × (first_fault (n + 1) lines ≡ None)
    go None h = (refl, h)
    go (Some f) h = absurd (cc (h))

-- where there is no first fault, no line has one
pub no_fault : (n : ℕ) (lines : List (List ℕ)) → first_fault n lines ≡ None → HasNoFault lines
no_fault n [] e = tt
no_fault n (line ∷ lines) e = let g = good_line n line lines e in (g.0, no_fault (n + 1) lines g.1)
