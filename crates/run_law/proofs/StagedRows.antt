-- The rows of a rank's communicators after some go to another stage: the rank has freed them, or left one.
use Rattle.std.proofs.Common.{◌≡◌, ◌≤◌, ℕ, ◌+◌, ◌==◌, ◌||◌, if◌then◌else◌, Bool, true, false, List, [], ◌∷◌, map, option_map, Some, refl, ap, arith}
use Rattle.std.specs.List.{list_any}
use Rattle.std.proofs.lemmas.Bool.Decides.{nat_tests}
use Rattle.comm_law.specs.declared.rows.CommRow.{CommRow}
use Rattle.comm_law.specs.declared.rows.CommStage.{CommStage}
use Rattle.comm_law.specs.declared.rows.CommStage.TheVariants.{Live, Freed, Left}
use Rattle.comm_law.specs.Comms.{Comms as Known, with_stage, mark_free, free_session, freed_stage, leave}
use Rattle.run_law.proofs.Lists.{tally, one}
use Rattle.run_law.proofs.Rows.{row_in}
use Rattle.run_law.proofs.Comms.{is_numbered, is_other, is_live}

-- rows where those that pass a test go to another stage

unfoldable pub staged_row : (CommStage → CommStage) → (CommRow → Bool) → CommRow → CommRow
staged_row f test m = if test m then with_stage (f m.stage) m else m

pub row_staged : (f : CommStage → CommStage) (rows : List CommRow) (test : CommRow → Bool) (b : ℕ) → row_in (map (staged_row f test) rows) b ≡ option_map (staged_row f test) (row_in rows b)
unfolding staged_row
row_staged f [] test b = refl
row_staged f (x ∷ xs) test b = let ih = row_staged f xs test b in grind (arith, ih)

-- by a test of serials and contexts
pub any_staged : (f : CommStage → CommStage) (rows : List CommRow) (test : CommRow → Bool) (P : ℕ → ℕ → Bool) → list_any (λ (m : CommRow). P m.serial m.ctx) (map (staged_row f test) rows) ≡ list_any (λ (m : CommRow). P m.serial m.ctx) rows
unfolding staged_row
any_staged f [] test P = refl
any_staged f (x ∷ xs) test P = go (test x) (any_staged f xs test P)
  where
    go : (b : Bool) → list_any (λ (m : CommRow). P m.serial m.ctx) (map (staged_row f test) xs) ≡ list_any (λ (m : CommRow). P m.serial m.ctx) xs
        → (P (if b then with_stage (f x.stage) x else x).serial (if b then with_stage (f x.stage) x else x).ctx || list_any (λ (m : CommRow). P m.serial m.ctx) (map (staged_row f test) xs)) ≡ (P x.serial x.ctx || list_any (λ (m : CommRow). P m.serial m.ctx) xs)
    go true ih = rw ih refl
    go false ih = rw ih refl

pub serials_staged : (f : CommStage → CommStage) (rows : List CommRow) (test : CommRow → Bool) (n : ℕ) → tally (is_numbered n) (map (staged_row f test) rows) ≡ tally (is_numbered n) rows
unfolding staged_row
serials_staged f [] test n = refl
serials_staged f (x ∷ xs) test n = go (test x) (serials_staged f xs test n)
  where
    go : (b : Bool) → tally (is_numbered n) (map (staged_row f test) xs) ≡ tally (is_numbered n) xs → one (is_numbered n (if b then with_stage (f x.stage) x else x)) + tally (is_numbered n) (map (staged_row f test) xs) ≡ one (is_numbered n x) + tally (is_numbered n) xs
    go true ih = omega (arith, ih)
    go false ih = omega (arith, ih)

pub mark_is : (t : Known) (c : ℕ) → (mark_free t c).rows ≡ map (staged_row freed_stage (λ m. m.ctx == c)) t.rows
unfolding staged_row
mark_is t c = refl

pub session_freed : (t : Known) (session : ℕ) → (free_session t session).rows ≡ map (staged_row freed_stage (λ m. m.session == session)) t.rows
unfolding staged_row
session_freed t session = refl

pub left_is : (t : Known) (c : ℕ) → (leave t c).rows ≡ map (staged_row (λ st. Left) (λ m. m.ctx == c)) t.rows
unfolding staged_row
left_is t c = refl

-- a row has its serial
pub own_serial : (rows : List CommRow) (c : ℕ) (m : CommRow) → row_in rows c ≡ Some m → (list_any (is_numbered m.serial) rows ≡ true) × (1 ≤ tally (is_numbered m.serial) rows)
own_serial [] c m e = absurd (cc (e))
own_serial (x ∷ xs) c m e = go (x.ctx == c) e (own_serial xs c m)
  where
    go : (b : Bool) → (if b then Some x else row_in xs c) ≡ Some m → (row_in xs c ≡ Some m → (list_any (λ (z : CommRow). z.serial == m.serial) xs ≡ true) × (1 ≤ tally (is_numbered m.serial) xs))
        → (list_any (λ (z : CommRow). z.serial == m.serial) (x ∷ xs) ≡ true) × (1 ≤ one (is_numbered m.serial x) + tally (is_numbered m.serial) xs)
    go true h ih =
        let is : x ≡ m = cc (h) in
        let on : (x.serial == m.serial) ≡ true = rw is (grind (arith, nat_tests)) in
        let o : one (is_numbered m.serial x) ≡ 1 = ap one on in
        (grind (arith, on), omega (arith, o))
    go false h ih = let z = ih h in (let a = z.0 in grind (arith, a), let b = z.1 in omega (arith, b))

-- and where no other row has it, none of another context has
pub own_alone : (rows : List CommRow) (c : ℕ) (m : CommRow) → row_in rows c ≡ Some m → tally (is_numbered m.serial) rows ≤ 1 → list_any (is_other m.serial c) rows ≡ false
own_alone [] c m e few = refl
own_alone (x ∷ xs) c m e few = go (x.ctx == c) refl e (own_alone xs c m) (λ e. (own_serial xs c m e).1)
  where
    none : (n : ℕ) (zs : List CommRow) → tally (is_numbered n) zs ≡ 0 → list_any (is_other n c) zs ≡ false
    none n [] z = refl
    none n (y ∷ ys) z = at (y.serial == n) refl (none n ys (omega (arith, z)))
      where
        at : (b : Bool) → (y.serial == n) ≡ b → list_any (is_other n c) ys ≡ false → list_any (is_other n c) (y ∷ ys) ≡ false
        at true q ih = absurd (let o : one (y.serial == n) ≡ 1 = ap one q in omega (arith, z, o))
        at false q ih = grind (arith, q, ih)

    go : (b : Bool) → (x.ctx == c) ≡ b → (if b then Some x else row_in xs c) ≡ Some m → (row_in xs c ≡ Some m → tally (is_numbered m.serial) xs ≤ 1 → list_any (is_other m.serial c) xs ≡ false) → (row_in xs c ≡ Some m → 1 ≤ tally (is_numbered m.serial) xs)
        → list_any (is_other m.serial c) (x ∷ xs) ≡ false
    go true q h ih some =
        let is : x ≡ m = cc (h) in
        let on : (x.serial == m.serial) ≡ true = rw is (grind (arith, nat_tests)) in
        let o : one (is_numbered m.serial x) ≡ 1 = ap one on in
        let rest = none m.serial xs (omega (arith, few, o)) in
        grind (arith, q, rest)
    go false q h ih some =
        let a = some h in
        let rest = ih h (omega (arith, few)) in
        let off : (x.serial == m.serial) ≡ false = at (x.serial == m.serial) refl a in
        grind (arith, off, rest)
      where
        at : (b : Bool) → (x.serial == m.serial) ≡ b → 1 ≤ tally (is_numbered m.serial) xs → b ≡ false
        at true z a = absurd (let o : one (x.serial == m.serial) ≡ 1 = ap one z in omega (arith, few, a, o))
        at false z a = refl

-- a row that is freed is live no longer
pub freed_dead : (st : CommStage) → is_live (freed_stage st) ≡ false
freed_dead Live = refl
freed_dead Freed = refl
freed_dead Left = refl
