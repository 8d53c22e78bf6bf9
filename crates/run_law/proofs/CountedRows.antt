-- The rows of a rank's communicators after one more call of dup or split is counted.
use Rattle.std.proofs.Common.{◌≡◌, ℕ, ◌+◌, ◌==◌, ◌||◌, if◌then◌else◌, Bool, true, false, List, [], ◌∷◌, Some, refl, sym, ap, ◌∙◌, arith}
use Rattle.std.specs.Prelude.{option_map, map}
use Rattle.std.specs.List.{list_any}
use Rattle.std.proofs.lemmas.Bool.Decides.{nat_tests}
use Rattle.comm_law.specs.declared.rows.CommRow.{CommRow}
use Rattle.comm_law.specs.Comms.{Comms as Known, count_call, one_call_more}
use Rattle.run_law.proofs.Lists.{one, tally}
use Rattle.run_law.proofs.Rows.{row_in}
use Rattle.run_law.proofs.Comms.{is_numbered}

-- the rows after one more call is counted
unfoldable pub counted : ℕ → CommRow → CommRow
counted c m = if m.ctx == c then one_call_more m else m

pub row_counted : (rows : List CommRow) (c b : ℕ) → row_in (map (counted c) rows) b ≡ option_map (counted c) (row_in rows b)
unfolding counted
row_counted [] c b = refl
row_counted (x ∷ xs) c b = let ih = row_counted xs c b in grind (arith, ih)

-- by a test of serials and contexts
pub any_counted : (rows : List CommRow) (c : ℕ) (P : ℕ → ℕ → Bool) → list_any (λ (m : CommRow). P m.serial m.ctx) (map (counted c) rows) ≡ list_any (λ (m : CommRow). P m.serial m.ctx) rows
unfolding counted
any_counted [] c P = refl
any_counted (x ∷ xs) c P = go (x.ctx == c) (any_counted xs c P)
  where
    go : (b : Bool) → list_any (λ (m : CommRow). P m.serial m.ctx) (map (counted c) xs) ≡ list_any (λ (m : CommRow). P m.serial m.ctx) xs
        → (P (if b then one_call_more x else x).serial (if b then one_call_more x else x).ctx || list_any (λ (m : CommRow). P m.serial m.ctx) (map (counted c) xs)) ≡ (P x.serial x.ctx || list_any (λ (m : CommRow). P m.serial m.ctx) xs)
    go true ih = rw ih refl
    go false ih = rw ih refl

pub serials_counted : (rows : List CommRow) (c n : ℕ) → tally (is_numbered n) (map (counted c) rows) ≡ tally (is_numbered n) rows
unfolding counted
serials_counted [] c n = refl
serials_counted (x ∷ xs) c n = let ih = serials_counted xs c n in go (x.ctx == c) ih
  where
    go : (b : Bool) → tally (is_numbered n) (map (counted c) xs) ≡ tally (is_numbered n) xs → one (is_numbered n (if b then one_call_more x else x)) + tally (is_numbered n) (map (counted c) xs) ≡ one (is_numbered n x) + tally (is_numbered n) xs
    go true ih = omega (arith, ih)
    go false ih = omega (arith, ih)

pub count_is : (t : Known) (c : ℕ) → (count_call t c).rows ≡ map (counted c) t.rows
unfolding counted
count_is t c = refl

pub row_ctx : (rows : List CommRow) (b : ℕ) (m : CommRow) → row_in rows b ≡ Some m → m.ctx ≡ b
row_ctx [] b m e = absurd (cc (e))
row_ctx (x ∷ xs) b m e = go (x.ctx == b) refl e (row_ctx xs b m)
  where
    go : (t : Bool) → (x.ctx == b) ≡ t → (if t then Some x else row_in xs b) ≡ Some m → (row_in xs b ≡ Some m → m.ctx ≡ b) → m.ctx ≡ b
    go true f e ih = let is : x ≡ m = cc (e) in sym (ap (λ (z : CommRow). z.ctx) is) ∙ grind (arith, nat_tests, f)
    go false f e ih = ih e
