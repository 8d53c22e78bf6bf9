-- What is kept of the rows of open creations.
use Rattle.std.proofs.Common.{◌≡◌, ◌&&◌, not, ℕ, Bool, true, false, if◌then◌else◌, List, [], ◌∷◌, length, Some, refl, subst, sym, arith}
use Rattle.mpi_base.specs.declared.keys.Key.{Key}
use Rattle.mpi_base.specs.Keys.{same_key}
use Rattle.mpi_base.specs.MemberLists.{has_rank}
use Rattle.mpi_base.proofs.KeyFacts.{same_key_is}
use Rattle.agree_law.specs.declared.rows.CreationRow.{CreationRow}
use Rattle.agree_law.specs.declared.rows.Stage.{Stage}
use Rattle.agree_law.specs.declared.rows.Stage.TheVariants.{Sharing, Called, Waiting, Offered, Done}
use Rattle.agree_law.specs.Part.{stage_of, open_creation, set_stage, close_creation}
use Rattle.agree_law.specs.Kinds.{is_share}
use Rattle.agree_law.specs.World.{World, part_at, is_key_of}
use Rattle.agree_law.specs.Facts.{is_sharing, OpensFit}
use Rattle.agree_law.proofs.Lists.{AllOf, AllOf-append, AllOf_filter}
use Rattle.agree_law.proofs.Kept.{stage_is_of, RowFits, Kept}

pub row_at : (n r : ℕ) (xs : List CreationRow) (key : Key) (s : Stage) → stage_of xs key ≡ Some s → AllOf (RowFits n r) xs → ((is_key_of n key && has_rank key.members r) ≡ true) × (stage_is_of (is_share key.kind) s ≡ true)
row_at n r [] key s e h = absurd (cc)
row_at n r (x ∷ xs) key s e h = go (same_key x.key key) refl (row_at n r xs key s)
  where
    go : (b : Bool) → same_key x.key key ≡ b → (stage_of xs key ≡ Some s → AllOf (RowFits n r) xs → ((is_key_of n key && has_rank key.members r) ≡ true) × (stage_is_of (is_share key.kind) s ≡ true))
        → ((is_key_of n key && has_rank key.members r) ≡ true) × (stage_is_of (is_share key.kind) s ≡ true)
    go true a ih =
        let is : x.stage ≡ s = (let f : Some x.stage ≡ Some s = grind (arith, a, e) in cc) in
        let all : ((is_key_of n key && has_rank key.members r) ≡ true) × (stage_is_of (is_share key.kind) x.stage ≡ true) =
        subst (λ k. ((is_key_of n k && has_rank k.members r) ≡ true) × (stage_is_of (is_share k.kind) x.stage ≡ true)) (same_key_is x.key key a) h.0 in
        (all.0, subst (λ z. stage_is_of (is_share key.kind) z ≡ true) is all.1)
    go false a ih = ih (grind (arith, a, e)) h.1

pub rows-open : (n r : ℕ) (xs : List CreationRow) (key : Key) (s : Stage) → (is_key_of n key && has_rank key.members r) ≡ true → stage_is_of (is_share key.kind) s ≡ true → AllOf (RowFits n r) xs → AllOf (RowFits n r) (open_creation xs key s)
rows-open n r xs key s a b h = AllOf-append (RowFits n r) xs (record { key = key; stage = s } ∷ []) h ((a, b), tt)

pub rows-set : (n r : ℕ) (xs : List CreationRow) (key : Key) (s : Stage) → stage_is_of (is_share key.kind) s ≡ true → AllOf (RowFits n r) xs → AllOf (RowFits n r) (set_stage xs key s)
rows-set n r [] key s b h = tt
rows-set n r (x ∷ xs) key s b h = (go (same_key x.key key) refl, rows-set n r xs key s b h.1)
  where
    go : (c : Bool) → same_key x.key key ≡ c → RowFits n r (if c then record { key = x.key; stage = s } else x)
    go true e = (h.0.0, subst (λ k. stage_is_of (is_share k.kind) s ≡ true) (sym (same_key_is x.key key e)) b)
    go false e = h.0

pub rows-close : (n r : ℕ) (xs : List CreationRow) (key : Key) → AllOf (RowFits n r) xs → AllOf (RowFits n r) (close_creation xs key)
rows-close n r xs key h = AllOf_filter (RowFits n r) (λ o. not (same_key o.key key)) xs h

-- the stage is of the kind of its key
kind_of : (b : Bool) (s : Stage) → stage_is_of b s ≡ true → is_sharing s ≡ b
kind_of true (Sharing s) e = refl
kind_of true Called e = absurd (cc)
kind_of true (Waiting i) e = absurd (cc)
kind_of true (Offered i own) e = absurd (cc)
kind_of true (Done c) e = absurd (cc)
kind_of false (Sharing s) e = absurd (cc)
kind_of false Called e = refl
kind_of false (Waiting i) e = refl
kind_of false (Offered i own) e = refl
kind_of false (Done c) e = refl

pub opens_fit : (top : ℕ) (w : World) → Kept top w → OpensFit w
opens_fit top w h r key stage e =
    let fits = row_at (length w.parts) r (part_at w r).opened key stage e (h.rows r) in
    let both = fits.0 in
    record { key_fits = grind (arith, both); member = grind (arith, both); kind = kind_of (is_share key.kind) stage fits.1 }
