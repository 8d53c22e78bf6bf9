-- Rows of keys: stages, rounds and offers, after one of them changed.
use Rattle.std.proofs.Common.{◌≡◌, ℕ, ◌+◌, ◌==◌, if◌then◌else◌, Bool, List, [], ◌∷◌, ◌++◌, Option, Some, None, refl, arith}
use Rattle.std.specs.Option.{is_some}
use Rattle.std.specs.List.{list_all, list_any}
use Rattle.mpi_base.specs.declared.keys.Key.{Key}
use Rattle.mpi_base.specs.Keys.{same_key}
use Rattle.mpi_base.proofs.KeyFacts.{same_key_tells}
use Rattle.ctx_mask.specs.Masks.{full_of, both}
use Rattle.agree_law.specs.declared.rows.CreationRow.{CreationRow}
use Rattle.agree_law.specs.declared.rows.RoundRow.{RoundRow}
use Rattle.agree_law.specs.declared.rows.Stage.{Stage}
use Rattle.agree_law.specs.Part.{Offer, stage_of, round_of, open_creation, set_stage, close_creation, set_round, drop_round, drop_offers}
use Rattle.agree_law.specs.Gather.{has_offer, all_own, common_mask}
use Rattle.agree_law.specs.Tree.{children_of}

abbrev pub or_else : {A : Type 0} → Option A → Option A → Option A
or_else None b = b
or_else (Some a) b = Some a

-- Stages

pub stage_of-open : (xs : List CreationRow) (key : Key) (s : Stage) (k : Key) → stage_of (open_creation xs key s) k ≡ or_else (stage_of xs k) (if same_key key k then Some s else None)
stage_of-open [] key s k = grind (arith)
stage_of-open (x ∷ xs) key s k = let ih = stage_of-open xs key s k in grind (arith, ih)

pub stage_of-set : (xs : List CreationRow) (key : Key) (s : Stage) (k : Key) → stage_of (set_stage xs key s) k ≡ (if same_key key k then (if is_some (stage_of xs k) then Some s else None) else stage_of xs k)
stage_of-set [] key s k = grind (arith)
stage_of-set (x ∷ xs) key s k = let ih = stage_of-set xs key s k in grind (arith, same_key_tells, ih)

pub stage_of-close : (xs : List CreationRow) (key k : Key) → stage_of (close_creation xs key) k ≡ (if same_key key k then None else stage_of xs k)
stage_of-close [] key k = grind (arith)
stage_of-close (x ∷ xs) key k = let ih = stage_of-close xs key k in grind (arith, same_key_tells, ih)

-- Rounds

pub round_of-drop : (xs : List RoundRow) (key k : Key) → round_of (drop_round xs key) k ≡ (if same_key key k then 0 else round_of xs k)
round_of-drop [] key k = grind (arith)
round_of-drop (x ∷ xs) key k = let ih = round_of-drop xs key k in grind (arith, same_key_tells, ih)

pub round_of-set : (xs : List RoundRow) (key k : Key) (n : ℕ) → round_of (set_round xs key n) k ≡ (if same_key key k then n else round_of xs k)
round_of-set [] key k n = grind (arith)
round_of-set (x ∷ xs) key k n = let ih = round_of-set xs key k n in grind (arith, same_key_tells, ih)

-- Offers

-- the offers of a key
abbrev pub of_key : List Offer → Key → List Offer
of_key [] key = []
of_key (o ∷ os) key = if same_key o.key key then o ∷ of_key os key else of_key os key

pub of_key-append : (xs : List Offer) (o : Offer) (k : Key) → of_key (xs ++ o ∷ []) k ≡ (if same_key o.key k then of_key xs k ++ o ∷ [] else of_key xs k)
of_key-append [] o k = grind (arith)
of_key-append (x ∷ xs) o k = let ih = of_key-append xs o k in grind (arith, ih)

pub of_key-drop : (xs : List Offer) (key k : Key) → of_key (drop_offers xs key) k ≡ (if same_key key k then [] else of_key xs k)
of_key-drop [] key k = grind (arith)
of_key-drop (x ∷ xs) key k = let ih = of_key-drop xs key k in grind (arith, same_key_tells, ih)

-- What is said of the offers of one key alone

abbrev pub at_place : ℕ → Offer → Bool
at_place p o = o.place == p

unfoldable pub is_whole : List Offer → ℕ → ℕ → Bool
is_whole os p size = list_all (λ q. list_any (at_place q) os) (p ∷ children_of p size)

unfoldable pub own_of : List Offer → Bool
own_of os = list_all (λ o. o.own) os

unfoldable pub mask_of : ℕ → List Offer → List Bool
mask_of top [] = full_of (top + 1) top
mask_of top (o ∷ os) = both o.mask (mask_of top os)

pub has_offer_is : (xs : List Offer) (key : Key) (p : ℕ) → has_offer xs key p ≡ list_any (at_place p) (of_key xs key)
has_offer_is [] key p = refl
has_offer_is (x ∷ xs) key p = let ih = has_offer_is xs key p in grind (arith, ih)

all_same : (f g : ℕ → Bool) (ps : List ℕ) → ((p : ℕ) → f p ≡ g p) → list_all f ps ≡ list_all g ps
all_same f g [] h = refl
all_same f g (p ∷ ps) h = let ih = all_same f g ps h in let a = h p in grind (arith, ih, a)

pub is_ready_is : (xs : List Offer) (key : Key) (p : ℕ) (size : ℕ) → list_all (has_offer xs key) (p ∷ children_of p size) ≡ is_whole (of_key xs key) p size
unfolding is_whole
is_ready_is xs key p size = all_same (has_offer xs key) (λ q. list_any (at_place q) (of_key xs key)) (p ∷ children_of p size) (has_offer_is xs key)

pub all_own_is : (xs : List Offer) (key : Key) → all_own xs key ≡ own_of (of_key xs key)
unfolding all_own own_of
all_own_is [] key = refl
all_own_is (x ∷ xs) key = let ih = all_own_is xs key in grind (arith, ih)

pub common_is : (top : ℕ) (xs : List Offer) (key : Key) → common_mask top xs key ≡ mask_of top (of_key xs key)
unfolding mask_of
common_is top [] key = refl
common_is top (x ∷ xs) key = let ih = common_is top xs key in grind (arith, ih)
