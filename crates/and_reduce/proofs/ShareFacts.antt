-- Gathered shares.
use Rattle.std.proofs.Common.{◌≡◌, ℕ, zero, suc, ◌+◌, ◌<◌, if◌then◌else◌, ◌==◌, ◌&&◌, Bool, true, List, [], ◌∷◌, ◌++◌, length, refl, sym, ◌∙◌, ap, arith, Option, Some, None}
use Rattle.std.specs.Prelude.{find, nat_lt, option_map}
use Rattle.std.specs.List.{range_with_len}
use Rattle.std.proofs.lemmas.List.{append-nil, length_push}
use Rattle.std.proofs.lemmas.Bool.Decides.{nat_tests}
use Rattle.mpi_base.specs.declared.keys.Key.{Key}
use Rattle.mpi_base.specs.declared.shares.Shared1.{Shared1}
use Rattle.mpi_base.specs.Keys.{same_key}
use Rattle.agree_law.specs.declared.rows.ShareRow.{ShareRow}
use Rattle.agree_law.specs.Shares.{share_here, share_list, shares_at, with_some}

-- a share is that of the first row
pub share_here-find : (rows : List ShareRow) (key : Key) (place : ℕ)
    → option_map (λ o. o.share) (find (λ o. same_key o.key key && (o.place == place)) rows) ≡ share_here rows key place
share_here-find [] key place = refl
share_here-find (o ∷ os) key place = let ih = share_here-find os key place in grind (arith, ih)

-- the shares at one more place
pub shares_at-more : (rows : List ShareRow) (key : Key) (ps : List ℕ) (p : ℕ)
    → shares_at rows key (ps ++ p ∷ []) ≡ shares_at rows key ps ++ with_some (share_here rows key p) []
shares_at-more rows key [] p = refl
shares_at-more rows key (q ∷ qs) p = go (share_here rows key q) (shares_at-more rows key qs p)
  where
    go : (s : Option Shared1) → shares_at rows key (qs ++ p ∷ []) ≡ shares_at rows key qs ++ with_some (share_here rows key p) []
        → with_some s (shares_at rows key (qs ++ p ∷ [])) ≡ with_some s (shares_at rows key qs) ++ with_some (share_here rows key p) []
    go None ih = ih
    go (Some s) ih = ap (λ (xs : List Shared1). s ∷ xs) ih

-- one more place of a range
range-suc : (a n : ℕ) → range_with_len a (suc n) ≡ range_with_len a n ++ (a + n) ∷ []
range-suc a zero = let same : a ≡ a + 0 = omega arith in ap (λ (x : ℕ). x ∷ []) same
range-suc a (suc n) =
    let same : (a + 1) + n ≡ a + suc n = omega arith in
    ap (λ (xs : List ℕ). a ∷ xs) (range-suc (a + 1) n ∙ ap (λ (x : ℕ). range_with_len (a + 1) n ++ x ∷ []) same)

range-more : (n : ℕ) → range_with_len 0 (n + 1) ≡ range_with_len 0 n ++ n ∷ []
range-more n =
    let more : n + 1 ≡ suc n = omega arith in
    let same : 0 + n ≡ n = omega arith in
    ap (λ (m : ℕ). range_with_len 0 m) more ∙ (range-suc 0 n ∙ ap (λ (x : ℕ). range_with_len 0 n ++ x ∷ []) same)

module _ (rows : List ShareRow) (key : Key) (n : ℕ) (list : List Shared1) (so_far : list ≡ shares_at rows key (range_with_len 0 n)) where
  -- the share at the next place is there
  pub shares_at-some : (s : Shared1) → share_here rows key n ≡ Some s → list ++ s ∷ [] ≡ shares_at rows key (range_with_len 0 (n + 1))
  shares_at-some s is =
      sym (ap (shares_at rows key) (range-more n) ∙ (shares_at-more rows key (range_with_len 0 n) n ∙ (ap (λ (x : Option Shared1). shares_at rows key (range_with_len 0 n) ++ with_some x []) is
      ∙ ap (λ (xs : List Shared1). xs ++ s ∷ []) (sym so_far))))

  -- the share at the next place is not there
  pub shares_at-none : share_here rows key n ≡ None → list ≡ shares_at rows key (range_with_len 0 (n + 1))
  shares_at-none is =
      sym (ap (shares_at rows key) (range-more n) ∙ (shares_at-more rows key (range_with_len 0 n) n ∙ (ap (λ (x : Option Shared1). shares_at rows key (range_with_len 0 n) ++ with_some x []) is
      ∙ (append-nil (shares_at rows key (range_with_len 0 n)) ∙ sym so_far))))

pub share_list-is : (rows : List ShareRow) (key : Key) (n : ℕ) (list : List Shared1) → list ≡ shares_at rows key (range_with_len 0 n) → n ≡ length key.members → list ≡ share_list rows key
unfolding share_list
share_list-is rows key n list e is = e ∙ ap (λ (m : ℕ). shares_at rows key (range_with_len 0 m)) is

-- a list that is not full takes one more
pub pushed : (xs ys : List Shared1) (s : Shared1) (b : Bool) → b ≡ nat_lt (length xs) 16 → ys ≡ (if b then xs ++ s ∷ [] else xs) → length xs < 16
    → (ys ≡ xs ++ s ∷ []) × (length (xs ++ s ∷ []) ≡ length xs + 1)
pushed xs ys s b is after less =
    let there : b ≡ true = grind (arith, nat_tests, is, less) in
    let same : ys ≡ xs ++ s ∷ [] = rw there at after in
    (same, length_push xs s)
