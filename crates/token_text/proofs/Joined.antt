-- Items of a list, written one by one.
use Rattle.std.proofs.Common.{◌≡◌, ℕ, zero, suc, ◌+◌, ◌*◌, ◌<◌, ◌≤◌, List, [], ◌∷◌, ◌++◌, length, map, take, get_or, slice_get, Some, decimal, refl, sym, ap, ◌∙◌, arith, append_assoc, length-append, add-one}
use Rattle.std.proofs.lemmas.Option.{get_or_from_slice_get}
use Rattle.std.proofs.Math.Nat.{mul-add}
use Rattle.std.specs.List.{join_with_byte}

-- the mark before the next item
abbrev pub mark_at : {V : Type 0} → List V → List ℕ
mark_at [] = []
mark_at (v ∷ vs) = 44 ∷ []

-- these items were written, in at most so many bytes each
pub record Written {V : Type 0} (g : V → List ℕ) (most : ℕ) (start out mark : List ℕ) (items : List V) : Type 0 where
  pub text : out ≡ start ++ join_with_byte 44 (map g items)
  pub short : length out ≤ length start + (most + 1) * length items
  pub next : mark ≡ mark_at items

-- before the first item
pub none_written : {V : Type 0} (g : V → List ℕ) (most : ℕ) (start : List ℕ) → Written g most start start [] []
none_written g most start = record { text = sym (no_more start); short = omega arith; next = refl }
  where
    no_more : (xs : List ℕ) → xs ++ [] ≡ xs
    no_more [] = refl
    no_more (x ∷ xs) = ap (λ (r : List ℕ). x ∷ r) (no_more xs)

-- an item more stands behind its mark
joined_more : {V : Type 0} (g : V → List ℕ) (items : List V) (v : V) → join_with_byte 44 (map g (items ++ v ∷ [])) ≡ join_with_byte 44 (map g items) ++ (mark_at items ++ g v)
joined_more g [] v = refl
joined_more g (u ∷ []) v = refl
joined_more g (u ∷ w ∷ items) v = ap (λ (r : List ℕ). g u ++ 44 ∷ r) (joined_more g (w ∷ items) v) ∙ sym (append_assoc (g u) (44 ∷ join_with_byte 44 (map g (w ∷ items))) (44 ∷ g v))

-- a mark is one byte at most
mark_short : {V : Type 0} (items : List V) → length (mark_at items) ≤ 1
mark_short [] = omega arith
mark_short (v ∷ vs) = omega arith

-- behind an item there is a mark
mark_behind : {V : Type 0} (items : List V) (v : V) → 44 ∷ [] ≡ mark_at (items ++ v ∷ [])
mark_behind [] v = refl
mark_behind (u ∷ us) v = refl

-- one item more
one_written : {V : Type 0} (g : V → List ℕ) (most : ℕ) (start out mark middle new : List ℕ) (items : List V) (v : V) → Written g most start out mark items → middle ≡ out ++ mark → new ≡ middle ++ g v → length new ≤ length middle + most
    → Written g most start new (44 ∷ []) (items ++ v ∷ [])
one_written g most start out mark middle new items v w m n l =
    let x = w.text in
    let y = w.next in
    let s = w.short in
    let a = length-append items (v ∷ []) in
    let b = length-append out mark in
    let c = mark_short items in
    let f = mul-add (most + 1) (length items) 1 in
    let g' = ap (λ (k : ℕ). (most + 1) * k) a in
    record {
      text = n ∙ (rw (m, x, y) (append_assoc (start ++ join_with_byte 44 (map g items)) (mark_at items) (g v) ∙ append_assoc start (join_with_byte 44 (map g items)) (mark_at items ++ g v) ∙ ap (λ (r : List ℕ). start ++ r) (sym (joined_more g items v))));
      short = (let d = ap length m in let e = ap length y in omega (arith, l, s, b, c, d, e, f, g'));
      next = mark_behind items v;
    }

-- the items up to a place, and the one there
taken_suc : {V : Type 0} (vs : List V) (i : ℕ) (d : V) → i < length vs → take (suc i) vs ≡ take i vs ++ get_or vs i d ∷ []
taken_suc [] i d h = absurd (omega arith)
taken_suc (v ∷ vs) zero d h = refl
taken_suc (v ∷ vs) (suc i) d h = ap (λ (r : List _). v ∷ r) (taken_suc vs i d (omega arith))

-- one item more where a loop over the items stands
pub item_written : {V : Type 0} (g : V → List ℕ) (most : ℕ) (start out mark middle new : List ℕ) (vs : List V) (i : ℕ) (d : V) → Written g most start out mark (take i vs) → i < length vs → middle ≡ out ++ mark → new ≡ middle ++ g (get_or vs i d)
    → length new ≤ length middle + most → Written g most start new (44 ∷ []) (take (i + 1) vs)
item_written g most start out mark middle new vs i d w h m n l = rw (add-one, taken_suc vs i d h) (one_written g most start out mark middle new (take i vs) (get_or vs i d) w m n l)

-- the same where the item is taken from its place
pub rank_written : (most : ℕ) (start out mark middle new : List ℕ) (ranks : List ℕ) (i n : ℕ) → Written decimal most start out mark (take i ranks) → i < length ranks → slice_get ranks i ≡ Some n → middle ≡ out ++ mark → new ≡ middle ++ decimal n
    → length new ≤ length middle + most → Written decimal most start new (44 ∷ []) (take (i + 1) ranks)
rank_written most start out mark middle new ranks i n w h e m p l =
    let g : get_or ranks i 0 ≡ n = get_or_from_slice_get ranks i n 0 e in
    item_written decimal most start out mark middle new ranks i 0 w h m (rw g p) l
