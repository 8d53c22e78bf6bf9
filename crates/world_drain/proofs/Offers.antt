-- What the search for the least offer knows.
use Rattle.std.proofs.lemmas.List.{drop_more}
use Rattle.std.proofs.Math.Bool.{beq}
use Rattle.std.proofs.Common.{◌≡◌, ◌⊎◌, ℕ, ◌+◌, ◌<◌, ◌≤◌, ◌==◌, ◌&&◌, ◌||◌, nat_lt, nat_le, if◌then◌else◌, Bool, true, false, List, [], ◌∷◌, length, get_or, drop, ap, find, Option, Some, None, is_some, option_map, refl, sym, ◌∙◌, subst, inl, inr, arith, true≢false}
use Rattle.std.specs.Prelude.{IfSome}
use Rattle.std.proofs.lemmas.Bool.Decides.{nat_tests}
use Rattle.std.proofs.lemmas.Grind.{common_steps}
use Rattle.mpi_base.specs.declared.keys.Key.{Key}
use Rattle.mpi_base.specs.Keys.{same_key, key_before}
use Rattle.mpi_base.proofs.KeyFacts.{same_key_is, same_key-refl, key_before_total, key_before_trans}
use Rattle.mpi_base.specs.declared.entries.Act.{Act}
use Rattle.mpi_base.specs.declared.entries.Act.TheVariants.{Call, Answer, Deliver, Offer as MakeOffer, Settle, Leave, Back}
use Rattle.agree_law.specs.declared.rows.CreationRow.{CreationRow}
use Rattle.agree_law.specs.declared.rows.Stage.{Stage}
use Rattle.agree_law.specs.Part.{stage_of}
use Rattle.agree_law.specs.Offers.{is_due}
use Rattle.mpi_protocol.specs.Step.{is_enabled}
use Rattle.mpi_protocol.specs.World.{World, rank_at, may_happen}
use Rattle.mpi_protocol.specs.Order.{is_no_later, kind_of, offered_anywhere}
use Rattle.world_drain.specs.Searches.{IsOfKind, IsFirstOf, NoneOf, IsDueOffer, IsLeast, number_of_offer, lesser, covers}
use Rattle.world_drain.proofs.Searched.{rank_below, rank_allows, is_below}

-- the lesser one comes no later than the offer
lesser_covers : (o : Option (Key × ℕ)) (key : Key) (r : ℕ) → IfSome o (λ p. p.1 ≤ r) → covers (lesser o key r) key r ≡ true
lesser_covers None key r l = let s = same_key-refl key in grind (arith, nat_tests, common_steps, s)
lesser_covers (Some p) key r l = go (key_before key p.0) refl (key_before_total p.0 key)
  where
    go : (b : Bool) → key_before key p.0 ≡ b → (p.0 ≡ key) ⊎ ((key_before p.0 key ≡ true) ⊎ (key_before key p.0 ≡ true))
        → covers (if b then Some (key, r) else Some p) key r ≡ true
    go true e t = let s = same_key-refl key in grind (arith, nat_tests, common_steps, s)
    go false e (inl s) = let t = subst (λ (k : Key). same_key p.0 k ≡ true) s (same_key-refl p.0) in grind (arith, nat_tests, common_steps, t, l)
    go false e (inr (inl b)) = grind (arith, common_steps, b)
    go false e (inr (inr b)) = absurd (true≢false (sym b ∙ e))

-- and no later than all that the known one is not later than
lesser_keeps : (o : Option (Key × ℕ)) (key : Key) (r : ℕ) (k : Key) (q : ℕ) → covers o k q ≡ true → covers (lesser o key r) k q ≡ true
lesser_keeps None key r k q c = absurd (true≢false (sym c))
lesser_keeps (Some p) key r k q c = go (key_before key p.0) refl
  where
    before : key_before key p.0 ≡ true → (b : Bool) → key_before p.0 k ≡ b → (d : Bool) → same_key p.0 k ≡ d → (b || (d && nat_le p.1 q)) ≡ true → key_before key k ≡ true
    before e true f d g h = key_before_trans key p.0 k e f
    before e false f true g h = subst (λ (i : Key). key_before key i ≡ true) (same_key_is p.0 k g) e
    before e false f false g h = absurd (true≢false (sym h))

    go : (b : Bool) → key_before key p.0 ≡ b → covers (if b then Some (key, r) else Some p) k q ≡ true
    go true e = let f = before e (key_before p.0 k) refl (same_key p.0 k) refl c in grind (arith, common_steps, f)
    go false e = c

-- the least of the offers at lesser ranks, and of those at this rank whose rows are not to come yet
pub record IsLeastSoFar (w : World) (b : Bool) (rank : ℕ) (o : Option (Key × ℕ)) (rows : List CreationRow) : Type 0 where
  pub due : IfSome o (λ p. (p.1 < rank + 1) × IsDueOffer w b p.1 p.0)
  pub before : (r : ℕ) (key : Key) → r < rank → IsDueOffer w b r key → covers o key r ≡ true
  pub here : (key : Key) → IsDueOffer w b rank key → (covers o key rank || is_some (stage_of rows key)) ≡ true

due_is_there : (s : Option Stage) → is_due s ≡ true → is_some s ≡ true
due_is_there None e = e
due_is_there (Some s) e = refl

or_second : (a b : Bool) → b ≡ true → (a || b) ≡ true
or_second true b e = refl
or_second false b e = e

or_false : (a : Bool) → (a || false) ≡ true → a ≡ true
or_false true e = refl
or_false false e = e

is_lower : (rank : ℕ) (w : World) (b : Bool) (o : Option (Key × ℕ)) → IfSome o (λ p. (p.1 < rank) × IsDueOffer w b p.1 p.0) → IfSome o (λ p. (p.1 < rank + 1) × IsDueOffer w b p.1 p.0)
is_lower rank w b None d = d
is_lower rank w b (Some p) d = let l = d.0 in (omega (arith, l), d.1)

due_here : (w : World) (b : Bool) (rank : ℕ) (key : Key) → IsDueOffer w b rank key → is_some (stage_of (rank_at w rank).agree.opened key) ≡ true
unfolding is_enabled
due_here w b rank key d = due_is_there (stage_of (rank_at w rank).agree.opened key) d.enabled

pub so_far_first : (w : World) (b : Bool) (rank : ℕ) (o : Option (Key × ℕ)) → IsLeast w b rank o → IsLeastSoFar w b rank o (rank_at w rank).agree.opened
so_far_first w b rank o l = record {
  due = is_lower rank w b o l.due;
  before = l.least;
  here = λ key d. or_second (covers o key rank) (is_some (stage_of (rank_at w rank).agree.opened key)) (due_here w b rank key d);
}

pub so_far_last : (w : World) (b : Bool) (rank : ℕ) (o : Option (Key × ℕ)) → IsLeastSoFar w b rank o [] → IsLeast w b (rank + 1) o
so_far_last w b rank o s = record { due = s.due; least = λ r key l. go r key (split r l) }
  where
    split : (r : ℕ) → r < rank + 1 → (r < rank) ⊎ (rank ≡ r)
    split r l = grind (arith, l)

    go : (r : ℕ) (key : Key) → (r < rank) ⊎ (rank ≡ r) → IsDueOffer w b r key → covers o key r ≡ true
    go r key (inl m) = s.before r key m
    go r key (inr e) = subst (λ (i : ℕ). IsDueOffer w b i key → covers o key i ≡ true) e (λ d. or_false (covers o key rank) (s.here key d))

-- a row whose offer is not due is passed
pub so_far_passed : (w : World) (b : Bool) (rank : ℕ) (o : Option (Key × ℕ)) (x : CreationRow) (xs : List CreationRow) → IsLeastSoFar w b rank o (x ∷ xs) → (IsDueOffer w b rank x.key → ⊥)
    → IsLeastSoFar w b rank o xs
so_far_passed w b rank o x xs s not_due = record { due = s.due; before = s.before; here = λ key d. go key d (same_key x.key key) refl (s.here key d) }
  where
    go : (key : Key) → IsDueOffer w b rank key → (t : Bool) → same_key x.key key ≡ t
        → (covers o key rank || is_some (option_map (λ (y : CreationRow). y.stage) (if t then Some x else find (λ (y : CreationRow). same_key y.key key) xs))) ≡ true
        → (covers o key rank || is_some (stage_of xs key)) ≡ true
    go key d true e h = absurd (not_due (subst (λ (k : Key). IsDueOffer w b rank k) (sym (same_key_is x.key key e)) d))
    go key d false e h = h

due_lesser : (w : World) (b : Bool) (rank : ℕ) (o : Option (Key × ℕ)) (key : Key) → IfSome o (λ p. (p.1 < rank + 1) × IsDueOffer w b p.1 p.0) → IsDueOffer w b rank key
    → IfSome (lesser o key rank) (λ p. (p.1 < rank + 1) × IsDueOffer w b p.1 p.0)
due_lesser w b rank None key d k = (omega arith, k)
due_lesser w b rank (Some p) key d k = go (key_before key p.0)
  where
    go : (t : Bool) → IfSome (if t then Some (key, rank) else Some p) (λ q. (q.1 < rank + 1) × IsDueOffer w b q.1 q.0)
    go true = (omega arith, k)
    go false = d

no_higher : (w : World) (b : Bool) (rank : ℕ) (o : Option (Key × ℕ)) → IfSome o (λ p. (p.1 < rank + 1) × IsDueOffer w b p.1 p.0) → IfSome o (λ p. p.1 ≤ rank)
no_higher w b rank None d = d
no_higher w b rank (Some p) d = let l = d.0 in omega (arith, l)

-- one whose offer is due is compared
pub so_far_taken : (w : World) (b : Bool) (rank : ℕ) (o : Option (Key × ℕ)) (x : CreationRow) (xs : List CreationRow) → IsLeastSoFar w b rank o (x ∷ xs) → IsDueOffer w b rank x.key
    → IsLeastSoFar w b rank (lesser o x.key rank) xs
so_far_taken w b rank o x xs s due = record {
  due = due_lesser w b rank o x.key s.due due;
  before = λ r key l d. lesser_keeps o x.key rank key r (s.before r key l d);
  here = λ key d. go key (same_key x.key key) refl (s.here key d);
}
  where
    either : (key : Key) (c t : Bool) → covers o key rank ≡ c → is_some (stage_of xs key) ≡ t → (c || t) ≡ true → (covers (lesser o x.key rank) key rank || t) ≡ true
    either key true t e f h = rw (lesser_keeps o x.key rank key rank e) refl
    either key false t e f h = or_second (covers (lesser o x.key rank) key rank) t h

    go : (key : Key) → (t : Bool) → same_key x.key key ≡ t
        → (covers o key rank || is_some (option_map (λ (y : CreationRow). y.stage) (if t then Some x else find (λ (y : CreationRow). same_key y.key key) xs))) ≡ true
        → (covers (lesser o x.key rank) key rank || is_some (stage_of xs key)) ≡ true
    go key true e h =
        let c = subst (λ (k : Key). covers (lesser o x.key rank) k rank ≡ true) (same_key_is x.key key e) (lesser_covers o x.key rank (no_higher w b rank o s.due)) in
        rw c refl
    go key false e h = either key (covers o key rank) (is_some (stage_of xs key)) refl refl h

-- At the end

offer_number : (w : World) (b : Bool) (key : Key) → offered_anywhere w key ≡ b → kind_of w (MakeOffer key) ≡ number_of_offer b
offer_number w true key e = rw e refl
offer_number w false key e = rw e refl

number_tells : (a b : Bool) → (if a then 4 else 5) ≡ number_of_offer b → a ≡ b
number_tells true true e = refl
number_tells false false e = refl
number_tells true false e = absurd (omega (arith, e))
number_tells false true e = absurd (omega (arith, e))

other_number : (n : ℕ) (b : Bool) → (n < 4) ⊎ (5 < n) → n ≡ number_of_offer b → ⊥
other_number n true (inl l) e = omega (arith, e, l)
other_number n true (inr l) e = omega (arith, e, l)
other_number n false (inl l) e = omega (arith, e, l)
other_number n false (inr l) e = omega (arith, e, l)

-- of two offers of one kind
offers_no_later : (w : World) (b : Bool) (k l : Key) (r s : ℕ) → offered_anywhere w k ≡ b → offered_anywhere w l ≡ b → covers (Some (k, r)) l s ≡ true
    → is_no_later w (record { rank = r; act = MakeOffer k }) (record { rank = s; act = MakeOffer l }) ≡ true
offers_no_later w b k l r s e f c = rw (e, f) (go b)
  where
    go : (d : Bool)
        → (nat_lt (if d then 4 else 5) (if d then 4 else 5) || (((if d then 4 else 5) == (if d then 4 else 5)) && (key_before k l || (same_key k l && nat_le r s)))) ≡ true
    go true = c
    go false = c

pub offer_found : (w : World) (b : Bool) (key : Key) (r : ℕ) → IsLeast w b (length w.ranks) (Some (key, r)) → IsFirstOf w (IsOfKind w (number_of_offer b)) (record { rank = r; act = MakeOffer key })
offer_found w b key r l = record {
  one = record { enabled = rw (is_below r (length w.ranks) l.due.0, l.due.1.enabled) refl; kind = offer_number w b key l.due.1.offered };
  least = λ d may. least d.rank d.act may.enabled may.kind;
}
  where
    least : (s : ℕ) (a : Act) → may_happen w (record { rank = s; act = a }) ≡ true → kind_of w a ≡ number_of_offer b → is_no_later w (record { rank = r; act = MakeOffer key }) (record { rank = s; act = a }) ≡ true
    least s (Call t op) m k = absurd (other_number 8 b (inr (omega arith)) k)
    least s (Answer t) m k = absurd (other_number 2 b (inl (omega arith)) k)
    least s (Deliver f) m k = absurd (other_number 1 b (inl (omega arith)) k)
    least s (MakeOffer other) m k =
        let same = number_tells (offered_anywhere w other) b k in
        offers_no_later w b key other r s l.due.1.offered same (l.least s other (rank_below w s (MakeOffer other) m) (record { enabled = rank_allows w s (MakeOffer other) m; offered = same }))
    least s (Settle other) m k = absurd (other_number 3 b (inl (omega arith)) k)
    least s (Leave c) m k = absurd (other_number 6 b (inr (omega arith)) k)
    least s (Back c) m k = absurd (other_number 7 b (inr (omega arith)) k)

pub no_offer : (w : World) (b : Bool) → IsLeast w b (length w.ranks) None → NoneOf (IsOfKind w (number_of_offer b))
no_offer w b l d may = go d.rank d.act may.enabled may.kind
  where
    go : (s : ℕ) (a : Act) → may_happen w (record { rank = s; act = a }) ≡ true → kind_of w a ≡ number_of_offer b → ⊥
    go s (Call t op) m k = other_number 8 b (inr (omega arith)) k
    go s (Answer t) m k = other_number 2 b (inl (omega arith)) k
    go s (Deliver f) m k = other_number 1 b (inl (omega arith)) k
    go s (MakeOffer other) m k =
        true≢false (sym (l.least s other (rank_below w s (MakeOffer other) m) (record { enabled = rank_allows w s (MakeOffer other) m; offered = number_tells (offered_anywhere w other) b k })))
    go s (Settle other) m k = other_number 3 b (inl (omega arith)) k
    go s (Leave c) m k = other_number 6 b (inr (omega arith)) k
    go s (Back c) m k = other_number 7 b (inr (omega arith)) k

pub none_yet : (w : World) (b : Bool) → IsLeast w b 0 None
none_yet w b = record { due = tt; least = λ r key l. absurd (omega (arith, l)) }

-- the row at hand is the first of those to come
pub so_far_at : (w : World) (b : Bool) (rank : ℕ) (o : Option (Key × ℕ)) (items opened : List CreationRow) (i : ℕ) (x : CreationRow) → items ≡ opened → i < length items → x ≡ get_or items i x
    → IsLeastSoFar w b rank o (drop i opened) → IsLeastSoFar w b rank o (x ∷ drop (i + 1) opened)
so_far_at w b rank o items opened i x e l at s =
    let m = subst (λ (rows : List CreationRow). i < length rows) e l in
    let here = sym (at ∙ ap (λ (rows : List CreationRow). get_or rows i x) e) in
    subst (λ (y : CreationRow). IsLeastSoFar w b rank o (y ∷ drop (i + 1) opened)) here (subst (λ (rows : List CreationRow). IsLeastSoFar w b rank o rows) (drop_more opened i x m) s)

-- what a comparison of truth values says
pub same_bool : (a b : Bool) → beq a b ≡ true → a ≡ b
same_bool true true e = refl
same_bool false false e = refl
same_bool true false e = absurd (cc (e))
same_bool false true e = absurd (cc (e))

pub other_bool : (a b : Bool) → beq a b ≡ false → a ≡ b → ⊥
other_bool true true e f = absurd (cc (e))
other_bool false false e f = absurd (cc (e))
other_bool true false e f = absurd (cc (f))
other_bool false true e f = absurd (cc (f))
