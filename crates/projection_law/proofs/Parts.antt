-- What the agreement's moves do to the open keys and to the mask of a rank.
use Rattle.std.proofs.Common.{◌≡◌, ◌⊎◌, inl, inr, ◌<◌, ◌≤◌, ◌&&◌, ◌||◌, ◌+◌, not, ℕ, ℤ, zero, suc, Bool, true, false, if◌then◌else◌, List, [], ◌∷◌, length, set, get_or, slice_get, Option, Some, None, refl, sym, subst, ap, ◌∙◌, arith}
use Rattle.std.specs.Prelude.{nat_lt}
use Rattle.std.specs.Option.{is_some}
use Rattle.std.proofs.lemmas.Bool.Decides.{nat_tests}
use Rattle.std.proofs.lemmas.List.{get_or_past}
use Rattle.mpi_base.specs.declared.keys.Key.{Key}
use Rattle.mpi_base.specs.Keys.{same_key}
use Rattle.ctx_mask.specs.Masks.{full_of}
use Rattle.ctx_mask.proofs.MaskFacts.{length-full_of, get_or-full_of}
use Rattle.agree_law.specs.declared.rows.CreationRow.{CreationRow}
use Rattle.mpi_base.specs.declared.shares.Shared1.{Shared1}
use Rattle.agree_law.specs.declared.rows.Stage.{Stage}
use Rattle.agree_law.specs.declared.rows.Stage.TheVariants.{Sharing, Called, Waiting, Offered, Done}
use Rattle.agree_law.specs.declared.rows.Verdict.{Verdict}
use Rattle.agree_law.specs.declared.rows.Verdict.TheVariants.{Ready, Retry, Context, Exhausted}
use Rattle.agree_law.specs.Tree.{place_in, member_at, is_first}
use Rattle.agree_law.specs.Part.{Agree, stage_of, open_creation, set_stage, close_creation}
use Rattle.agree_law.specs.Packets.{Moved, Share, stays}
use Rattle.agree_law.specs.Rule.{may_own}
use Rattle.agree_law.specs.Offers.{put_offer, begin, if_waiting, make_offer, takes_up, take_up}
use Rattle.agree_law.specs.Verdicts.{decide, settle_offers, takes_down, take_down}
use Rattle.agree_law.specs.Classes.{split_key}
use Rattle.agree_law.specs.Shares.{put_share, begin_share, takes_share, take_share, divide, takes_shares, take_shares, colour_at}
use Rattle.mpi_protocol.specs.Agreeing.{next_key}
use Rattle.agree_law.proofs.Lists.{set_place, length-set}
use Rattle.agree_law.proofs.RowFacts.{or_else, stage_of-open, stage_of-set, stage_of-close}
use Rattle.mpi_base.proofs.KeyFacts.{same_key_is}
use Rattle.agree_law.proofs.ShareSteps.{taking}
use Rattle.agree_law.proofs.Decided.{after, stage_after, mask_after}

-- contexts are places from 1 to the greatest
pub record MaskFits (top : ℕ) (mask : List Bool) : Type 0 where
  pub long : length mask ≡ top + 1
  pub first : get_or mask 0 false ≡ false

pub free_context : (top : ℕ) (mask : List Bool) (c : ℕ) → MaskFits top mask → get_or mask c false ≡ true → (0 < c) × (c ≤ top)
free_context top mask zero h e = let f = h.first in absurd (cc (f, e))
free_context top mask (suc c) h e = (omega arith, within (nat_lt (suc c) (length mask)) refl)
  where
    within : (b : Bool) → nat_lt (suc c) (length mask) ≡ b → suc c ≤ top
    within true u = let l : suc c < length mask = grind (arith, nat_tests, u) in let n = h.long in omega (arith, l, n)
    within false u =
        let l : length mask ≤ suc c = grind (arith, nat_tests, u) in
        let p = get_or_past mask (suc c) false l in
        absurd (cc (p, e))

mask_taken : (top : ℕ) (mask : List Bool) (c : ℕ) → MaskFits top mask → MaskFits top (set mask c false)
mask_taken top mask c h = record { long = length-set mask c false ∙ h.long; first = (let p = set_place mask c false false 0 in let f = h.first in grind (arith, p, f)) }

pub mask_free : (top : ℕ) (mask : List Bool) (c : ℕ) → 0 < c → MaskFits top mask → MaskFits top (set mask c true)
mask_free top mask c pos h = record { long = length-set mask c true ∙ h.long; first = (let p = set_place mask c true false 0 in let f = h.first in grind (arith, p, f, pos)) }

pub mask_full : (top : ℕ) → MaskFits top (full_of (top + 1) top)
mask_full top = record { long = length-full_of (top + 1) top; first = get_or-full_of (top + 1) top 0 (omega arith) ∙ grind (arith, nat_tests) }

-- Open keys

-- whether a key is open in a part
abbrev pub is_open : Agree → Key → Bool
is_open a k = is_some (stage_of a.opened k)

pub some_open : (xs : List CreationRow) (key k : Key) (s : Stage) → is_some (stage_of (open_creation xs key s) k) ≡ (is_some (stage_of xs k) || same_key key k)
some_open xs key k s = ap is_some (stage_of-open xs key s k) ∙ go (stage_of xs k) (same_key key k)
  where
    go : (o : Option Stage) (b : Bool) → is_some (or_else o (if b then Some s else None)) ≡ (is_some o || b)
    go None true = refl
    go None false = refl
    go (Some x) b = refl

pub some_set : (xs : List CreationRow) (key k : Key) (s : Stage) → is_some (stage_of (set_stage xs key s) k) ≡ is_some (stage_of xs k)
some_set xs key k s = ap is_some (stage_of-set xs key s k) ∙ go (stage_of xs k) (same_key key k)
  where
    go : (o : Option Stage) (b : Bool) → is_some (if b then (if is_some o then Some s else None) else o) ≡ is_some o
    go None true = refl
    go None false = refl
    go (Some x) true = refl
    go (Some x) false = refl

pub some_close : (xs : List CreationRow) (key k : Key) → is_some (stage_of (close_creation xs key) k) ≡ (not (same_key key k) && is_some (stage_of xs k))
some_close xs key k = ap is_some (stage_of-close xs key k) ∙ go (stage_of xs k) (same_key key k)
  where
    go : (o : Option Stage) (b : Bool) → is_some (if b then None else o) ≡ (not b && is_some o)
    go o true = refl
    go o false = refl

-- a move that opens no key
pub record OpensNone (top : ℕ) (a b : Agree) : Type 0 where
  pub old : (k : Key) → is_open b k ≡ true → is_open a k ≡ true
  pub mask : MaskFits top a.mask → MaskFits top b.mask

none : (top : ℕ) (a : Agree) → OpensNone top a a
none top a = record { old = λ k e. e; mask = λ h. h }

-- a move that opens one key
pub record OpensOne (top : ℕ) (a b : Agree) (key : Key) : Type 0 where
  pub old : (k : Key) → is_open b k ≡ true → same_key key k ≡ false → is_open a k ≡ true
  pub mask : MaskFits top a.mask → MaskFits top b.mask

-- a move that opens one key in the place of another, or closes it
pub record Turns (top : ℕ) (a b : Agree) (key : Key) (next : Option Key) : Type 0 where
  pub was : is_open a key ≡ true
  pub old : (k : Key) → is_open b k ≡ true → ((same_key key k ≡ false) × (is_open a k ≡ true)) ⊎ (next ≡ Some k)
  pub mask : MaskFits top a.mask → MaskFits top b.mask

opened_one : (xs : List CreationRow) (key k : Key) (s : Stage) → is_some (stage_of (open_creation xs key s) k) ≡ true → same_key key k ≡ false → is_some (stage_of xs k) ≡ true
opened_one xs key k s e f = let x = some_open xs key k s in grind (arith, x, e, f)

pub opens-begin : (r top : ℕ) (a : Agree) (key : Key) → OpensOne top a (begin r top a key).part key
unfolding begin put_offer
opens-begin r top a key = record { old = λ k e f. opened_one a.opened key k Called e f; mask = λ h. h }

pub opens-begin_share : (top r : ℕ) (a : Agree) (key : Key) (s : Shared1) → OpensOne top a (begin_share r a key s).part key
unfolding begin_share
opens-begin_share top r a key s = go (is_first r key.members)
  where
    b : Agree
    b = record a { opened = open_creation a.opened key (Sharing s) }

    m : Bool → Moved
    m c = if c then record { part = put_share b key 0 s; sent = [] } else record { part = b; sent = record { to = member_at key.members 0; packet = Share key s } ∷ [] }

    go : (c : Bool) → OpensOne top a (m c).part key
    go true = record { old = λ k e f. opened_one a.opened key k (Sharing s) e f; mask = λ h. h }
    go false = record { old = λ k e f. opened_one a.opened key k (Sharing s) e f; mask = λ h. h }

pub opens-offer : (r top : ℕ) (a : Agree) (key : Key) → OpensNone top a (make_offer r top a key).part
unfolding make_offer put_offer
opens-offer r top a key = go (stage_of a.opened key)
  where
    go : (s : Option Stage) → OpensNone top a (if_waiting r top a key s).part
    go None = none top a
    go (Some (Sharing s)) = none top a
    go (Some Called) = none top a
    go (Some (Waiting i)) = record { old = λ k e. sym (some_set a.opened key k (Offered i (may_own a key))) ∙ e; mask = λ h. h }
    go (Some (Offered i own)) = none top a
    go (Some (Done c)) = none top a

opens-decide : (top r : ℕ) (a : Agree) (key : Key) (i : ℕ) (v : Verdict) → OpensNone top a (decide r a key i v).part
unfolding decide
opens-decide top r a key i v =
    let f = after a key i v in
    record {
      old = λ k e. sym (ap (λ xs. is_some (stage_of xs k)) f.opened ∙ some_set a.opened key k (stage_after i v)) ∙ e;
      mask = λ h. subst (MaskFits top) (sym f.mask) (go v h);
    }
  where
    go : (v : Verdict) → MaskFits top a.mask → MaskFits top (mask_after a.mask v)
    go Ready h = h
    go Retry h = h
    go (Context c) h = mask_taken top a.mask c h
    go Exhausted h = h

pub opens-up : (top r : ℕ) (a : Agree) (from : ℕ) (key : Key) (i : ℕ) (own : Bool) (mask : List Bool) → OpensNone top a (take_up r top a from key i own mask).part
unfolding take_up put_offer
opens-up top r a from key i own mask = go (takes_up r a from key i)
  where
    go : (c : Bool) → OpensNone top a (if c then put_offer r top a key (place_in key.members from) own mask else stays a).part
    go true = record { old = λ k e. e; mask = λ h. h }
    go false = none top a

pub opens-down : (top r : ℕ) (a : Agree) (from : ℕ) (key : Key) (i : ℕ) (v : Verdict) → OpensNone top a (take_down r a from key i v).part
unfolding take_down
opens-down top r a from key i v = go (takes_down r a from key i v)
  where
    go : (c : Bool) → OpensNone top a (if c then decide r a key i v else stays a).part
    go true = opens-decide top r a key i v
    go false = none top a

pub opens-settle_offers : (r top : ℕ) (a : Agree) (key : Key) → OpensNone top a (settle_offers r top a key).part
unfolding settle_offers
opens-settle_offers r top a key = opens-decide top r a key _ _

pub opens-take_share : (top r : ℕ) (a : Agree) (from : ℕ) (key : Key) (s : Shared1) → OpensNone top a (take_share r a from key s).part
unfolding take_share
opens-take_share top r a from key s = go (takes_share r a from key)
  where
    m : Bool → Moved
    m c = if c then record { part = put_share a key (place_in key.members from) s; sent = [] } else stays a

    go : (c : Bool) → OpensNone top a (m c).part
    go true = record { old = λ k e. e; mask = λ h. h }
    go false = none top a

-- the shares are taken: the exchange is closed, and with a colour the creation of the class is open

pub turns-divide : (r top : ℕ) (a : Agree) (key : Key) (c : Option ℤ) (list : List Shared1) → is_open a key ≡ true → Turns top a (divide r top a key c list).part key (next_key key c list)
unfolding divide begin put_offer
turns-divide r top a key None list was = record {
  was = was;
  old = λ k e. inl (let x = some_close a.opened key k in (grind (arith, x, e), grind (arith, x, e)));
  mask = λ h. h;
}
turns-divide r top a key (Some c) list was = record {
  was = was;
  old = λ k e. by k e (same_key (split_key key (Some c) list) k) refl;
  mask = λ h. h;
}
  where
    by : (k : Key) → is_some (stage_of (open_creation (close_creation a.opened key) (split_key key (Some c) list) Called) k) ≡ true → (b : Bool) → same_key (split_key key (Some c) list) k ≡ b
        → ((same_key key k ≡ false) × (is_open a k ≡ true)) ⊎ (Some (split_key key (Some c) list) ≡ Some k)
    by k e true u = inr (ap (λ z. Some z) (same_key_is (split_key key (Some c) list) k u))
    by k e false u =
        let x = opened_one (close_creation a.opened key) (split_key key (Some c) list) k Called e u in
        let y = some_close a.opened key k in
        inl (grind (arith, x, y), grind (arith, x, y))

pub turns-take_shares : (r top : ℕ) (a : Agree) (from : ℕ) (key : Key) (list : List Shared1) → takes_shares r a from key list ≡ true
    → Turns top a (take_shares r top a from key list).part key (next_key key (colour_at (slice_get list (place_in key.members r))) list)
unfolding take_shares
turns-take_shares r top a from key list takes = rw takes (turns-divide r top a key (colour_at (slice_get list (place_in key.members r))) list (taking r a from key list takes).sharing)
