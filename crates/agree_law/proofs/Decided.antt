-- What a verdict makes of a part, key by key.
use Rattle.std.proofs.Common.{◌≡◌, ◌≤◌, ◌+◌, ◌==◌, ◌&&◌, ◌||◌, not, ℕ, Bool, true, false, if◌then◌else◌, List, get_or, set, Option, Some, None, refl, sym, subst, ap, ◌∙◌, arith}
use Rattle.std.specs.Prelude.{nat_lt}
use Rattle.std.specs.Option.{is_some}
use Rattle.std.proofs.lemmas.Bool.Decides.{nat_tests}
use Rattle.mpi_base.specs.declared.keys.Key.{Key}
use Rattle.mpi_base.specs.Keys.{same_key}
use Rattle.mpi_base.proofs.KeyFacts.{same_key_is, same_key-refl}
use Rattle.agree_law.specs.declared.rows.Outcome.TheVariants as outcome
use Rattle.agree_law.specs.declared.rows.Stage.{Stage}
use Rattle.agree_law.specs.declared.rows.Stage.TheVariants.{Sharing, Called, Waiting, Offered, Done}
use Rattle.agree_law.specs.declared.rows.Verdict.{Verdict}
use Rattle.agree_law.specs.declared.rows.Verdict.TheVariants.{Ready, Retry, Context, Exhausted}
use Rattle.agree_law.specs.Part.{Offer, Agree, stage_of, round_of, set_stage, drop_offers}
use Rattle.agree_law.specs.Kinds.{is_share}
use Rattle.agree_law.specs.Rule.{is_key, let_go}
use Rattle.agree_law.specs.Verdicts.{takes, rounds_after}
use Rattle.agree_law.proofs.Lists.{AllOf, AllOf_both, AllOf_filter, found}
use Rattle.agree_law.proofs.RowFacts.{stage_of-set, round_of-set, round_of-drop, of_key, of_key-drop, at_place, is_whole}
use Rattle.agree_law.proofs.MaskFacts.{own_each, mask_each}
use Rattle.agree_law.proofs.KeyKept.{View, view_of, owned_mask, stage_fits, Held, next_round, is_said_of, IsFree}
use Rattle.agree_law.proofs.Decide.{whole_own}
use Rattle.agree_law.proofs.Kept.{stage_is_of, RowFits, OfferFits}
use Rattle.agree_law.proofs.OpenRows.{rows-set}

abbrev pub decided : Agree → Key → ℕ → Verdict → Agree
decided a key i v = takes (rounds_after a key i v) key i v

abbrev pub stage_after : ℕ → Verdict → Stage
stage_after i Ready = Waiting 1
stage_after i Retry = Waiting (i + 1)
stage_after i (Context c) = Done (outcome.Context c)
stage_after i Exhausted = Done outcome.Exhausted

abbrev pub owner_after : Option Key → Key → Verdict → Option Key
owner_after owner key Ready = owner
owner_after owner key Retry = let_go owner key
owner_after owner key (Context c) = let_go owner key
owner_after owner key Exhausted = let_go owner key

abbrev pub mask_after : List Bool → Verdict → List Bool
mask_after mask Ready = mask
mask_after mask Retry = mask
mask_after mask (Context c) = set mask c false
mask_after mask Exhausted = mask

-- the fields of the part after a verdict
pub record After (a b : Agree) (key : Key) (i : ℕ) (v : Verdict) : Type 0 where
  pub opened : b.opened ≡ set_stage a.opened key (stage_after i v)
  pub owner : b.owner ≡ owner_after a.owner key v
  pub mask : b.mask ≡ mask_after a.mask v
  pub gathered : b.gathered ≡ drop_offers a.gathered key
  pub rounds : (k : Key) → round_of b.rounds k ≡ (if same_key key k then next_round i v else round_of a.rounds k)
  pub shares : b.shares ≡ a.shares

pub after : (a : Agree) (key : Key) (i : ℕ) (v : Verdict) → After a (decided a key i v) key i v
unfolding takes rounds_after
after a key i Ready = record { opened = refl; owner = refl; mask = refl; gathered = refl; rounds = λ k. round_of-set a.rounds key k 1; shares = refl }
after a key i Retry = record { opened = refl; owner = refl; mask = refl; gathered = refl; rounds = λ k. round_of-set a.rounds key k (i + 1); shares = refl }
after a key i (Context c) = record { opened = refl; owner = refl; mask = refl; gathered = refl; rounds = λ k. round_of-drop a.rounds key k; shares = refl }
after a key i Exhausted = record { opened = refl; owner = refl; mask = refl; gathered = refl; rounds = λ k. round_of-drop a.rounds key k; shares = refl }

-- Other keys

-- a verdict that takes a context is the owner's
abbrev pub OwnsFor : Agree → Key → Verdict → Type 0
OwnsFor a key Ready = Unit {0}
OwnsFor a key Retry = Unit {0}
OwnsFor a key (Context c) = is_key a.owner key ≡ true
OwnsFor a key Exhausted = Unit {0}

view_from : Option Stage → ℕ → List Offer → Bool → List Bool → View
view_from s g os b m = record { stage = s; round = g; offers = os; owns = b; mask = m }

view_is : (a : Agree) (k : Key) → view_from (stage_of a.opened k) (round_of a.rounds k) (of_key a.gathered k) (is_key a.owner k) (owned_mask (is_key a.owner k) a.mask) ≡ view_of a k
unfolding view_from
view_is a k = refl

pub view_eq : (a b : Agree) (k : Key) → stage_of b.opened k ≡ stage_of a.opened k → round_of b.rounds k ≡ round_of a.rounds k → of_key b.gathered k ≡ of_key a.gathered k → is_key b.owner k ≡ is_key a.owner k
    → owned_mask (is_key b.owner k) b.mask ≡ owned_mask (is_key a.owner k) a.mask → view_of b k ≡ view_of a k
view_eq a b k p q r e f = let x = view_is a k in let y = view_is b k in sym y ∙ cc (p, q, r, e, f) ∙ x

let_go_other : (o : Option Key) (key k : Key) → same_key key k ≡ false → is_key (let_go o key) k ≡ is_key o k
let_go_other None key k e = refl
let_go_other (Some x) key k e = go (same_key x key) refl
  where
    go : (b : Bool) → same_key x key ≡ b → is_key (if b then None else Some x) k ≡ same_key x k
    go true s = let is = same_key_is x key s in sym (ap (λ z. same_key z k) is ∙ e)
    go false s = refl

owner_other : (o : Option Key) (key k : Key) (v : Verdict) → same_key key k ≡ false → is_key (owner_after o key v) k ≡ is_key o k
owner_other o key k Ready e = refl
owner_other o key k Retry e = let_go_other o key k e
owner_other o key k (Context c) e = let_go_other o key k e
owner_other o key k Exhausted e = let_go_other o key k e

one_owner : (o : Option Key) (key k : Key) → is_key o key ≡ true → same_key key k ≡ false → is_key o k ≡ false
one_owner None key k e s = refl
one_owner (Some x) key k e s = ap (λ z. same_key z k) (same_key_is x key e) ∙ s

masks_other : (a : Agree) (key k : Key) (v : Verdict) → same_key key k ≡ false → OwnsFor a key v → owned_mask (is_key (owner_after a.owner key v) k) (mask_after a.mask v) ≡ owned_mask (is_key a.owner k) a.mask
masks_other a key k Ready e o = refl
masks_other a key k Retry e o = ap (λ b. owned_mask b a.mask) (let_go_other a.owner key k e)
masks_other a key k (Context c) e o = let x = one_owner a.owner key k o e in rw (let_go_other a.owner key k e, x) refl
masks_other a key k Exhausted e o = ap (λ b. owned_mask b a.mask) (let_go_other a.owner key k e)

pub decided_other : (a b : Agree) (key : Key) (i : ℕ) (v : Verdict) (k : Key) → After a b key i v → same_key key k ≡ false → OwnsFor a key v → view_of b k ≡ view_of a k
decided_other a b key i v k x e o =
    let stage : stage_of b.opened k ≡ stage_of a.opened k = ap (λ z. stage_of z k) x.opened ∙ stage_of-set a.opened key (stage_after i v) k ∙ (rw e refl) in
    let round : round_of b.rounds k ≡ round_of a.rounds k = x.rounds k ∙ (rw e refl) in
    let offers : of_key b.gathered k ≡ of_key a.gathered k = ap (λ z. of_key z k) x.gathered ∙ of_key-drop a.gathered key k ∙ (rw e refl) in
    let owns : is_key b.owner k ≡ is_key a.owner k = ap (λ z. is_key z k) x.owner ∙ owner_other a.owner key k v e in
    let mask : owned_mask (is_key b.owner k) b.mask ≡ owned_mask (is_key a.owner k) a.mask = ap (λ z. owned_mask (is_key z k) b.mask) x.owner ∙ ap (λ z. owned_mask (is_key (owner_after a.owner key v) k) z) x.mask ∙ masks_other a key k v e o in
    view_eq a b k stage round offers owns mask

-- The key itself

let_go_mine : (o : Option Key) (key : Key) → is_key (let_go o key) key ≡ false
let_go_mine None key = refl
let_go_mine (Some x) key = go (same_key x key) refl
  where
    go : (b : Bool) → same_key x key ≡ b → is_key (if b then None else Some x) key ≡ false
    go true s = refl
    go false s = s

-- an owner that lets go owned before
pub owner_was : (o : Option Key) (key k : Key) (v : Verdict) → is_key (owner_after o key v) k ≡ true → is_key o k ≡ true
owner_was o key k v e = go v e
  where
    was : (o : Option Key) → is_key (let_go o key) k ≡ true → is_key o k ≡ true
    was None e = e
    was (Some x) e = by (same_key x key) e
      where
        by : (b : Bool) → is_key (if b then None else Some x) k ≡ true → same_key x k ≡ true
        by true e = absurd (cc)
        by false e = e

    go : (v : Verdict) → is_key (owner_after o key v) k ≡ true → is_key o k ≡ true
    go Ready e = e
    go Retry e = was o e
    go (Context c) e = was o e
    go Exhausted e = was o e

-- a member whose offer is there has called, or offered in the round
pub data Offers : Option Stage → ℕ → Bool → Type 0 where
  Calls : Offers (Some Called) 0 false
  Owns : (j : ℕ) (own : Bool) → nat_lt 0 j ≡ true → Offers (Some (Offered j own)) j own

pub offers_of : (s : Option Stage) (g c : ℕ) (b : Bool) → stage_fits s g c b ≡ true → 1 ≤ c → Offers s g b
offers_of None g c b e l = absurd (let z : (c == 0) ≡ true = grind (arith, e) in grind (arith, nat_tests, z, l))
offers_of (Some (Sharing s)) g c b e l = absurd (cc)
offers_of (Some Called) g c b e l =
    let z : g ≡ 0 = grind (arith, nat_tests, e) in
    let f : b ≡ false = falses b (grind (arith, e)) in
    subst (λ y. Offers (Some Called) y b) (sym z) (subst (λ y. Offers (Some Called) 0 y) (sym f) Calls)
  where
    falses : (b : Bool) → not b ≡ true → b ≡ false
    falses true e = absurd (cc)
    falses false e = refl
offers_of (Some (Waiting i)) g c b e l = absurd (let z : (c == 0) ≡ true = grind (arith, e) in grind (arith, nat_tests, z, l))
offers_of (Some (Offered i own)) g c b e l =
    let z : g ≡ i = grind (arith, nat_tests, e) in
    let pos : nat_lt 0 i ≡ true = grind (arith, e) in
    let f : b ≡ own = same b own (grind (arith, e)) in
    subst (λ y. Offers (Some (Offered i own)) y b) (sym z) (subst (λ y. Offers (Some (Offered i own)) i y) (sym f) (Owns i own pos))
  where
    same : (b own : Bool) → ((b && own) || (not b && not own)) ≡ true → b ≡ own
    same true true e = refl
    same true false e = absurd (cc)
    same false true e = absurd (cc)
    same false false e = refl
offers_of (Some (Done x)) g c b e l = absurd (let z : (c == 0) ≡ true = grind (arith, e) in grind (arith, nat_tests, z, l))

pub decided_fits : (a b : Agree) (key : Key) (i : ℕ) (v : Verdict) → After a b key i v → Offers (stage_of a.opened key) i (is_key a.owner key) → is_said_of i v ≡ true
    → stage_fits (stage_of b.opened key) (round_of b.rounds key) 0 (is_key b.owner key) ≡ true
decided_fits a b key i v x o said =
    let self = same_key-refl key in
    let some : is_some (stage_of a.opened key) ≡ true = is_there (stage_of a.opened key) i (is_key a.owner key) o in
    let stage : stage_of b.opened key ≡ Some (stage_after i v) = ap (λ z. stage_of z key) x.opened ∙ stage_of-set a.opened key (stage_after i v) key ∙ (rw (self, some) refl) in
    let round : round_of b.rounds key ≡ next_round i v = x.rounds key ∙ (rw self refl) in
    let owns : is_key b.owner key ≡ is_key (owner_after a.owner key v) key = ap (λ z. is_key z key) x.owner in
    rw (stage, round, owns) (go v said)
  where
    is_there : (s : Option Stage) (i : ℕ) (b : Bool) → Offers s i b → is_some s ≡ true
    is_there None i b o = elim o [ ]
    is_there (Some s) i b o = refl

    round_zero : (s : Option Stage) (j : ℕ) (b : Bool) → Offers s j b → (j == 0) ≡ true → b ≡ false
    round_zero s j b Calls e = refl
    round_zero s j b (Owns k own pos) e = absurd (grind (arith, nat_tests, pos, e))

    go : (v : Verdict) → is_said_of i v ≡ true → stage_fits (Some (stage_after i v)) (next_round i v) 0 (is_key (owner_after a.owner key v) key) ≡ true
    go Ready s = let f = round_zero (stage_of a.opened key) i (is_key a.owner key) o s in rw f refl
    go Retry s = rw (let_go_mine a.owner key) (grind (arith, nat_tests, s))
    go (Context c) s = rw (let_go_mine a.owner key) refl
    go Exhausted s = rw (let_go_mine a.owner key) refl

-- where a context is offered below, it is free in the member's own mask, which the key owns
pub own_free : (top n : ℕ) (v : View) (p : ℕ) (at : ℕ → View) (c : ℕ) → AllOf (Held top n v p at) v.offers → is_whole v.offers p n ≡ true → IsFree top v (Context c) → (v.owns ≡ true) × (get_or v.mask c false ≡ true)
own_free top n v p at c h whole f =
    let P : Offer → Type 0 = λ x. Held top n v p at x × ((x.own ≡ true) × (get_or x.mask c false ≡ true)) in
    let each : AllOf P v.offers = AllOf_both (Held top n v p at) (λ x. (x.own ≡ true) × (get_or x.mask c false ≡ true)) P v.offers (λ x a b. (a, b)) h
    (AllOf_both (λ x. x.own ≡ true) (λ x. get_or x.mask c false ≡ true) (λ x. (x.own ≡ true) × (get_or x.mask c false ≡ true)) v.offers (λ x a b. (a, b)) (own_each v.offers f.0) (mask_each top v.offers c f.1)) in
    let x = found P (at_place p) v.offers (whole_own v.offers p n whole) each in
    let is : x.0.place ≡ p = grind (arith, nat_tests, x.1) in
    let own = x.2.0.own is in
    let t = x.2.1.0 in
    (sym own.owns ∙ t, ap (λ m. get_or m c false) (sym (own.mask t)) ∙ x.2.1.1)

-- What is kept of the rows

after_kind : (b : Bool) (i : ℕ) (v : Verdict) → b ≡ false → stage_is_of b (stage_after i v) ≡ true
after_kind true i v e = absurd (cc)
after_kind false i Ready e = refl
after_kind false i Retry e = refl
after_kind false i (Context c) e = refl
after_kind false i Exhausted e = refl

pub decided_rows : (n r : ℕ) (a b : Agree) (key : Key) (i : ℕ) (v : Verdict) → After a b key i v → is_share key.kind ≡ false → AllOf (RowFits n r) a.opened → AllOf (RowFits n r) b.opened
decided_rows n r a b key i v x plain h = subst (λ z. AllOf (RowFits n r) z) (sym x.opened) (rows-set n r a.opened key (stage_after i v) (after_kind (is_share key.kind) i v plain) h)

pub decided_offers : (n r : ℕ) (a b : Agree) (key : Key) (i : ℕ) (v : Verdict) → After a b key i v → AllOf (OfferFits n r) a.gathered → AllOf (OfferFits n r) b.gathered
decided_offers n r a b key i v x h = subst (λ z. AllOf (OfferFits n r) z) (sym x.gathered) (AllOf_filter (OfferFits n r) (λ o. not (same_key o.key key)) a.gathered h)
