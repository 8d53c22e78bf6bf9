-- Why an offer does not own, and which moves make one.
use Rattle.std.proofs.Common.{◌≡◌, ◌⊎◌, ◌||◌, not, ℕ, ℤ, Bool, true, false, if◌then◌else◌, List, [], ◌∷◌, slice_get, Option, Some, None, refl, sym, subst, ◌∙◌, inl, inr, arith}
use Rattle.std.specs.List.{list_all}
use Rattle.std.specs.Option.{is_some}
use Rattle.std.proofs.lemmas.Bool.Decides.{nat_tests}
use Rattle.mpi_base.specs.declared.keys.Key.{Key}
use Rattle.mpi_base.specs.Keys.{same_key, key_before}
use Rattle.mpi_base.proofs.KeyFacts.{same_key_is, same_key-refl}
use Rattle.agree_law.specs.declared.rows.CreationRow.{CreationRow}
use Rattle.mpi_base.specs.declared.shares.Shared1.{Shared1}
use Rattle.agree_law.specs.declared.rows.Stage.{Stage}
use Rattle.agree_law.specs.declared.rows.Stage.TheVariants.{Sharing, Called, Waiting, Offered, Done}
use Rattle.agree_law.specs.declared.rows.Verdict.{Verdict}
use Rattle.agree_law.specs.declared.rows.Verdict.TheVariants.{Ready, Retry, Context, Exhausted}
use Rattle.agree_law.specs.Tree.{place_in, member_at, is_first, is_child}
use Rattle.agree_law.specs.Part.{Agree, stage_of, round_of, open_creation, set_stage, close_creation, drop_shares}
use Rattle.agree_law.specs.Packets.{Share, Moved, stays}
use Rattle.agree_law.specs.Rule.{is_key, is_waiting, is_least, may_own}
use Rattle.agree_law.specs.Offers.{put_offer, begin, if_waiting, make_offer, takes_up, take_up}
use Rattle.agree_law.specs.Verdicts.{decide, takes_down, take_down}
use Rattle.agree_law.specs.Classes.{split_key}
use Rattle.agree_law.specs.Shares.{put_share, begin_share, takes_share, take_share, divide, takes_shares, colour_at, take_shares, share_list, settle_share}
use Rattle.agree_law.specs.Moves.{give_back, close}
use Rattle.agree_law.specs.World.{World, part_at}
use Rattle.agree_law.specs.Facts.{Cause, Owned, Lesser}
use Rattle.agree_law.proofs.TreeFacts.{first_place}
use Rattle.agree_law.proofs.RowFacts.{or_else, stage_of-open, stage_of-set, stage_of-close}
use Rattle.agree_law.proofs.KeyKept.{next_round}
use Rattle.agree_law.proofs.Kept.{Kept}
use Rattle.agree_law.proofs.Decided.{stage_after, after}
use Rattle.agree_law.proofs.WorldFacts.{owners_have_offered}

-- Why an offer does not own

lesser : (xs ys : List CreationRow) (key : Key) → list_all (λ o. not (is_waiting (stage_of ys o.key)) || not (key_before o.key key)) xs ≡ false → (k : Key) × (is_waiting (stage_of ys k) ≡ true) × (key_before k key ≡ true)
lesser [] ys key e = absurd (cc)
lesser (x ∷ xs) ys key e = go (is_waiting (stage_of ys x.key)) refl (key_before x.key key) refl (lesser xs ys key)
  where
    go : (a : Bool) → is_waiting (stage_of ys x.key) ≡ a → (b : Bool) → key_before x.key key ≡ b → (list_all (λ o. not (is_waiting (stage_of ys o.key)) || not (key_before o.key key)) xs ≡ false → (k : Key) × (is_waiting (stage_of ys k) ≡ true) × (key_before k key ≡ true))
        → (k : Key) × (is_waiting (stage_of ys k) ≡ true) × (key_before k key ≡ true)
    go true f true g ih = (x.key, f, g)
    go true f false g ih = ih (grind (arith, e, f, g))
    go false f b g ih = ih (grind (arith, e, f))

pub cause_of : (top : ℕ) (w : World) (q : ℕ) (key : Key) (i : ℕ) → Kept top w → stage_of (part_at w q).opened key ≡ Some (Waiting i) → may_own (part_at w q) key ≡ false → Cause (part_at w q) key
unfolding may_own is_least
cause_of top w q key i h waits zero = go (part_at w q).owner refl
  where
    go : (o : Option Key) → (part_at w q).owner ≡ o → Cause (part_at w q) key
    go None e =
        let all : list_all (λ o. not (is_waiting (stage_of (part_at w q).opened o.key)) || not (key_before o.key key)) (part_at w q).opened ≡ false = grind (arith, zero, e) in
        let x = lesser (part_at w q).opened (part_at w q).opened key all in
        Lesser x.0 x.1 x.2
    go (Some k) e = other (same_key k key) refl
      where
        other : (b : Bool) → same_key k key ≡ b → Cause (part_at w q) key
        other true s =
            let owns : is_key (part_at w q).owner key ≡ true = rw e s in
            let x = (owners_have_offered top w h q key owns).stage in
            absurd (cc)
        other false s = Owned k (rw e (same_key-refl k)) s

-- What moves do to offers that do not own, and to rounds

abbrev is_offered_stage : Stage → Bool
is_offered_stage (Sharing s) = false
is_offered_stage Called = false
is_offered_stage (Waiting i) = false
is_offered_stage (Offered i own) = true
is_offered_stage (Done c) = false

abbrev pub Old : List CreationRow → List CreationRow → Key → Type 0
Old xs ys k = (i : ℕ) → stage_of ys k ≡ Some (Offered i false) → stage_of xs k ≡ Some (Offered i false)

not_offered : (s : Stage) (i : ℕ) → is_offered_stage s ≡ false → Some s ≡ Some (Offered i false) → ⊥
not_offered s i e f = (let is : s ≡ Offered i false = cc in let t : is_offered_stage s ≡ true = rw is refl in cc)

old-open : (xs : List CreationRow) (key : Key) (s : Stage) (k : Key) → is_offered_stage s ≡ false → Old xs (open_creation xs key s) k
old-open xs key s k plain i e = go (stage_of xs k) (same_key key k) (sym (stage_of-open xs key s k) ∙ e)
  where
    go : (o : Option Stage) (b : Bool) → or_else o (if b then Some s else None) ≡ Some (Offered i false) → o ≡ Some (Offered i false)
    go (Some x) b e = e
    go None true e = absurd (not_offered s i plain e)
    go None false e = absurd (cc)

old-set : (xs : List CreationRow) (key : Key) (s : Stage) (k : Key) → is_offered_stage s ≡ false → Old xs (set_stage xs key s) k
old-set xs key s k plain i e = go (stage_of xs k) (same_key key k) (sym (stage_of-set xs key s k) ∙ e)
  where
    go : (o : Option Stage) (b : Bool) → (if b then (if is_some o then Some s else None) else o) ≡ Some (Offered i false) → o ≡ Some (Offered i false)
    go (Some x) true e = absurd (not_offered s i plain e)
    go None true e = absurd (cc)
    go o false e = e

old-close : (xs : List CreationRow) (key k : Key) → Old xs (close_creation xs key) k
old-close xs key k i e = go (stage_of xs k) (same_key key k) (sym (stage_of-close xs key k) ∙ e)
  where
    go : (o : Option Stage) (b : Bool) → (if b then None else o) ≡ Some (Offered i false) → o ≡ Some (Offered i false)
    go o true e = absurd (cc)
    go o false e = e

-- a move that makes no offer, and does not move the key's round
pub record Tame (a b : Agree) (k : Key) : Type 0 where
  pub old : Old a.opened b.opened k
  pub round : round_of b.rounds k ≡ round_of a.rounds k

tame_same : (a : Agree) (k : Key) → Tame a a k
tame_same a k = record { old = λ i e. e; round = refl }

pub tame-begin : (r top : ℕ) (a : Agree) (key k : Key) → Tame a (begin r top a key).part k
unfolding begin put_offer
tame-begin r top a key k = record { old = old-open a.opened key Called k refl; round = refl }

pub tame-up : (r top : ℕ) (a : Agree) (from : ℕ) (key : Key) (i : ℕ) (own : Bool) (mask : List Bool) (k : Key) → Tame a (take_up r top a from key i own mask).part k
unfolding take_up put_offer
tame-up r top a from key i own mask k = go (takes_up r a from key i)
  where
    go : (c : Bool) → Tame a (if c then put_offer r top a key (place_in key.members from) own mask else stays a).part k
    go true = record { old = λ i e. e; round = refl }
    go false = tame_same a k

after_plain : (i : ℕ) (v : Verdict) → is_offered_stage (stage_after i v) ≡ false
after_plain i Ready = refl
after_plain i Retry = refl
after_plain i (Context c) = refl
after_plain i Exhausted = refl

pub old-decide : (r : ℕ) (a : Agree) (key : Key) (i : ℕ) (v : Verdict) (k : Key) → Old a.opened (decide r a key i v).part.opened k
unfolding decide
old-decide r a key i v k = let x = after a key i v in subst (λ z. Old a.opened z k) (sym x.opened) (old-set a.opened key (stage_after i v) k (after_plain i v))

pub round-decide : (r : ℕ) (a : Agree) (key : Key) (i : ℕ) (v : Verdict) (k : Key) → round_of (decide r a key i v).part.rounds k ≡ (if same_key key k then next_round i v else round_of a.rounds k)
unfolding decide
round-decide r a key i v k = (after a key i v).rounds k

pub old-down : (r : ℕ) (a : Agree) (from : ℕ) (key : Key) (i : ℕ) (v : Verdict) (k : Key) → Old a.opened (take_down r a from key i v).part.opened k
unfolding take_down
old-down r a from key i v k = go (takes_down r a from key i v)
  where
    go : (c : Bool) → Old a.opened (if c then decide r a key i v else stays a).part.opened k
    go true = old-decide r a key i v k
    go false = λ i e. e

-- the first member of a key takes no verdict from another
first_apart : (r : ℕ) (a : Agree) (from : ℕ) (key : Key) (i : ℕ) (v : Verdict) → is_first r key.members ≡ true → takes_down r a from key i v ≡ true → ⊥
unfolding takes_down
first_apart r a from key i v first e =
    let p = (first_place key.members r first).0 in
    let c : is_child (place_in key.members from) (place_in key.members r) ≡ true = grind (arith, e) in
    absurd (grind (arith, nat_tests, c, p))

pub round-down : (r : ℕ) (a : Agree) (from : ℕ) (key : Key) (i : ℕ) (v : Verdict) (k : Key) → is_first r k.members ≡ true → round_of (take_down r a from key i v).part.rounds k ≡ round_of a.rounds k
unfolding take_down
round-down r a from key i v k first = go (takes_down r a from key i v) refl (same_key key k) refl
  where
    go : (c : Bool) → takes_down r a from key i v ≡ c → (b : Bool) → same_key key k ≡ b → round_of (if c then decide r a key i v else stays a).part.rounds k ≡ round_of a.rounds k
    go false t b s = refl
    go true t true s = absurd (first_apart r a from key i v (let is = same_key_is key k s in rw is first) t)
    go true t false s = round-decide r a key i v k ∙ (rw s refl)

pub tame-begin_share : (r : ℕ) (a : Agree) (key : Key) (s : Shared1) (k : Key) → Tame a (begin_share r a key s).part k
unfolding begin_share
tame-begin_share r a key s k = go (is_first r key.members)
  where
    b : Agree
    b = record a { opened = open_creation a.opened key (Sharing s) }

    m : Bool → Moved
    m c = if c then record { part = put_share b key 0 s; sent = [] } else record { part = b; sent = record { to = member_at key.members 0; packet = Share key s } ∷ [] }

    go : (c : Bool) → Tame a (m c).part k
    go true = record { old = old-open a.opened key (Sharing s) k refl; round = refl }
    go false = record { old = old-open a.opened key (Sharing s) k refl; round = refl }

pub tame-take_share : (r : ℕ) (a : Agree) (from : ℕ) (key : Key) (s : Shared1) (k : Key) → Tame a (take_share r a from key s).part k
unfolding take_share
tame-take_share r a from key s k = go (takes_share r a from key)
  where
    m : Bool → Moved
    m c = if c then record { part = put_share a key (place_in key.members from) s; sent = [] } else stays a

    go : (c : Bool) → Tame a (m c).part k
    go true = record { old = λ i e. e; round = refl }
    go false = tame_same a k

tame-divide : (r top : ℕ) (a : Agree) (key : Key) (c : Option ℤ) (list : List Shared1) (k : Key) → Tame a (divide r top a key c list).part k
unfolding divide begin put_offer
tame-divide r top a key None list k = record { old = old-close a.opened key k; round = refl }
tame-divide r top a key (Some c) list k =
    record { old = λ i e. old-close a.opened key k i (old-open (close_creation a.opened key) (split_key key (Some c) list) Called k refl i e); round = refl }

pub tame-take_shares : (r top : ℕ) (a : Agree) (from : ℕ) (key : Key) (list : List Shared1) (k : Key) → Tame a (take_shares r top a from key list).part k
unfolding take_shares
tame-take_shares r top a from key list k = go (takes_shares r a from key list)
  where
    go : (c : Bool) → Tame a (if c then divide r top a key (colour_at (slice_get list (place_in key.members r))) list else stays a).part k
    go true = tame-divide r top a key (colour_at (slice_get list (place_in key.members r))) list k
    go false = tame_same a k

pub tame-settle_share : (r top : ℕ) (a : Agree) (key k : Key) → Tame a (settle_share r top a key).part k
unfolding settle_share
tame-settle_share r top a key k =
    let t = tame-take_shares r top (record a { shares = drop_shares a.shares key }) r key (share_list a.shares key) k in
    record { old = t.old; round = t.round }

pub tame-close : (a : Agree) (key k : Key) → Tame a (close a key) k
unfolding close
tame-close a key k = record { old = old-close a.opened key k; round = refl }

pub tame-back : (a : Agree) (c : ℕ) (k : Key) → Tame a (give_back a c) k
unfolding give_back
tame-back a c k = record { old = λ i e. e; round = refl }

-- an offer
pub round-offer : (r top : ℕ) (a : Agree) (key k : Key) → round_of (make_offer r top a key).part.rounds k ≡ round_of a.rounds k
unfolding make_offer put_offer
round-offer r top a key k = go (stage_of a.opened key)
  where
    go : (s : Option Stage) → round_of (if_waiting r top a key s).part.rounds k ≡ round_of a.rounds k
    go None = refl
    go (Some (Sharing s)) = refl
    go (Some Called) = refl
    go (Some (Waiting i)) = refl
    go (Some (Offered i own)) = refl
    go (Some (Done c)) = refl

pub old-offer : (r top : ℕ) (a : Agree) (key k : Key) (i : ℕ) → stage_of (make_offer r top a key).part.opened k ≡ Some (Offered i false)
    → (stage_of a.opened k ≡ Some (Offered i false)) ⊎ ((key ≡ k) × ((j : ℕ) × (stage_of a.opened key ≡ Some (Waiting j))) × (may_own a key ≡ false))
unfolding make_offer put_offer
old-offer r top a key k i e = go (stage_of a.opened key) refl e
  where
    go : (s : Option Stage) → stage_of a.opened key ≡ s → stage_of (if_waiting r top a key s).part.opened k ≡ Some (Offered i false)
        → (stage_of a.opened k ≡ Some (Offered i false)) ⊎ ((key ≡ k) × ((j : ℕ) × (stage_of a.opened key ≡ Some (Waiting j))) × (may_own a key ≡ false))
    go None f e = inl e
    go (Some (Sharing s)) f e = inl e
    go (Some Called) f e = inl e
    go (Some (Offered j own)) f e = inl e
    go (Some (Done c)) f e = inl e
    go (Some (Waiting j)) f e = by (same_key key k) refl (may_own a key) refl (stage_of a.opened k) refl (sym (stage_of-set a.opened key (Offered j (may_own a key)) k) ∙ e)
      where
        by : (b : Bool) → same_key key k ≡ b → (own : Bool) → may_own a key ≡ own → (o : Option Stage) → stage_of a.opened k ≡ o → (if b then (if is_some o then Some (Offered j (may_own a key)) else None) else o) ≡ Some (Offered i false)
            → (stage_of a.opened k ≡ Some (Offered i false)) ⊎ ((key ≡ k) × ((j : ℕ) × (stage_of a.opened key ≡ Some (Waiting j))) × (may_own a key ≡ false))
        by true s false g o t e = inr (same_key_is key k s, (j, f), g)
        by true s true g (Some x) t e = absurd (let y : may_own a key ≡ false = cc in cc)
        by true s true g None t e = absurd (cc)
        by false s own g o t e = inl (t ∙ e)
