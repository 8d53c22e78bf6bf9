-- A mask with an owner changes only by that owner's verdict.
use Rattle.std.proofs.Common.{◌≡◌, ◌≢◌, ◌⊎◌, ◌≤◌, ◌<◌, ◌==◌, ℕ, ℤ, Bool, true, false, if◌then◌else◌, List, [], ◌∷◌, length, get_or, set, slice_get, Option, Some, None, refl, sym, subst, ap, ◌∙◌, inl, inr, arith, ⊎_elim}
use Rattle.std.specs.Prelude.{is_none}
use Rattle.std.proofs.lemmas.Bool.Decides.{nat_tests}
use Rattle.mpi_base.specs.declared.keys.Key.{Key}
use Rattle.mpi_base.specs.Keys.{same_key}
use Rattle.mpi_base.proofs.KeyFacts.{same_key_is}
use Rattle.mpi_base.specs.declared.shares.Shared1.{Shared1}
use Rattle.agree_law.specs.declared.rows.Stage.{Stage}
use Rattle.agree_law.specs.declared.rows.Stage.TheVariants.{Sharing, Called, Waiting, Offered, Done}
use Rattle.agree_law.specs.declared.rows.Verdict.{Verdict}
use Rattle.agree_law.specs.declared.rows.Verdict.TheVariants.{Ready, Retry, Context, Exhausted}
use Rattle.agree_law.specs.Tree.{place_in, member_at, is_first}
use Rattle.agree_law.specs.Part.{Agree, fresh, stage_of, round_of, open_creation, drop_shares}
use Rattle.agree_law.specs.Packets.{Packet, Up, Down, Share, Shares, Moved, stays}
use Rattle.agree_law.specs.Kinds.{is_share}
use Rattle.agree_law.specs.Rule.{is_key}
use Rattle.agree_law.specs.Gather.{verdict_of}
use Rattle.agree_law.specs.Offers.{put_offer, begin, if_waiting, make_offer, takes_up, take_up}
use Rattle.agree_law.specs.Verdicts.{decide, may_settle_offers, settle_offers, takes_down, take_down}
use Rattle.agree_law.specs.Shares.{put_share, begin_share, takes_share, take_share, divide, takes_shares, colour_at, take_shares, share_list, settle_share}
use Rattle.agree_law.specs.Moves.{may_settle, settle, give_back, close, deliver, takes_packet}
use Rattle.agree_law.specs.World.{Flight, World, Event, Begin, Begin_share, Offer, Settle, Deliver, Back, Close, part_at, head_of, popped, moved, may_happen, came, happened, happens}
use Rattle.agree_law.specs.Facts.{key_down, verdict_at, MasksStay, UpsAndDownsAreTaken}
use Rattle.agree_law.proofs.Lists.{set_place}
use Rattle.agree_law.proofs.KeyKept.{view_of, IsFree}
use Rattle.agree_law.proofs.Kept.{Kept, with_links}
use Rattle.agree_law.proofs.UpSteps.{kept-up}
use Rattle.agree_law.proofs.Decided.{mask_after, decided, after, OwnsFor}
use Rattle.agree_law.proofs.DownSteps.{Settling, settling, said_facts, free_here, kept-down}

pub ups_and_downs_are_taken : (top : ℕ) (w : World) → Kept top w → UpsAndDownsAreTaken w
unfolding takes_packet
ups_and_downs_are_taken top w h r from (Up key i own mask) lt e t = (kept-up top w from r key i own mask lt e h).0
ups_and_downs_are_taken top w h r from (Down key i v) lt e t = (kept-down top w from r key i v lt e h).0
ups_and_downs_are_taken top w h r from (Share key s) lt e t = absurd (cc)
ups_and_downs_are_taken top w h r from (Shares key ss) lt e t = absurd (cc)

-- Moves that leave the mask

mask_begin : (r top : ℕ) (a : Agree) (key : Key) → (begin r top a key).part.mask ≡ a.mask
unfolding begin put_offer
mask_begin r top a key = refl

mask_offer : (r top : ℕ) (a : Agree) (key : Key) → (make_offer r top a key).part.mask ≡ a.mask
unfolding make_offer put_offer
mask_offer r top a key = go (stage_of a.opened key)
  where
    go : (s : Option Stage) → (if_waiting r top a key s).part.mask ≡ a.mask
    go None = refl
    go (Some (Sharing s)) = refl
    go (Some Called) = refl
    go (Some (Waiting i)) = refl
    go (Some (Offered i own)) = refl
    go (Some (Done c)) = refl

mask_up : (r top : ℕ) (a : Agree) (from : ℕ) (key : Key) (i : ℕ) (own : Bool) (mask : List Bool) → (take_up r top a from key i own mask).part.mask ≡ a.mask
unfolding take_up put_offer
mask_up r top a from key i own mask = go (takes_up r a from key i)
  where
    go : (c : Bool) → (if c then put_offer r top a key (place_in key.members from) own mask else stays a).part.mask ≡ a.mask
    go true = refl
    go false = refl

mask_begin_share : (r : ℕ) (a : Agree) (key : Key) (s : Shared1) → (begin_share r a key s).part.mask ≡ a.mask
unfolding begin_share
mask_begin_share r a key s = go (is_first r key.members)
  where
    b : Agree
    b = record a { opened = open_creation a.opened key (Sharing s) }

    m : Bool → Moved
    m c = if c then record { part = put_share b key 0 s; sent = [] } else record { part = b; sent = record { to = member_at key.members 0; packet = Share key s } ∷ [] }

    go : (c : Bool) → (m c).part.mask ≡ a.mask
    go true = refl
    go false = refl

mask_take_share : (r : ℕ) (a : Agree) (from : ℕ) (key : Key) (s : Shared1) → (take_share r a from key s).part.mask ≡ a.mask
unfolding take_share
mask_take_share r a from key s = go (takes_share r a from key)
  where
    m : Bool → Moved
    m c = if c then record { part = put_share a key (place_in key.members from) s; sent = [] } else stays a

    go : (c : Bool) → (m c).part.mask ≡ a.mask
    go true = refl
    go false = refl

mask_divide : (r top : ℕ) (a : Agree) (key : Key) (c : Option ℤ) (list : List Shared1) → (divide r top a key c list).part.mask ≡ a.mask
unfolding divide begin put_offer
mask_divide r top a key None list = refl
mask_divide r top a key (Some c) list = refl

mask_take_shares : (r top : ℕ) (a : Agree) (from : ℕ) (key : Key) (list : List Shared1) → (take_shares r top a from key list).part.mask ≡ a.mask
unfolding take_shares
mask_take_shares r top a from key list = go (takes_shares r a from key list)
  where
    go : (c : Bool) → (if c then divide r top a key (colour_at (slice_get list (place_in key.members r))) list else stays a).part.mask ≡ a.mask
    go true = mask_divide r top a key (colour_at (slice_get list (place_in key.members r))) list
    go false = refl

mask_settle_share : (r top : ℕ) (a : Agree) (key : Key) → (settle_share r top a key).part.mask ≡ a.mask
unfolding settle_share
mask_settle_share r top a key = mask_take_shares r top (record a { shares = drop_shares a.shares key }) r key (share_list a.shares key)

-- Verdicts

-- one of two keys that own a mask is the other
same_owner : (o : Option Key) (a b : Key) → is_key o a ≡ true → is_key o b ≡ true → same_key a b ≡ true
same_owner None a b e f = absurd (cc)
same_owner (Some k) a b e f = let x = same_key_is k a e in rw (← x) f

mask_decide : (r : ℕ) (a : Agree) (key : Key) (i : ℕ) (v : Verdict) (k : Key) → OwnsFor a key v → is_key a.owner k ≡ true → ((decide r a key i v).part.mask ≡ a.mask) ⊎ (same_key key k ≡ true)
unfolding decide
mask_decide r a key i v k o e = let x = (after a key i v).mask in go v o x
  where
    go : (v : Verdict) → OwnsFor a key v → (decided a key i v).mask ≡ mask_after a.mask v → ((decided a key i v).mask ≡ a.mask) ⊎ (same_key key k ≡ true)
    go Ready o x = inl x
    go Retry o x = inl x
    go (Context c) o x = inr (same_owner a.owner key k o e)
    go Exhausted o x = inl x

mask_settle_offers : (top : ℕ) (w : World) (r : ℕ) (key k : Key) → Kept top w → may_settle_offers r (part_at w r) key ≡ true → is_key (part_at w r).owner k ≡ true
    → ((settle_offers r top (part_at w r) key).part.mask ≡ (part_at w r).mask) ⊎ (same_key key k ≡ true)
unfolding settle_offers
mask_settle_offers top w r key k h may e =
    let s = settling top w r key may h in
    let f = said_facts top (part_at w r) key in
    mask_decide r (part_at w r) key (round_of (part_at w r).rounds key) (verdict_of top (part_at w r).gathered key (round_of (part_at w r).rounds key)) k
    (owns (verdict_of top (part_at w r).gathered key (round_of (part_at w r).rounds key)) f.1 s) e
  where
    owns : (v : Verdict) → IsFree top (view_of (part_at w r) key) v → Settling top w r key → OwnsFor (part_at w r) key v
    owns Ready f s = tt
    owns Retry f s = tt
    owns (Context c) f s = (free_here top w r key c s.good s.whole f h).0
    owns Exhausted f s = tt

-- a verdict that takes a context is taken by its owner alone
down_owns : (r : ℕ) (a : Agree) (from : ℕ) (key : Key) (i : ℕ) (v : Verdict) → takes_down r a from key i v ≡ true → OwnsFor a key v
unfolding takes_down
down_owns r a from key i Ready t = tt
down_owns r a from key i Retry t = tt
down_owns r a from key i (Context c) t = grind (arith, t)
down_owns r a from key i Exhausted t = tt

mask_down : (r : ℕ) (a : Agree) (from : ℕ) (key : Key) (i : ℕ) (v : Verdict) (k : Key) → is_key a.owner k ≡ true → ((take_down r a from key i v).part.mask ≡ a.mask) ⊎ (same_key key k ≡ true)
unfolding take_down
mask_down r a from key i v k e = go (takes_down r a from key i v) refl
  where
    go : (c : Bool) → takes_down r a from key i v ≡ c → ((if c then decide r a key i v else stays a).part.mask ≡ a.mask) ⊎ (same_key key k ≡ true)
    go true t = mask_decide r a key i v k (down_owns r a from key i v t) e
    go false t = inl refl

-- The step

pub part_of_moved : (w : World) (links : List Flight) (r : ℕ) (m : Moved) (q : ℕ) → (part_at (moved (with_links w links) r m) q ≡ part_at w q) ⊎ ((q ≡ r) × (part_at (moved (with_links w links) r m) q ≡ m.part))
unfolding moved
part_of_moved w links r m q =
    ⊎_elim
    (λ (c : (q ≡ r) × (r < length w.parts) × (get_or (set w.parts r m.part) q (fresh 0) ≡ m.part)). inr (c.0, c.2))
    (λ (c : ((q ≢ r) ⊎ (length w.parts ≤ r)) × (get_or (set w.parts r m.part) q (fresh 0) ≡ get_or w.parts q (fresh 0))). inl c.1)
    (set_place w.parts r m.part (fresh 0) q)

-- where the mover's mask stays, or its verdict is the owner's
stays_or : (w : World) (links : List Flight) (r : ℕ) (m : Moved) (q : ℕ) (P : Type 0) → (q ≡ r → (m.part.mask ≡ (part_at w r).mask) ⊎ P) → ((part_at (moved (with_links w links) r m) q).mask ≡ (part_at w q).mask) ⊎ P
stays_or w links r m q P h =
    ⊎_elim
    (λ (c : part_at (moved (with_links w links) r m) q ≡ part_at w q). inl (ap (λ (a : Agree). a.mask) c))
    (λ (c : (q ≡ r) × (part_at (moved (with_links w links) r m) q ≡ m.part)).
    ⊎_elim
    (λ (d : m.part.mask ≡ (part_at w r).mask). inl (ap (λ (a : Agree). a.mask) c.1 ∙ d ∙ ap (λ z. (part_at w z).mask) (sym c.0)))
    (λ (d : P). inr d)
    (h c.0))
    (part_of_moved w links r m q)

owner_at : (w : World) (q r : ℕ) (key : Key) → q ≡ r → is_key (part_at w q).owner key ≡ true → is_key (part_at w r).owner key ≡ true
owner_at w q r key e h = subst (λ z. is_key (part_at w z).owner key ≡ true) e h

mask_came : (top : ℕ) (w : World) (r from q : ℕ) (key : Key) (p : Option Packet) → is_key (part_at w q).owner key ≡ true → ((part_at (came top w r from p) q).mask ≡ (part_at w q).mask) ⊎ ((q ≡ r) × (is_key (key_down p) key ≡ true))
unfolding deliver
mask_came top w r from q key None e = inl refl
mask_came top w r from q key (Some (Up k i own mask)) e = stays_or w (popped w.links from r) r (take_up r top (part_at w r) from k i own mask) q _ (λ at. inl (mask_up r top (part_at w r) from k i own mask))
mask_came top w r from q key (Some (Down k i v)) e =
    stays_or w (popped w.links from r) r (take_down r (part_at w r) from k i v) q _
    (λ at. ⊎_elim (λ (x : (take_down r (part_at w r) from k i v).part.mask ≡ (part_at w r).mask). inl x) (λ (x : same_key k key ≡ true). inr (at, x)) (mask_down r (part_at w r) from k i v key (owner_at w q r key at e)))
mask_came top w r from q key (Some (Share k s)) e = stays_or w (popped w.links from r) r (take_share r (part_at w r) from k s) q _ (λ at. inl (mask_take_share r (part_at w r) from k s))
mask_came top w r from q key (Some (Shares k ss)) e = stays_or w (popped w.links from r) r (take_shares r top (part_at w r) from k ss) q _ (λ at. inl (mask_take_shares r top (part_at w r) from k ss))

mask_settle : (top : ℕ) (w : World) (r : ℕ) (key k : Key) → Kept top w → may_settle r (part_at w r) key ≡ true → is_key (part_at w r).owner k ≡ true → ((settle r top (part_at w r) key).part.mask ≡ (part_at w r).mask) ⊎ (same_key key k ≡ true)
unfolding may_settle settle
mask_settle top w r key k h may e = go (is_share key.kind) refl
  where
    go : (c : Bool) → is_share key.kind ≡ c → ((if c then settle_share r top (part_at w r) key else settle_offers r top (part_at w r) key).part.mask ≡ (part_at w r).mask) ⊎ (same_key key k ≡ true)
    go true f = inl (mask_settle_share r top (part_at w r) key)
    go false f = mask_settle_offers top w r key k h (grind (arith, may, f)) e

here_true : (q r : ℕ) → q ≡ r → (r == q) ≡ true
here_true q r e = grind (arith, nat_tests, e)

none_owns : (o : Option Key) (key : Key) → is_none o ≡ true → is_key o key ≡ true → ⊥
none_owns None key e f = cc
none_owns (Some k) key e f = cc

mask_happened : (top : ℕ) (w : World) (e : Event) (q : ℕ) (key : Key) → Kept top w → may_happen top w e ≡ true → is_key (part_at w q).owner key ≡ true → ((part_at (happened top w e) q).mask ≡ (part_at w q).mask) ⊎ (is_key (verdict_at w e q) key ≡ true)
unfolding give_back close
mask_happened top w (Begin r k) q key h may e = stays_or w w.links r (begin r top (part_at w r) k) q _ (λ at. inl (mask_begin r top (part_at w r) k))
mask_happened top w (Begin_share r k s) q key h may e = stays_or w w.links r (begin_share r (part_at w r) k s) q _ (λ at. inl (mask_begin_share r (part_at w r) k s))
mask_happened top w (Offer r k) q key h may e = stays_or w w.links r (make_offer r top (part_at w r) k) q _ (λ at. inl (mask_offer r top (part_at w r) k))
mask_happened top w (Settle r k) q key h may e =
    stays_or w w.links r (settle r top (part_at w r) k) q _
    (λ at. ⊎_elim (λ (x : (settle r top (part_at w r) k).part.mask ≡ (part_at w r).mask). inl x) (λ (x : same_key k key ≡ true). inr (let t = here_true q r at in rw t x)) (mask_settle top w r k key h (grind (arith, may)) (owner_at w q r key at e)))
mask_happened top w (Deliver r from) q key h may e =
    ⊎_elim
    (λ (x : (part_at (came top w r from (head_of w.links from r)) q).mask ≡ (part_at w q).mask). inl x)
    (λ (x : (q ≡ r) × (is_key (key_down (head_of w.links from r)) key ≡ true)). inr (let t = here_true q r x.0 in rw t x.1))
    (mask_came top w r from q key (head_of w.links from r) e)
mask_happened top w (Back r c) q key h may e =
    stays_or w w.links r (record { part = give_back (part_at w r) c; sent = [] }) q _
    (λ at. absurd (none_owns (part_at w r).owner key (grind (arith, may)) (owner_at w q r key at e)))
mask_happened top w (Close r k) q key h may e = stays_or w w.links r (record { part = close (part_at w r) k; sent = [] }) q _ (λ at. inl refl)

pub masks_stay : (top : ℕ) (w : World) → Kept top w → MasksStay top w
unfolding happens
masks_stay top w h e q key owner = go (may_happen top w e) refl
  where
    go : (c : Bool) → may_happen top w e ≡ c → ((part_at (if c then happened top w e else w) q).mask ≡ (part_at w q).mask) ⊎ (is_key (verdict_at w e q) key ≡ true)
    go true f = mask_happened top w e q key h f owner
    go false f = inl refl
