-- Every run keeps what is kept, and each packet that comes is taken.
use Rattle.std.proofs.Common.{◌≡◌, ◌≢◌, ◌⊎◌, ◌≤◌, ◌<◌, ◌==◌, ◌&&◌, not, ℕ, zero, suc, Bool, true, false, if◌then◌else◌, List, [], ◌∷◌, length, get_or, set, replicate, Option, Some, None, ℤ, slice_get, refl, sym, subst, arith, ⊎_elim}
use Rattle.std.specs.Prelude.{is_none}
use Rattle.std.specs.Option.{is_some}
use Rattle.std.specs.List.{list_all, range_with_len}
use Rattle.std.proofs.lemmas.Bool.Decides.{nat_tests}
use Rattle.mpi_base.specs.declared.keys.Key.{Key}
use Rattle.mpi_base.specs.Keys.{same_key}
use Rattle.mpi_base.specs.MemberLists.{has_rank}
use Rattle.mpi_base.proofs.KeyFacts.{same_key_is}
use Rattle.agree_law.specs.declared.rows.ShareRow.{ShareRow}
use Rattle.mpi_base.specs.declared.shares.Shared1.{Shared1}
use Rattle.agree_law.specs.declared.rows.Stage.{Stage}
use Rattle.agree_law.specs.declared.rows.Stage.TheVariants.{Sharing, Called, Waiting, Offered, Done}
use Rattle.agree_law.specs.declared.rows.Verdict.{Verdict}
use Rattle.agree_law.specs.Tree.{place_in, member_at, is_first}
use Rattle.agree_law.specs.Part.{Agree, fresh, stage_of, open_creation, close_creation, drop_shares}
use Rattle.agree_law.specs.Packets.{Packet, Up, Down, Share, Shares, Moved, stays}
use Rattle.agree_law.specs.Kinds.{is_share}
use Rattle.agree_law.specs.Rule.{is_key, may_own}
use Rattle.agree_law.specs.Offers.{put_offer, begin, make_offer, if_waiting, takes_up, take_up}
use Rattle.agree_law.specs.Verdicts.{may_settle_offers, settle_offers, takes_down, take_down, decide}
use Rattle.agree_law.specs.Classes.{split_key}
use Rattle.agree_law.specs.Shares.{share_list, share_here, may_settle_share, settle_share, begin_share, put_share, take_share, takes_share, takes_shares, take_shares, divide, colour_at}
use Rattle.agree_law.specs.Moves.{may_settle, settle, give_back, close, deliver}
use Rattle.agree_law.specs.World.{Flight, World, Event, Begin, Begin_share, Offer, Settle, Deliver, Back, Close, part_at, head_of, popped, moved, is_key_of, has_no_split, may_happen, came, happened, happens, run, opening}
use Rattle.agree_law.proofs.Lists.{AllOf, AllOf-append, AllOf_filter, set_place}
use Rattle.agree_law.proofs.KeyKept.{View, view_of, Local, KeyKept}
use Rattle.agree_law.proofs.Decide.{empty_whole}
use Rattle.agree_law.proofs.Links.{head_has}
use Rattle.agree_law.proofs.Alike.{alike, alike_same}
use Rattle.agree_law.proofs.Kept.{is_good_at, RowFits, OfferFits, PacketFits, seat, Kept, with_links}
use Rattle.agree_law.proofs.OwnSteps.{kept-begin, kept-offers}
use Rattle.agree_law.proofs.UpSteps.{kept-up}
use Rattle.agree_law.proofs.Decided.{after}
use Rattle.agree_law.proofs.DownSteps.{kept-settles, kept-down}
use Rattle.agree_law.proofs.OtherSteps.{kept-back, kept-close, kept-begin_share, kept-take_share}
use Rattle.agree_law.proofs.Apart.{is_parted, Apart, apart-set, apart-close, apart-plain, apart-open, none_split, none_after}
use Rattle.agree_law.proofs.ShareSteps.{moved_size, kept-shares, kept-settle_share, taking}

-- What is kept of splits

abbrev pub ShareFits : ℕ → ShareRow → Type 0
ShareFits n o = (is_key_of n o.key && is_share o.key.kind) ≡ true

pub record Splits (w : World) : Type 0 where
  pub apart : (r : ℕ) → Apart (part_at w r).opened
  pub shares : (r : ℕ) → AllOf (ShareFits (length w.parts)) (part_at w r).shares

parts_are : (w : World) (links : List Flight) (r : ℕ) (m : Moved) (q : ℕ) → part_at (moved (with_links w links) r m) q ≡ get_or (set w.parts r m.part) q (fresh 0)
unfolding moved
parts_are w links r m q = refl

splits-moved : (w : World) (links : List Flight) (r : ℕ) (m : Moved) → Splits w → Apart m.part.opened → AllOf (ShareFits (length w.parts)) m.part.shares → Splits (moved (with_links w links) r m)
splits-moved w links r m h a s =
    record {
      apart = λ q. subst (λ z. Apart z.opened) (sym (parts q)) (by (λ z. Apart z.opened) q a (h.apart q));
      shares = λ q. subst (λ n. AllOf (ShareFits n) (part_at (moved (with_links w links) r m) q).shares) (sym (moved_size w links r m)) (subst (λ z. AllOf (ShareFits (length w.parts)) z.shares) (sym (parts q)) (by (λ z. AllOf (ShareFits (length w.parts)) z.shares) q s (h.shares q)));
    }
  where
    parts : (q : ℕ) → part_at (moved (with_links w links) r m) q ≡ get_or (set w.parts r m.part) q (fresh 0)
    parts q = parts_are w links r m q

    by : (P : Agree → Type 0) (q : ℕ) → P m.part → P (part_at w q) → P (get_or (set w.parts r m.part) q (fresh 0))
    by P q new old =
        ⊎_elim
        (λ (c : (q ≡ r) × (r < length w.parts) × (get_or (set w.parts r m.part) q (fresh 0) ≡ m.part)). subst P (sym c.2) new)
        (λ (c : ((q ≢ r) ⊎ (length w.parts ≤ r)) × (get_or (set w.parts r m.part) q (fresh 0) ≡ get_or w.parts q (fresh 0))). subst P (sym c.1) old)
        (set_place w.parts r m.part (fresh 0) q)

-- what a move does to the rows of open creations and to the shares
abbrev Keeps : ℕ → Agree → Agree → Type 0
Keeps n a b = (Apart a.opened → Apart b.opened) × (AllOf (ShareFits n) a.shares → AllOf (ShareFits n) b.shares)

keeps-begin : (n r top : ℕ) (a : Agree) (key : Key) → is_parted key.kind ≡ false → Keeps n a (begin r top a key).part
unfolding begin put_offer
keeps-begin n r top a key plain = (λ h. apart-plain a.opened key Called plain h, λ h. h)

keeps-offer : (n r top : ℕ) (a : Agree) (key : Key) → Keeps n a (make_offer r top a key).part
unfolding make_offer put_offer
keeps-offer n r top a key = go (stage_of a.opened key)
  where
    go : (s : Option Stage) → Keeps n a (if_waiting r top a key s).part
    go None = (λ h. h, λ h. h)
    go (Some (Sharing s)) = (λ h. h, λ h. h)
    go (Some Called) = (λ h. h, λ h. h)
    go (Some (Waiting i)) = (λ h. apart-set a.opened key (Offered i (may_own a key)) h, λ h. h)
    go (Some (Offered i own)) = (λ h. h, λ h. h)
    go (Some (Done c)) = (λ h. h, λ h. h)

keeps-decide : (n r : ℕ) (a : Agree) (key : Key) (i : ℕ) (v : Verdict) → Keeps n a (decide r a key i v).part
unfolding decide
keeps-decide n r a key i v =
    let x = after a key i v in
    (λ h. subst Apart (sym x.opened) (apart-set a.opened key _ h), λ h. subst (AllOf (ShareFits n)) (sym x.shares) h)

keeps-settle_offers : (n r top : ℕ) (a : Agree) (key : Key) → Keeps n a (settle_offers r top a key).part
unfolding settle_offers
keeps-settle_offers n r top a key = keeps-decide n r a key _ _

keeps-up : (n r top : ℕ) (a : Agree) (from : ℕ) (key : Key) (i : ℕ) (own : Bool) (mask : List Bool) → Keeps n a (take_up r top a from key i own mask).part
unfolding take_up put_offer
keeps-up n r top a from key i own mask = go (takes_up r a from key i)
  where
    go : (c : Bool) → Keeps n a (if c then put_offer r top a key (place_in key.members from) own mask else stays a).part
    go true = (λ h. h, λ h. h)
    go false = (λ h. h, λ h. h)

keeps-down : (n r : ℕ) (a : Agree) (from : ℕ) (key : Key) (i : ℕ) (v : Verdict) → Keeps n a (take_down r a from key i v).part
unfolding take_down
keeps-down n r a from key i v = go (takes_down r a from key i v)
  where
    go : (c : Bool) → Keeps n a (if c then decide r a key i v else stays a).part
    go true = keeps-decide n r a key i v
    go false = (λ h. h, λ h. h)

keeps-put_share : (n : ℕ) (a : Agree) (key : Key) (p : ℕ) (s : Shared1) → (is_key_of n key && is_share key.kind) ≡ true → AllOf (ShareFits n) a.shares → AllOf (ShareFits n) (put_share a key p s).shares
keeps-put_share n a key p s e h = AllOf-append (ShareFits n) a.shares (record { key = key; place = p; share = s } ∷ []) h (e, tt)

keeps-begin_share : (n r : ℕ) (a : Agree) (key : Key) (s : Shared1) → (is_key_of n key && is_share key.kind) ≡ true → has_no_split a.opened key ≡ true → Keeps n a (begin_share r a key s).part
unfolding begin_share
keeps-begin_share n r a key s e none = go (is_first r key.members)
  where
    b : Agree
    b = record a { opened = open_creation a.opened key (Sharing s) }

    m : Bool → Moved
    m c = if c then record { part = put_share b key 0 s; sent = [] } else record { part = b; sent = record { to = member_at key.members 0; packet = Share key s } ∷ [] }

    go : (c : Bool) → Keeps n a (m c).part
    go true = (λ h. apart-open a.opened key (Sharing s) (none_split a.opened key none) h, λ h. keeps-put_share n b key 0 s e h)
    go false = (λ h. apart-open a.opened key (Sharing s) (none_split a.opened key none) h, λ h. h)

keeps-take_share : (n r : ℕ) (a : Agree) (from : ℕ) (key : Key) (s : Shared1) → (is_key_of n key && is_share key.kind) ≡ true → Keeps n a (take_share r a from key s).part
unfolding take_share
keeps-take_share n r a from key s e = go (takes_share r a from key)
  where
    m : Bool → Moved
    m c = if c then record { part = put_share a key (place_in key.members from) s; sent = [] } else stays a

    go : (c : Bool) → Keeps n a (m c).part
    go true = (λ h. h, λ h. keeps-put_share n a key (place_in key.members from) s e h)
    go false = (λ h. h, λ h. h)

keeps-divide : (n r top : ℕ) (a : Agree) (key : Key) (c : Option ℤ) (list : List Shared1) → is_share key.kind ≡ true → is_some (stage_of a.opened key) ≡ true → Keeps n a (divide r top a key c list).part
unfolding divide begin put_offer
keeps-divide n r top a key None list e some = (λ h. apart-close a.opened key h, λ h. h)
keeps-divide n r top a key (Some c) list e some =
    (λ h. (let x = none_after a.opened key (grind (arith, e)) some h in apart-open (close_creation a.opened key) (split_key key (Some c) list) Called (λ k p q t. x k p q t) (apart-close a.opened key h)), λ h. h)

keeps-take_shares : (n r top : ℕ) (a : Agree) (from : ℕ) (key : Key) (list : List Shared1) → is_share key.kind ≡ true → Keeps n a (take_shares r top a from key list).part
unfolding take_shares
keeps-take_shares n r top a from key list e = go (takes_shares r a from key list) refl
  where
    go : (c : Bool) → takes_shares r a from key list ≡ c → Keeps n a (if c then divide r top a key (colour_at (slice_get list (place_in key.members r))) list else stays a).part
    go true f = keeps-divide n r top a key _ list e (taking r a from key list f).sharing
    go false f = (λ h. h, λ h. h)

keeps-settle_share : (n r top : ℕ) (a : Agree) (key : Key) → is_share key.kind ≡ true → Keeps n a (settle_share r top a key).part
unfolding settle_share
keeps-settle_share n r top a key e =
    let b : Agree = record a { shares = drop_shares a.shares key } in
    let k = keeps-take_shares n r top b r key (share_list a.shares key) e in
    (λ h. k.0 h, λ h. k.1 (AllOf_filter (ShareFits n) (λ o. not (same_key o.key key)) a.shares h))

keeps-close : (n : ℕ) (a : Agree) (key : Key) → Keeps n a (close a key)
unfolding close
keeps-close n a key = (λ h. apart-close a.opened key h, λ h. h)

keeps-back : (n : ℕ) (a : Agree) (c : ℕ) → Keeps n a (give_back a c)
unfolding give_back
keeps-back n a c = (λ h. h, λ h. h)

splits_with : (w : World) (links : List Flight) (r : ℕ) (m : Moved) → Splits w → Keeps (length w.parts) (part_at w r) m.part → Splits (moved (with_links w links) r m)
splits_with w links r m h k = splits-moved w links r m h (k.0 (h.apart r)) (k.1 (h.shares r))

-- The steps

pub record Holds (top : ℕ) (w : World) : Type 0 where
  pub kept : Kept top w
  pub splits : Splits w

-- a key whose shares are there
share_fits : (n : ℕ) (xs : List ShareRow) (key : Key) (p : ℕ) → is_some (share_here xs key p) ≡ true → AllOf (ShareFits n) xs → (is_key_of n key && is_share key.kind) ≡ true
share_fits n [] key p e h = absurd (cc)
share_fits n (x ∷ xs) key p e h = go (same_key x.key key) refl (x.place == p) e (share_fits n xs key p)
  where
    go : (a : Bool) → same_key x.key key ≡ a → (b : Bool) → is_some (if a && b then Some x.share else share_here xs key p) ≡ true → (is_some (share_here xs key p) ≡ true → AllOf (ShareFits n) xs → (is_key_of n key && is_share key.kind) ≡ true)
        → (is_key_of n key && is_share key.kind) ≡ true
    go true f true e ih = subst (λ k. (is_key_of n k && is_share k.kind) ≡ true) (same_key_is x.key key f) h.0
    go true f false e ih = ih e h.1
    go false f b e ih = ih e h.1

first_has : (ms : List ℕ) (r : ℕ) → is_first r ms ≡ true → 0 < length ms
first_has [] r e = absurd (cc)
first_has (m ∷ ms) r e = omega arith

pub settle_fits : (n r : ℕ) (a : Agree) (key : Key) → may_settle_share r a key ≡ true → AllOf (ShareFits n) a.shares → (is_key_of n key && is_share key.kind) ≡ true
settle_fits n r a key may h =
    let first : is_first r key.members ≡ true = grind (arith, may) in
    let some = first_has key.members r first in
    let all : list_all (λ p. is_some (share_here a.shares key p)) (range_with_len 0 (length key.members)) ≡ true = grind (arith, may) in
    share_fits n a.shares key 0 (at_zero (length key.members) some all) h
  where
    at_zero : (m : ℕ) → 0 < m → list_all (λ p. is_some (share_here a.shares key p)) (range_with_len 0 m) ≡ true → is_some (share_here a.shares key 0) ≡ true
    at_zero zero lt e = absurd (omega arith)
    at_zero (suc m) lt e = grind (arith, e)

holds-settle : (top : ℕ) (w : World) (r : ℕ) (key : Key) → r < length w.parts → may_settle r (part_at w r) key ≡ true → Holds top w → Holds top (moved w r (settle r top (part_at w r) key))
unfolding may_settle settle
holds-settle top w r key lt may h = go (is_share key.kind) refl
  where
    go : (c : Bool) → is_share key.kind ≡ c → Holds top (moved w r (if c then settle_share r top (part_at w r) key else settle_offers r top (part_at w r) key))
    go true e =
        let m : may_settle_share r (part_at w r) key ≡ true = grind (arith, may, e) in
        let f = settle_fits (length w.parts) r (part_at w r) key m (h.splits.shares r) in
        record {
          kept = kept-settle_share top w r key lt e (grind (arith, f)) h.kept (h.splits.apart r);
          splits = splits_with w w.links r (settle_share r top (part_at w r) key) h.splits (keeps-settle_share (length w.parts) r top (part_at w r) key e);
        }
    go false e =
        let m : may_settle_offers r (part_at w r) key ≡ true = grind (arith, may, e) in
        record {
          kept = kept-settles top w r key lt m h.kept;
          splits = splits_with w w.links r (settle_offers r top (part_at w r) key) h.splits (keeps-settle_offers (length w.parts) r top (part_at w r) key);
        }

holds-deliver : (top : ℕ) (w : World) (r from : ℕ) (p : Packet) → r < length w.parts → head_of w.links from r ≡ Some p → Holds top w → Holds top (moved (with_links w (popped w.links from r)) r (deliver r top (part_at w r) from p))
unfolding deliver
holds-deliver top w r from (Up key i own mask) lt e h =
    record {
      kept = (kept-up top w from r key i own mask lt e h.kept).1;
      splits = splits_with w (popped w.links from r) r (take_up r top (part_at w r) from key i own mask) h.splits (keeps-up (length w.parts) r top (part_at w r) from key i own mask);
    }
holds-deliver top w r from (Down key i v) lt e h =
    record {
      kept = (kept-down top w from r key i v lt e h.kept).1;
      splits = splits_with w (popped w.links from r) r (take_down r (part_at w r) from key i v) h.splits (keeps-down (length w.parts) r (part_at w r) from key i v);
    }
holds-deliver top w r from (Share key s) lt e h =
    record {
      kept = kept-take_share top w from r key s lt e h.kept;
      splits = splits_with w (popped w.links from r) r (take_share r (part_at w r) from key s) h.splits (keeps-take_share (length w.parts) r (part_at w r) from key s (head_has (PacketFits (length w.parts)) w.links from r (Share key s) e h.kept.flights));
    }
holds-deliver top w r from (Shares key list) lt e h =
    let f : (is_key_of (length w.parts) key && is_share key.kind) ≡ true = head_has (PacketFits (length w.parts)) w.links from r (Shares key list) e h.kept.flights in
    record {
      kept = kept-shares top w from r key list lt e h.kept (h.splits.apart r);
      splits = splits_with w (popped w.links from r) r (take_shares r top (part_at w r) from key list) h.splits (keeps-take_shares (length w.parts) r top (part_at w r) from key list (grind (arith, f)));
    }

holds-came : (top : ℕ) (w : World) (r from : ℕ) (p : Option Packet) → r < length w.parts → head_of w.links from r ≡ p → Holds top w → Holds top (came top w r from p)
holds-came top w r from None lt e h = h
holds-came top w r from (Some p) lt e h = holds-deliver top w r from p lt e h

pub not_true : (b : Bool) → not b ≡ true → b ≡ false
not_true true e = absurd (cc)
not_true false e = refl

none_is : (s : Option Stage) → is_none s ≡ true → s ≡ None
none_is None e = refl
none_is (Some s) e = absurd (cc)

pub holds-happened : (top : ℕ) (w : World) (e : Event) → may_happen top w e ≡ true → Holds top w → Holds top (happened top w e)
holds-happened top w (Begin r key) may h =
    let lt : r < length w.parts = grind (arith, nat_tests, may) in
    let good : is_good_at (length w.parts) r key ≡ true = grind (arith, may) in
    let none = none_is (stage_of (part_at w r).opened key) (grind (arith, may)) in
    let plain = not_true (is_parted key.kind) (grind (arith, may)) in
    record { kept = kept-begin top w r key lt good none h.kept; splits = splits_with w w.links r (begin r top (part_at w r) key) h.splits (keeps-begin (length w.parts) r top (part_at w r) key plain) }
holds-happened top w (Begin_share r key s) may h =
    let lt : r < length w.parts = grind (arith, nat_tests, may) in
    let share : is_share key.kind ≡ true = grind (arith, may) in
    let member : (is_key_of (length w.parts) key && has_rank key.members r) ≡ true = grind (arith, may) in
    record { kept = kept-begin_share top w r key s lt share member h.kept; splits = splits_with w w.links r (begin_share r (part_at w r) key s) h.splits (keeps-begin_share (length w.parts) r (part_at w r) key s (grind (arith, may)) (grind (arith, may))) }
holds-happened top w (Offer r key) may h =
    record { kept = kept-offers top w r key (grind (arith, nat_tests, may)) (grind (arith, may)) h.kept; splits = splits_with w w.links r (make_offer r top (part_at w r) key) h.splits (keeps-offer (length w.parts) r top (part_at w r) key) }
holds-happened top w (Settle r key) may h = holds-settle top w r key (grind (arith, nat_tests, may)) (grind (arith, may)) h
holds-happened top w (Deliver r from) may h = holds-came top w r from (head_of w.links from r) (grind (arith, nat_tests, may)) refl h
holds-happened top w (Back r c) may h =
    record { kept = kept-back top w r c (grind (arith, nat_tests, may)) (grind (arith, may)) h.kept; splits = splits_with w w.links r (record { part = give_back (part_at w r) c; sent = [] }) h.splits (keeps-back (length w.parts) (part_at w r) c) }
holds-happened top w (Close r key) may h =
    record { kept = kept-close top w r key (grind (arith, nat_tests, may)) (grind (arith, may)) h.kept; splits = splits_with w w.links r (record { part = close (part_at w r) key; sent = [] }) h.splits (keeps-close (length w.parts) (part_at w r) key) }

pub holds-happens : (top : ℕ) (w : World) (e : Event) → Holds top w → Holds top (happens top w e)
unfolding happens
holds-happens top w e h = go (may_happen top w e) refl
  where
    go : (c : Bool) → may_happen top w e ≡ c → Holds top (if c then happened top w e else w)
    go true f = holds-happened top w e f h
    go false f = h

pub holds-run : (top : ℕ) (es : List Event) (w : World) → Holds top w → Holds top (run top es w)
holds-run top [] w h = h
holds-run top (e ∷ es) w h = holds-run top es (happens top w e) (holds-happens top w e h)

-- The opening

pub record Empty (a : Agree) : Type 0 where
  pub opened : a.opened ≡ []
  pub gathered : a.gathered ≡ []
  pub rounds : a.rounds ≡ []
  pub owner : a.owner ≡ None
  pub shares : a.shares ≡ []

pub empty_at : (n top q : ℕ) → Empty (get_or (replicate n (fresh top)) q (fresh 0))
empty_at zero top q = record { opened = refl; gathered = refl; rounds = refl; owner = refl; shares = refl }
empty_at (suc n) top zero = record { opened = refl; gathered = refl; rounds = refl; owner = refl; shares = refl }
empty_at (suc n) top (suc q) = empty_at n top q

abbrev blank_view : View
blank_view = record { stage = None; round = 0; offers = []; owns = false; mask = [] }

empty_view : (a : Agree) (k : Key) → Empty a → view_of a k ≡ blank_view
empty_view a k e = rw (e.opened, e.gathered, e.rounds, e.owner) refl

empty_kept : (top n : ℕ) (m : ℕ → ℕ) → KeyKept top n m (λ q. blank_view) []
empty_kept top n m = record { token = λ p pos lt. (let e = empty_whole p n in rw e refl); flown = tt; fits = λ p lt. refl; held = λ p lt. tt; level = λ p pos lt e. refl }

pub holds-opening : (ranks top : ℕ) → Holds top (opening ranks top)
unfolding opening
holds-opening ranks top =
    record {
      kept = record {
        each = λ k good.
            let V : ℕ → View = seat (replicate ranks (fresh top)) k in
            let same : (q : ℕ) → V q ≡ blank_view = λ q. empty_view (get_or (replicate ranks (fresh top)) (member_at k.members q) (fresh 0)) k (empty_at ranks top (member_at k.members q)) in
            alike top (length k.members) (member_at k.members) (λ q. blank_view) V [] (λ q lt. alike_same blank_view (V q) (same q)) (λ q lt. subst (λ v. Local v q) (sym (same q)) refl) (empty_kept top (length k.members) (member_at k.members));
        rows = λ r. (let e = empty_at ranks top r in subst (λ z. AllOf (RowFits (length (replicate ranks (fresh top))) r) z) (sym e.opened) tt);
        offers = λ r. (let e = empty_at ranks top r in subst (λ z. AllOf (OfferFits (length (replicate ranks (fresh top))) r) z) (sym e.gathered) tt);
        flights = tt;
        owner = λ r k f. (let e = empty_at ranks top r in absurd (let z : is_key None k ≡ true = subst (λ o. is_key o k ≡ true) e.owner f in cc));
      };
      splits = record {
        apart = λ r. (let e = empty_at ranks top r in subst (λ z. Apart z) (sym e.opened) (λ k l b. absurd (let z = b.left_open in cc)));
        shares = λ r. (let e = empty_at ranks top r in subst (λ z. AllOf (ShareFits (length (replicate ranks (fresh top)))) z) (sym e.shares) tt);
      };
    }

pub holds_always : (ranks top : ℕ) (es : List Event) → Holds top (run top es (opening ranks top))
holds_always ranks top es = holds-run top es (opening ranks top) (holds-opening ranks top)
