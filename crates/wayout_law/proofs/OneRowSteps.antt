-- Each key has one row at a rank, in each world of the agreement's runs.
use Rattle.std.proofs.Common.{◌≡◌, ℕ, ℤ, Bool, true, false, List, [], ◌∷◌, length, slice_get, Option, Some, None, refl, sym, subst, arith}
use Rattle.std.specs.Prelude.{if◌then◌else◌}
use Rattle.std.specs.Option.{is_some, is_none}
use Rattle.mpi_base.specs.declared.keys.Key.{Key}
use Rattle.mpi_base.specs.declared.shares.Shared1.{Shared1}
use Rattle.agree_law.specs.declared.rows.Stage.{Stage}
use Rattle.agree_law.specs.declared.rows.Stage.TheVariants.{Sharing, Called, Waiting, Offered, Done}
use Rattle.agree_law.specs.declared.rows.Verdict.{Verdict}
use Rattle.agree_law.specs.Tree.{place_in, member_at, is_first}
use Rattle.agree_law.specs.Part.{Agree, stage_of, open_creation, close_creation, drop_shares}
use Rattle.agree_law.specs.Packets.{Packet, Up, Down, Share, Shares, Moved, stays}
use Rattle.agree_law.specs.Kinds.{is_share}
use Rattle.agree_law.specs.Rule.{may_own}
use Rattle.agree_law.specs.Offers.{begin, put_offer, if_waiting, make_offer, takes_up, take_up}
use Rattle.agree_law.specs.Verdicts.{decide, settle_offers, takes_down, take_down}
use Rattle.agree_law.specs.Classes.{split_key}
use Rattle.agree_law.specs.Shares.{begin_share, put_share, takes_share, take_share, divide, takes_shares, take_shares, colour_at, share_list, settle_share}
use Rattle.agree_law.specs.Moves.{settle, deliver, give_back, close}
use Rattle.agree_law.specs.World.{World, Event, Begin, Begin_share, Offer, Settle, Deliver, Back, Close, Flight, part_at, head_of, popped, moved, has_no_split, may_happen, came, happened, happens, run, opening}
use Rattle.agree_law.proofs.Apart.{Apart, none_split, none_after}
use Rattle.agree_law.proofs.Decided.{after}
use Rattle.agree_law.proofs.ShareSteps.{taking}
use Rattle.agree_law.proofs.Kept.{PacketFits, with_links, at_each}
use Rattle.agree_law.proofs.Links.{head_has}
use Rattle.agree_law.proofs.Law.{Holds, holds-happens, holds-opening, empty_at}
use Rattle.wayout_law.proofs.Rows.{OneEach}
use Rattle.wayout_law.proofs.OneRow.{no_row, one-open, one-set, one-close}

none_is : (o : Option Stage) → is_none o ≡ true → o ≡ None
none_is None e = refl
none_is (Some s) e = absurd (cc)

not_some : (o : Option Stage) → is_some o ≡ false → o ≡ None
not_some None e = refl
not_some (Some s) e = absurd (cc)

-- Moves of a rank

-- what a move does to the rows
abbrev Keeps : Agree → Agree → Type 0
Keeps a b = OneEach a.opened → OneEach b.opened

keeps-begin : (r top : ℕ) (a : Agree) (key : Key) → stage_of a.opened key ≡ None → Keeps a (begin r top a key).part
unfolding begin put_offer
keeps-begin r top a key none h = one-open a.opened key Called h (no_row a.opened key none)

keeps-begin_share : (r : ℕ) (a : Agree) (key : Key) (s : Shared1) → is_share key.kind ≡ true → has_no_split a.opened key ≡ true → Keeps a (begin_share r a key s).part
unfolding begin_share
keeps-begin_share r a key s share none h = go (is_first r key.members)
  where
    b : Agree
    b = record a { opened = open_creation a.opened key (Sharing s) }

    m : Bool → Moved
    m c = if c then record { part = put_share b key 0 s; sent = [] } else record { part = b; sent = record { to = member_at key.members 0; packet = Share key s } ∷ [] }

    new : OneEach b.opened
    new = one-open a.opened key (Sharing s) h (no_row a.opened key (not_some (stage_of a.opened key) (none_split a.opened key none key (grind (arith, share)) refl refl)))

    go : (c : Bool) → OneEach (m c).part.opened
    go true = new
    go false = new

keeps-offer : (r top : ℕ) (a : Agree) (key : Key) → Keeps a (make_offer r top a key).part
unfolding make_offer put_offer
keeps-offer r top a key h = go (stage_of a.opened key)
  where
    go : (s : Option Stage) → OneEach (if_waiting r top a key s).part.opened
    go None = h
    go (Some (Sharing s)) = h
    go (Some Called) = h
    go (Some (Waiting i)) = one-set a.opened key (Offered i (may_own a key)) h
    go (Some (Offered i own)) = h
    go (Some (Done c)) = h

keeps-decide : (r : ℕ) (a : Agree) (key : Key) (i : ℕ) (v : Verdict) → Keeps a (decide r a key i v).part
unfolding decide
keeps-decide r a key i v h = let x = after a key i v in subst OneEach (sym x.opened) (one-set a.opened key _ h)

keeps-up : (r top : ℕ) (a : Agree) (from : ℕ) (key : Key) (i : ℕ) (own : Bool) (mask : List Bool) → Keeps a (take_up r top a from key i own mask).part
unfolding take_up put_offer
keeps-up r top a from key i own mask h = go (takes_up r a from key i)
  where
    go : (c : Bool) → OneEach (if c then put_offer r top a key (place_in key.members from) own mask else stays a).part.opened
    go true = h
    go false = h

keeps-down : (r : ℕ) (a : Agree) (from : ℕ) (key : Key) (i : ℕ) (v : Verdict) → Keeps a (take_down r a from key i v).part
unfolding take_down
keeps-down r a from key i v h = go (takes_down r a from key i v)
  where
    go : (c : Bool) → OneEach (if c then decide r a key i v else stays a).part.opened
    go true = keeps-decide r a key i v h
    go false = h

keeps-take_share : (r : ℕ) (a : Agree) (from : ℕ) (key : Key) (s : Shared1) → Keeps a (take_share r a from key s).part
unfolding take_share
keeps-take_share r a from key s h = go (takes_share r a from key)
  where
    m : Bool → Moved
    m c = if c then record { part = put_share a key (place_in key.members from) s; sent = [] } else stays a

    go : (c : Bool) → OneEach (m c).part.opened
    go true = h
    go false = h

-- the exchange is closed before the class begins, which is not open then
keeps-divide : (r top : ℕ) (a : Agree) (key : Key) (c : Option ℤ) (list : List Shared1) → is_share key.kind ≡ true → is_some (stage_of a.opened key) ≡ true → Apart a.opened → Keeps a (divide r top a key c list).part
unfolding divide
keeps-divide r top a key None list share some apart h = one-close a.opened key h
keeps-divide r top a key (Some c) list share some apart h =
    let none = none_after a.opened key (grind (arith, share)) some apart (split_key key (Some c) list) refl refl refl in
    keeps-begin r top (record a { opened = close_creation a.opened key }) (split_key key (Some c) list) (not_some (stage_of (close_creation a.opened key) (split_key key (Some c) list)) none) (one-close a.opened key h)

keeps-take_shares : (r top : ℕ) (a : Agree) (from : ℕ) (key : Key) (list : List Shared1) → is_share key.kind ≡ true → Apart a.opened → Keeps a (take_shares r top a from key list).part
unfolding take_shares
keeps-take_shares r top a from key list share apart h = go (takes_shares r a from key list) refl
  where
    go : (c : Bool) → takes_shares r a from key list ≡ c → OneEach (if c then divide r top a key (colour_at (slice_get list (place_in key.members r))) list else stays a).part.opened
    go true f = keeps-divide r top a key (colour_at (slice_get list (place_in key.members r))) list share (taking r a from key list f).sharing apart h
    go false f = h

keeps-settle : (r top : ℕ) (a : Agree) (key : Key) → Apart a.opened → Keeps a (settle r top a key).part
unfolding settle settle_share settle_offers
keeps-settle r top a key apart h = go (is_share key.kind) refl
  where
    go : (c : Bool) → is_share key.kind ≡ c → OneEach (if c then settle_share r top a key else settle_offers r top a key).part.opened
    go true e = keeps-take_shares r top (record a { shares = drop_shares a.shares key }) r key (share_list a.shares key) e apart h
    go false e = keeps-decide r a key _ _ h

keeps-deliver : (n r top : ℕ) (a : Agree) (from : ℕ) (p : Packet) → PacketFits n p → Apart a.opened → Keeps a (deliver r top a from p).part
unfolding deliver
keeps-deliver n r top a from (Up key i own mask) fits apart h = keeps-up r top a from key i own mask h
keeps-deliver n r top a from (Down key i v) fits apart h = keeps-down r a from key i v h
keeps-deliver n r top a from (Share key s) fits apart h = keeps-take_share r a from key s h
keeps-deliver n r top a from (Shares key list) fits apart h = keeps-take_shares r top a from key list (grind (arith, fits)) apart h

keeps-back : (a : Agree) (c : ℕ) → Keeps a (give_back a c)
unfolding give_back
keeps-back a c h = h

keeps-close : (a : Agree) (key : Key) → Keeps a (close a key)
unfolding close
keeps-close a key h = one-close a.opened key h

-- The world

abbrev OneRows : World → Type 0
OneRows w = (r : ℕ) → OneEach (part_at w r).opened

rows-moved : (w : World) (links : List Flight) (r : ℕ) (m : Moved) → Keeps (part_at w r) m.part → OneRows w → OneRows (moved (with_links w links) r m)
unfolding moved
rows-moved w links r m keeps h = at_each (λ q (a : Agree). OneEach a.opened) w.parts r m.part (keeps (h r)) h

rows-came : (top : ℕ) (w : World) (r from : ℕ) (p : Option Packet) → head_of w.links from r ≡ p → Holds top w → OneRows w → OneRows (came top w r from p)
rows-came top w r from None e holds h = h
rows-came top w r from (Some p) e holds h =
    rows-moved w (popped w.links from r) r (deliver r top (part_at w r) from p)
    (keeps-deliver (length w.parts) r top (part_at w r) from p (head_has (PacketFits (length w.parts)) w.links from r p e holds.kept.flights) (holds.splits.apart r)) h

rows-happened : (top : ℕ) (w : World) (e : Event) → may_happen top w e ≡ true → Holds top w → OneRows w → OneRows (happened top w e)
rows-happened top w (Begin r key) may holds h = rows-moved w w.links r (begin r top (part_at w r) key) (keeps-begin r top (part_at w r) key (none_is (stage_of (part_at w r).opened key) (grind (arith, may)))) h
rows-happened top w (Begin_share r key s) may holds h = rows-moved w w.links r (begin_share r (part_at w r) key s) (keeps-begin_share r (part_at w r) key s (grind (arith, may)) (grind (arith, may))) h
rows-happened top w (Offer r key) may holds h = rows-moved w w.links r (make_offer r top (part_at w r) key) (keeps-offer r top (part_at w r) key) h
rows-happened top w (Settle r key) may holds h = rows-moved w w.links r (settle r top (part_at w r) key) (keeps-settle r top (part_at w r) key (holds.splits.apart r)) h
rows-happened top w (Deliver r from) may holds h = rows-came top w r from (head_of w.links from r) refl holds h
rows-happened top w (Back r c) may holds h = rows-moved w w.links r (record { part = give_back (part_at w r) c; sent = [] }) (keeps-back (part_at w r) c) h
rows-happened top w (Close r key) may holds h = rows-moved w w.links r (record { part = close (part_at w r) key; sent = [] }) (keeps-close (part_at w r) key) h

rows-happens : (top : ℕ) (w : World) (e : Event) → Holds top w → OneRows w → OneRows (happens top w e)
unfolding happens
rows-happens top w e holds h = go (may_happen top w e) refl
  where
    go : (c : Bool) → may_happen top w e ≡ c → OneRows (if c then happened top w e else w)
    go true f = rows-happened top w e f holds h
    go false f = h

rows-run : (top : ℕ) (es : List Event) (w : World) → Holds top w → OneRows w → OneRows (run top es w)
rows-run top [] w holds h = h
rows-run top (e ∷ es) w holds h = rows-run top es (happens top w e) (holds-happens top w e holds) (rows-happens top w e holds h)

rows-opening : (ranks top : ℕ) → OneRows (opening ranks top)
unfolding opening
rows-opening ranks top r = let e = empty_at ranks top r in subst OneEach (sym e.opened) tt

-- each key has one row at each rank after any events
pub one_row_always : (ranks top : ℕ) (es : List Event) → OneRows (run top es (opening ranks top))
one_row_always ranks top es = rows-run top es (opening ranks top) (holds-opening ranks top) (rows-opening ranks top)
