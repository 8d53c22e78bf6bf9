-- Every run keeps what is kept of exchanges.
use Rattle.std.proofs.Common.{◌≡◌, ◌<◌, ℕ, Bool, true, false, if◌then◌else◌, List, [], ◌∷◌, length, replicate, slice_get, Option, Some, None, refl, sym, subst, ap, ◌∙◌, arith}
use Rattle.std.proofs.lemmas.Bool.Decides.{nat_tests}
use Rattle.mpi_base.specs.declared.keys.Key.{Key}
use Rattle.mpi_base.specs.Keys.{same_key}
use Rattle.mpi_base.proofs.KeyFacts.{same_key_is}
use Rattle.agree_law.specs.declared.rows.Stage.{Stage}
use Rattle.agree_law.specs.declared.rows.Stage.TheVariants.{Sharing, Called, Waiting, Offered, Done}
use Rattle.agree_law.specs.Tree.{place_in, member_at}
use Rattle.agree_law.specs.Part.{fresh, stage_of}
use Rattle.agree_law.specs.Packets.{Packet, Up, Down, Share, Shares}
use Rattle.agree_law.specs.Kinds.{is_share}
use Rattle.agree_law.specs.Offers.{is_due, begin, make_offer, take_up}
use Rattle.agree_law.specs.Verdicts.{settle_offers, take_down}
use Rattle.agree_law.specs.Shares.{begin_share, settle_share, may_settle_share, take_share, take_shares}
use Rattle.agree_law.specs.Moves.{settle, may_settle, give_back, close, deliver, takes_packet}
use Rattle.agree_law.specs.World.{World, Event, Begin, Begin_share, Offer, Settle, Deliver, Back, Close, part_at, head_of, popped, moved, may_happen, came, happened, happens, run, opening}
use Rattle.share_law.specs.Facts.{is_exchange, sharing_of, ArriversAreTaken, SharesAreWhole, SettledSharesAreTold}
use Rattle.agree_law.proofs.TreeFacts.{place_of_member}
use Rattle.agree_law.proofs.Links.{of_links-other, head_has}
use Rattle.agree_law.proofs.Kept.{is_good, stage_is_of, PacketFits, Kept, with_links}
use Rattle.agree_law.proofs.OpenRows.{row_at}
use Rattle.agree_law.proofs.Law.{Holds, not_true, settle_fits, holds-happens, holds-opening, empty_at}
use Rattle.agree_law.proofs.MaskSteps.{ups_and_downs_are_taken}
use Rattle.agree_law.proofs.Retries.{size-happened}
use Rattle.share_law.proofs.ShareKept.{rows_of, ShareKept, shares_same}
use Rattle.share_law.proofs.Foreign.{said_at, first_rows, ShareHolds, foreign-moved, foreign-begin, foreign-offer, foreign-up, foreign-down, foreign-settle_offers, foreign-begin_share, foreign-take_share, foreign-take_shares, foreign-settle_share, foreign-close, foreign-back}
use Rattle.share_law.proofs.ShareLaw.{all_there, distinct_members, share-begins, share_came, share-taken, share-comes, split_apart, shares-taken, shares-comes, share-settles}

unfoldable pub Exchanges : World → Type 0
Exchanges w = (key : Key) → is_exchange (length w.parts) key ≡ true → ShareHolds w.parts w.links key

-- an exchange is no other kind of key
kinds_apart : (a b : Key) → is_share a.kind ≡ false → is_share b.kind ≡ true → same_key a b ≡ false
kinds_apart a b e f = go (same_key a b) refl
  where
    go : (c : Bool) → same_key a b ≡ c → same_key a b ≡ false
    go false s = s
    go true s = absurd (let is = same_key_is a b s in let z : is_share a.kind ≡ true = ap (λ (k : Key). is_share k.kind) is ∙ f in cc)

share_of : (n : ℕ) (key : Key) → is_exchange n key ≡ true → is_share key.kind ≡ true
share_of n key e = grind (arith, e)

-- a move at another key
abbrev Goes : World → World → Key → Type 0
Goes w x key = ShareHolds w.parts w.links key → ShareHolds x.parts x.links key

-- either a move at this key, or at another
either : (w x : World) (k key : Key) → (same_key k key ≡ true → Goes w x k) → (same_key k key ≡ false → Goes w x key) → Goes w x key
either w x k key a b h = go (same_key k key) refl
  where
    go : (c : Bool) → same_key k key ≡ c → ShareHolds x.parts x.links key
    go true s = let is = same_key_is k key s in subst (λ z. ShareHolds x.parts x.links z) is (a s (subst (λ z. ShareHolds w.parts w.links z) (sym is) h))
    go false s = b s h

goes-came : (top : ℕ) (w : World) (r from : ℕ) (p : Packet) (key : Key) → r < length w.parts → head_of w.links from r ≡ Some p → Kept top w → is_exchange (length w.parts) key ≡ true → Goes w (moved (with_links w (popped w.links from r)) r (deliver r top (part_at w r) from p)) key
unfolding deliver
goes-came top w r from (Up k i own mask) key lt e h good s =
    let fit : is_good (length w.parts) k ≡ true = head_has (PacketFits (length w.parts)) w.links from r (Up k i own mask) e h.flights in
    let apart = kinds_apart k key (not_true (is_share k.kind) (grind (arith, fit))) (share_of (length w.parts) key good) in
    foreign-moved w (popped w.links from r) r (take_up r top (part_at w r) from k i own mask) key (of_links-other w.links from r (Up k i own mask) key e apart) (foreign-up r top (part_at w r) from k i own mask key apart) s
goes-came top w r from (Down k i v) key lt e h good s =
    let fit : is_good (length w.parts) k ≡ true = head_has (PacketFits (length w.parts)) w.links from r (Down k i v) e h.flights in
    let apart = kinds_apart k key (not_true (is_share k.kind) (grind (arith, fit))) (share_of (length w.parts) key good) in
    foreign-moved w (popped w.links from r) r (take_down r (part_at w r) from k i v) key (of_links-other w.links from r (Down k i v) key e apart) (foreign-down r (part_at w r) from k i v key apart) s
goes-came top w r from (Share k x) key lt e h good s =
    let fit : is_exchange (length w.parts) k ≡ true = head_has (PacketFits (length w.parts)) w.links from r (Share k x) e h.flights in
    either w (moved (with_links w (popped w.links from r)) r (take_share r (part_at w r) from k x)) k key (λ same. share-comes w from r k x lt fit e)
    (λ apart. foreign-moved w (popped w.links from r) r (take_share r (part_at w r) from k x) key (of_links-other w.links from r (Share k x) key e apart) (foreign-take_share r (part_at w r) from k x key apart)) s
goes-came top w r from (Shares k xs) key lt e h good s =
    let fit : is_exchange (length w.parts) k ≡ true = head_has (PacketFits (length w.parts)) w.links from r (Shares k xs) e h.flights in
    either w (moved (with_links w (popped w.links from r)) r (take_shares r top (part_at w r) from k xs)) k key (λ same. shares-comes top w from r k xs lt fit e)
    (λ apart. foreign-moved w (popped w.links from r) r (take_shares r top (part_at w r) from k xs) key (of_links-other w.links from r (Shares k xs) key e apart)
    (foreign-take_shares r top (part_at w r) from k xs key apart (λ d. split_apart k d xs key (share_of (length w.parts) key good)))) s

goes-arrives : (top : ℕ) (w : World) (r from : ℕ) (p : Option Packet) (key : Key) → r < length w.parts → head_of w.links from r ≡ p → Kept top w → is_exchange (length w.parts) key ≡ true → Goes w (came top w r from p) key
goes-arrives top w r from None key lt e h good s = s
goes-arrives top w r from (Some p) key lt e h good s = goes-came top w r from p key lt e h good s

goes-settle : (top : ℕ) (w : World) (r : ℕ) (k key : Key) → r < length w.parts → may_settle r (part_at w r) k ≡ true → Holds top w → is_exchange (length w.parts) key ≡ true → Goes w (moved w r (settle r top (part_at w r) k)) key
unfolding may_settle settle
goes-settle top w r k key lt may h good s = go (is_share k.kind) refl
  where
    go : (c : Bool) → is_share k.kind ≡ c → ShareHolds (moved w r (if c then settle_share r top (part_at w r) k else settle_offers r top (part_at w r) k)).parts (moved w r (if c then settle_share r top (part_at w r) k else settle_offers r top (part_at w r) k)).links key
    go false e = foreign-moved w w.links r (settle_offers r top (part_at w r) k) key refl (foreign-settle_offers r top (part_at w r) k key (kinds_apart k key e (share_of (length w.parts) key good))) s
    go true e =
        let m : may_settle_share r (part_at w r) k ≡ true = grind (arith, may, e) in
        let f = settle_fits (length w.parts) r (part_at w r) k m (h.splits.shares r) in
        either w (moved w r (settle_share r top (part_at w r) k)) k key (λ same. share-settles top w r k lt f m)
        (λ apart. foreign-moved w w.links r (settle_share r top (part_at w r) k) key refl (foreign-settle_share r top (part_at w r) k key apart (λ d list. split_apart k d list key (share_of (length w.parts) key good)))) s

-- an offer is of no exchange
offer_plain : (top : ℕ) (w : World) (r : ℕ) (k : Key) → is_due (stage_of (part_at w r).opened k) ≡ true → Kept top w → is_share k.kind ≡ false
offer_plain top w r k due h = go (stage_of (part_at w r).opened k) refl due
  where
    waits : (b : Bool) (i : ℕ) → stage_is_of b (Waiting i) ≡ true → b ≡ false
    waits true i e = absurd (cc)
    waits false i e = refl

    go : (s : Option Stage) → stage_of (part_at w r).opened k ≡ s → is_due s ≡ true → is_share k.kind ≡ false
    go (Some (Waiting i)) e d = waits (is_share k.kind) i (row_at (length w.parts) r (part_at w r).opened k (Waiting i) e (h.rows r)).1
    go None e d = absurd (cc)
    go (Some (Sharing s)) e d = absurd (cc)
    go (Some Called) e d = absurd (cc)
    go (Some (Offered i own)) e d = absurd (cc)
    go (Some (Done c)) e d = absurd (cc)

goes-happened : (top : ℕ) (w : World) (e : Event) (key : Key) → may_happen top w e ≡ true → Holds top w → is_exchange (length w.parts) key ≡ true → Goes w (happened top w e) key
goes-happened top w (Begin r k) key may h good s =
    foreign-moved w w.links r (begin r top (part_at w r) k) key refl (foreign-begin r top (part_at w r) k key (kinds_apart k key (not_true (is_share k.kind) (grind (arith, may))) (share_of (length w.parts) key good))) s
goes-happened top w (Begin_share r k x) key may h good s =
    either w (moved w r (begin_share r (part_at w r) k x)) k key
    (λ same. share-begins w r k x (grind (arith, nat_tests, may)) (grind (arith, may)) (grind (arith, may)) (grind (arith, may)))
    (λ apart. foreign-moved w w.links r (begin_share r (part_at w r) k x) key refl (foreign-begin_share r (part_at w r) k x key apart)) s
goes-happened top w (Offer r k) key may h good s =
    foreign-moved w w.links r (make_offer r top (part_at w r) k) key refl (foreign-offer r top (part_at w r) k key (kinds_apart k key (offer_plain top w r k (grind (arith, may)) h.kept) (share_of (length w.parts) key good))) s
goes-happened top w (Settle r k) key may h good s = goes-settle top w r k key (grind (arith, nat_tests, may)) (grind (arith, may)) h good s
goes-happened top w (Deliver r from) key may h good s = goes-arrives top w r from (head_of w.links from r) key (grind (arith, nat_tests, may)) refl h.kept good s
goes-happened top w (Back r c) key may h good s = foreign-moved w w.links r (record { part = give_back (part_at w r) c; sent = [] }) key refl (foreign-back (part_at w r) c key) s
goes-happened top w (Close r k) key may h good s = foreign-moved w w.links r (record { part = close (part_at w r) k; sent = [] }) key refl (foreign-close (part_at w r) k key (grind (arith, may))) s

exchanges-happens : (top : ℕ) (w : World) (e : Event) → Holds top w → Exchanges w → Exchanges (happens top w e)
unfolding happens Exchanges
exchanges-happens top w e h x = go (may_happen top w e) refl
  where
    go : (c : Bool) → may_happen top w e ≡ c → (key : Key) → is_exchange (length (if c then happened top w e else w).parts) key ≡ true → ShareHolds (if c then happened top w e else w).parts (if c then happened top w e else w).links key
    go true f key good = let g : is_exchange (length w.parts) key ≡ true = subst (λ n. is_exchange n key ≡ true) (size-happened top w e) good in goes-happened top w e key f h g (x key g)
    go false f key good = x key good

exchanges-opening : (ranks top : ℕ) → Exchanges (opening ranks top)
unfolding opening Exchanges
exchanges-opening ranks top key good =
    let m = member_at key.members in
    let parts = replicate ranks (fresh top) in
    let said : (q : ℕ) → said_at parts key q ≡ None = λ q. (let e = empty_at ranks top (m q) in let o = e.opened in ap (λ z. sharing_of (stage_of z key)) o) in
    let rows : first_rows parts key ≡ [] = (let e = empty_at ranks top (m 0) in let o = e.shares in ap (λ z. rows_of z key) o) in
    let none : ShareKept (length key.members) m (λ q. None) [] [] = record { token = λ p lt. refl; flown = tt; held = tt } in
    subst (λ z. ShareKept (length key.members) m (said_at parts key) z []) (sym rows) (shares_same (length key.members) m (λ q. None) (said_at parts key) [] [] said none)

pub exchanges-run : (top : ℕ) (es : List Event) (w : World) → Holds top w → Exchanges w → Exchanges (run top es w)
exchanges-run top [] w h x = x
exchanges-run top (e ∷ es) w h x = exchanges-run top es (happens top w e) (holds-happens top w e h) (exchanges-happens top w e h x)

pub exchanges_always : (ranks top : ℕ) (es : List Event) → Exchanges (run top es (opening ranks top))
exchanges_always ranks top es = exchanges-run top es (opening ranks top) (holds-opening ranks top) (exchanges-opening ranks top)

-- What is said of exchanges

pub arrivers_are_taken : (top : ℕ) (w : World) → Kept top w → Exchanges w → ArriversAreTaken w
unfolding takes_packet Exchanges
arrivers_are_taken top w h x r from (Up k i own mask) lt e = ups_and_downs_are_taken top w h r from (Up k i own mask) lt e refl
arrivers_are_taken top w h x r from (Down k i v) lt e = ups_and_downs_are_taken top w h r from (Down k i v) lt e refl
arrivers_are_taken top w h x r from (Share k s) lt e =
    let fit : is_exchange (length w.parts) k ≡ true = head_has (PacketFits (length w.parts)) w.links from r (Share k s) e h.flights in
    share-taken w from r k s fit e (x k fit)
arrivers_are_taken top w h x r from (Shares k ss) lt e =
    let fit : is_exchange (length w.parts) k ≡ true = head_has (PacketFits (length w.parts)) w.links from r (Shares k ss) e h.flights in
    shares-taken w from r k ss fit e (x k fit)

pub shares_are_whole : (top : ℕ) (w : World) → Kept top w → Exchanges w → SharesAreWhole w
unfolding Exchanges
shares_are_whole top w h x r from key ss e =
    let fit : is_exchange (length w.parts) key ≡ true = head_has (PacketFits (length w.parts)) w.links from r (Shares key ss) e h.flights in
    let c = share_came w from r key (Shares key ss) e refl (x key fit) in
    let ray = c.flies.1 in
    let low = ray.low in
    let place : place_in key.members r ≡ c.flies.0 = ap (place_in key.members) low ∙ place_of_member key.members c.flies.0 (distinct_members (length w.parts) key fit) ray.inside in
    record { long = c.flies.2; own = ap (λ z. slice_get ss z) place ∙ c.flies.3 ∙ ap (λ z. sharing_of (stage_of (part_at w z).opened key)) (sym low) }

pub settled_shares_are_told : (top : ℕ) (w : World) → Holds top w → Exchanges w → SettledSharesAreTold w
unfolding Exchanges
settled_shares_are_told top w h x r key may =
    let fit : is_exchange (length w.parts) key ≡ true = settle_fits (length w.parts) r (part_at w r) key may (h.splits.shares r) in
    let there = all_there w r key may (x key fit) in
    record { long = there.long; told = λ p inside. there.items p inside }
