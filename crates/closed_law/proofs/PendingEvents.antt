-- What is pending of an exchange after an event of the agreement: all but a call of it and its settle leave it.
use Rattle.std.proofs.Common.{◌≡◌, ◌<◌, ◌+◌, ◌==◌, ℕ, Bool, true, false, if◌then◌else◌, List, [], ◌∷◌, length, Option, Some, None, refl, sym, ap, ◌∙◌, subst, arith}
use Rattle.std.specs.Option.{is_some}
use Rattle.std.proofs.lemmas.Bool.Decides.{nat_tests}
use Rattle.mpi_base.specs.declared.keys.Key.{Key}
use Rattle.mpi_base.specs.declared.shares.Shared1.{Shared1}
use Rattle.mpi_base.specs.Keys.{same_key}
use Rattle.mpi_base.proofs.KeyFacts.{same_key_is}
use Rattle.agree_law.specs.declared.rows.Stage.{Stage}
use Rattle.agree_law.specs.declared.rows.Stage.TheVariants.{Sharing, Called, Waiting, Offered, Done}
use Rattle.agree_law.specs.Tree.{member_at}
use Rattle.agree_law.specs.Part.{stage_of}
use Rattle.agree_law.specs.Packets.{Packet, Up, Down, Share, Shares}
use Rattle.agree_law.specs.Kinds.{is_share}
use Rattle.agree_law.specs.Offers.{is_due, begin, make_offer, take_up}
use Rattle.agree_law.specs.Verdicts.{settle_offers, take_down}
use Rattle.agree_law.specs.Shares.{begin_share, settle_share, may_settle_share, take_share, take_shares}
use Rattle.agree_law.specs.Moves.{settle, may_settle, give_back, close, deliver}
use Rattle.agree_law.specs.World.{World, Event, Begin, Begin_share, Offer, Settle, Deliver, Back, Close, part_at, head_of, popped, moved, may_happen, came, happened, happens, run}
use Rattle.agree_law.proofs.Lists.{AllOf, one}
use Rattle.agree_law.proofs.Apart.{none_split}
use Rattle.agree_law.proofs.Links.{of_links-other, head_has}
use Rattle.agree_law.proofs.Kept.{stage_is_of, is_good, PacketFits, with_links}
use Rattle.agree_law.proofs.OpenRows.{row_at}
use Rattle.agree_law.proofs.Law.{Holds, not_true, holds-happens}
use Rattle.agree_law.proofs.Retries.{size-happened}
use Rattle.share_law.specs.Facts.{is_exchange, sharing_of}
use Rattle.share_law.proofs.Foreign.{ShareHolds, foreign-begin, foreign-offer, foreign-up, foreign-down, foreign-settle_offers, foreign-begin_share, foreign-take_share, foreign-take_shares, foreign-settle_share, foreign-close, foreign-back}
use Rattle.share_law.proofs.ShareLaw.{split_apart, share-comes}
use Rattle.share_law.proofs.Exchanges.{Exchanges, exchanges-run}
use Rattle.projection_law.specs.Facts.{EachMayHappen}
use Rattle.closed_law.proofs.Pending.{pending, pending-foreign, pending-begun, pending-taken, pending-told, pending-settled}

-- an exchange is no other kind of key
apart : (a b : Key) → is_share a.kind ≡ false → is_share b.kind ≡ true → same_key a b ≡ false
apart a b e f = go (same_key a b) refl
  where
    go : (c : Bool) → same_key a b ≡ c → same_key a b ≡ false
    go false s = s
    go true s = absurd (let is = same_key_is a b s in let z : is_share a.kind ≡ true = ap (λ (k : Key). is_share k.kind) is ∙ f in cc (z, e))

-- an event that neither calls nor settles the exchange
abbrev pub IsOther : Key → Event → Type 0
IsOther key (Begin r k) = Unit {0}
IsOther key (Begin_share r k z) = same_key k key ≡ false
IsOther key (Offer r k) = Unit {0}
IsOther key (Settle r k) = same_key k key ≡ false
IsOther key (Deliver r from) = Unit {0}
IsOther key (Back r c) = Unit {0}
IsOther key (Close r k) = Unit {0}

module _ (top : ℕ) (w : World) (h : Holds top w) (exchanges : Exchanges w) (key : Key) (good : is_exchange (length w.parts) key ≡ true) (p : ℕ) (lp : p < length key.members) where
  here : ShareHolds w.parts w.links key
  unfolding Exchanges
  here = exchanges key good

  share : is_share key.kind ≡ true
  share = grind (arith, good)

  -- a move under this key, or under another one
  Stays : World → Type 0
  Stays x = pending x key p ≡ pending w key p

  arrives : (r from : ℕ) (q : Packet) → r < length w.parts → head_of w.links from r ≡ Some q → pending (moved (with_links w (popped w.links from r)) r (deliver r top (part_at w r) from q)) key p ≡ pending w key p
  unfolding deliver
  arrives r from (Up k i own mask) lr e =
      let fit : is_good (length w.parts) k ≡ true = head_has (PacketFits (length w.parts)) w.links from r (Up k i own mask) e h.kept.flights in
      let a = apart k key (not_true (is_share k.kind) (grind (arith, fit))) share in
      pending-foreign w (popped w.links from r) r (take_up r top (part_at w r) from k i own mask) key p (of_links-other w.links from r (Up k i own mask) key e a) (foreign-up r top (part_at w r) from k i own mask key a)
  arrives r from (Down k i v) lr e =
      let fit : is_good (length w.parts) k ≡ true = head_has (PacketFits (length w.parts)) w.links from r (Down k i v) e h.kept.flights in
      let a = apart k key (not_true (is_share k.kind) (grind (arith, fit))) share in
      pending-foreign w (popped w.links from r) r (take_down r (part_at w r) from k i v) key p (of_links-other w.links from r (Down k i v) key e a) (foreign-down r (part_at w r) from k i v key a)
  arrives r from (Share k z) lr e = go (same_key k key) refl
    where
      go : (b : Bool) → same_key k key ≡ b → pending (moved (with_links w (popped w.links from r)) r (take_share r (part_at w r) from k z)) key p ≡ pending w key p
      go true s =
          let is = same_key_is k key s in
          let at : head_of w.links from r ≡ Some (Share key z) = e ∙ ap (λ (i : Key). Some (Share i z)) is in
          rw is (pending-taken w from r key z p lp at here (share-comes w from r key z lr good at here))
      go false s = pending-foreign w (popped w.links from r) r (take_share r (part_at w r) from k z) key p (of_links-other w.links from r (Share k z) key e s) (foreign-take_share r (part_at w r) from k z key s)
  arrives r from (Shares k zs) lr e = go (same_key k key) refl
    where
      go : (b : Bool) → same_key k key ≡ b → pending (moved (with_links w (popped w.links from r)) r (take_shares r top (part_at w r) from k zs)) key p ≡ pending w key p
      go true s = let is = same_key_is k key s in rw is (pending-told top w from r key zs p share (e ∙ ap (λ (i : Key). Some (Shares i zs)) is))
      go false s = pending-foreign w (popped w.links from r) r (take_shares r top (part_at w r) from k zs) key p (of_links-other w.links from r (Shares k zs) key e s)
          (foreign-take_shares r top (part_at w r) from k zs key s (λ d. split_apart k d zs key share))

  comes : (r from : ℕ) (q : Option Packet) → r < length w.parts → head_of w.links from r ≡ q → pending (came top w r from q) key p ≡ pending w key p
  comes r from None lr e = refl
  comes r from (Some q) lr e = arrives r from q lr e

  settles : (r : ℕ) (k : Key) → same_key k key ≡ false → pending (moved w r (settle r top (part_at w r) k)) key p ≡ pending w key p
  unfolding settle
  settles r k s = go (is_share k.kind) refl
    where
      go : (b : Bool) → is_share k.kind ≡ b → pending (moved w r (if b then settle_share r top (part_at w r) k else settle_offers r top (part_at w r) k)) key p ≡ pending w key p
      go true e = pending-foreign w w.links r (settle_share r top (part_at w r) k) key p refl (foreign-settle_share r top (part_at w r) k key s (λ d list. split_apart k d list key share))
      go false e = pending-foreign w w.links r (settle_offers r top (part_at w r) k) key p refl (foreign-settle_offers r top (part_at w r) k key s)

  -- an offer is of no exchange
  offer_plain : (r : ℕ) (k : Key) → is_due (stage_of (part_at w r).opened k) ≡ true → is_share k.kind ≡ false
  offer_plain r k due = go (stage_of (part_at w r).opened k) refl due
    where
      waits : (b : Bool) (i : ℕ) → stage_is_of b (Waiting i) ≡ true → b ≡ false
      waits true i e = absurd (cc (e))
      waits false i e = refl

      go : (st : Option Stage) → stage_of (part_at w r).opened k ≡ st → is_due st ≡ true → is_share k.kind ≡ false
      go (Some (Waiting i)) e d = waits (is_share k.kind) i (row_at (length w.parts) r (part_at w r).opened k (Waiting i) e (h.kept.rows r)).1
      go None e d = absurd (cc (d))
      go (Some (Sharing z)) e d = absurd (cc (d))
      go (Some Called) e d = absurd (cc (d))
      go (Some (Offered i own)) e d = absurd (cc (d))
      go (Some (Done c)) e d = absurd (cc (d))

  pub pending-other : (e : Event) → may_happen top w e ≡ true → IsOther key e → pending (happened top w e) key p ≡ pending w key p
  pending-other (Begin r k) may other = pending-foreign w w.links r (begin r top (part_at w r) k) key p refl (foreign-begin r top (part_at w r) k key (apart k key (not_true (is_share k.kind) (grind (arith, may))) share))
  pending-other (Begin_share r k z) may other = pending-foreign w w.links r (begin_share r (part_at w r) k z) key p refl (foreign-begin_share r (part_at w r) k z key other)
  pending-other (Offer r k) may other = pending-foreign w w.links r (make_offer r top (part_at w r) k) key p refl (foreign-offer r top (part_at w r) k key (apart k key (offer_plain r k (grind (arith, may))) share))
  pending-other (Settle r k) may other = settles r k other
  pending-other (Deliver r from) may other = comes r from (head_of w.links from r) (grind (arith, nat_tests, may)) refl
  pending-other (Back r c) may other = pending-foreign w w.links r (record { part = give_back (part_at w r) c; sent = [] }) key p refl (foreign-back (part_at w r) c key)
  pending-other (Close r k) may other = pending-foreign w w.links r (record { part = close (part_at w r) k; sent = [] }) key p refl (foreign-close (part_at w r) k key (grind (arith, may)))

-- Events one after another

pub pending-others : (top : ℕ) (es : List Event) (w : World) → Holds top w → Exchanges w → (key : Key) → is_exchange (length w.parts) key ≡ true → (p : ℕ) → p < length key.members → EachMayHappen top w es → AllOf (IsOther key) es → pending (run top es w) key p ≡ pending w key p
unfolding happens
pending-others top [] w h x key good p lp may other = refl
pending-others top (e ∷ es) w h x key good p lp may other =
    let now = may.0 in
    let size : length (happens top w e).parts ≡ length w.parts = rw now (size-happened top w e) in
    let good_then : is_exchange (length (happens top w e).parts) key ≡ true = subst (λ (n : ℕ). is_exchange n key ≡ true) (sym size) good in
    let here : pending (happens top w e) key p ≡ pending w key p = rw now (pending-other top w h x key good p lp e now other.0) in
    pending-others top es (happens top w e) (holds-happens top w e h) (exchanges-run top (e ∷ []) w h x) key good_then p lp may.1 other.1 ∙ here

-- the call of the exchange, where the caller was not in it before
module _ (top : ℕ) (w : World) (r : ℕ) (key : Key) (z : Shared1) (may : may_happen top w (Begin_share r key z) ≡ true) where
  pub calls_anew : sharing_of (stage_of (part_at w r).opened key) ≡ None
  calls_anew = go (stage_of (part_at w r).opened key) (none_split (part_at w r).opened key (grind (arith, may)) key (grind (arith, may)) refl refl)
    where
      go : (o : Option Stage) → is_some o ≡ false → sharing_of o ≡ None
      go None e = refl
      go (Some st) e = absurd (cc (e))

  pub pending-called : is_exchange (length w.parts) key ≡ true → (p : ℕ) → p < length key.members → pending (run top (Begin_share r key z ∷ []) w) key p ≡ pending w key p + one (r == member_at key.members p)
  unfolding happens
  pending-called good p lp = rw may (pending-begun w r key z (grind (arith, nat_tests, may)) good p lp)

-- its settle
pub pending-ended : (top : ℕ) (w : World) (r : ℕ) (key : Key) → Exchanges w → may_happen top w (Settle r key) ≡ true → is_exchange (length w.parts) key ≡ true → (p : ℕ) → p < length key.members → pending (run top (Settle r key ∷ []) w) key p ≡ 0
unfolding happens settle may_settle Exchanges
pending-ended top w r key x may good p lp =
    let share : is_share key.kind ≡ true = grind (arith, good) in
    rw may (rw share (pending-settled top w r key p (grind (arith, nat_tests, may)) good lp (settles_share may share) (x key good)))
  where
    settles_share : may_happen top w (Settle r key) ≡ true → is_share key.kind ≡ true → may_settle_share r (part_at w r) key ≡ true
    settles_share may share = grind (arith, may, share)
