-- Each retry has its cause since the key's last settle.
use Rattle.std.proofs.Common.{◌≡◌, ◌⊎◌, ◌<◌, ◌&&◌, not, ℕ, zero, suc, Bool, true, false, if◌then◌else◌, List, [], ◌∷◌, ◌++◌, length, Option, Some, None, refl, sym, subst, ap, ◌∙◌, inl, inr, arith, ⊎_elim}
use Rattle.std.proofs.lemmas.Bool.Decides.{nat_tests}
use Rattle.mpi_base.specs.declared.keys.Key.{Key}
use Rattle.mpi_base.specs.Keys.{same_key}
use Rattle.mpi_base.proofs.KeyFacts.{same_key_is, same_key-refl}
use Rattle.agree_law.specs.declared.rows.Stage.TheVariants.{Offered, Waiting}
use Rattle.agree_law.specs.declared.rows.Verdict.{Verdict}
use Rattle.agree_law.specs.declared.rows.Verdict.TheVariants.{Ready, Retry, Context, Exhausted}
use Rattle.agree_law.specs.Tree.{member_at, is_first}
use Rattle.agree_law.specs.Part.{Agree, stage_of, round_of}
use Rattle.agree_law.specs.Packets.{Packet, Up, Down, Share, Shares, Moved}
use Rattle.agree_law.specs.Kinds.{is_share}
use Rattle.agree_law.specs.Rule.{may_own}
use Rattle.agree_law.specs.Gather.{verdict_of}
use Rattle.agree_law.specs.Offers.{begin, make_offer, take_up}
use Rattle.agree_law.specs.Verdicts.{decide, may_settle_offers, settle_offers, take_down}
use Rattle.agree_law.specs.Shares.{begin_share, take_share, take_shares, settle_share}
use Rattle.agree_law.specs.Moves.{may_settle, settle, give_back, close, deliver}
use Rattle.agree_law.specs.World.{Flight, World, Event, Begin, Begin_share, Offer, Settle, Deliver, Back, Close, part_at, head_of, popped, moved, may_happen, came, happened, happens, run, opening}
use Rattle.agree_law.specs.Facts.{ZeroOffer, is_settle_of, NoSettle, IsCaused, RetriesAreCaused}
use Rattle.agree_law.proofs.Lists.{tally}
use Rattle.agree_law.proofs.TreeFacts.{first_place, member_place}
use Rattle.agree_law.proofs.RowFacts.{at_place}
use Rattle.agree_law.proofs.KeyKept.{stage_fits, next_round, is_said_of}
use Rattle.agree_law.proofs.Links.{of_links}
use Rattle.agree_law.proofs.Kept.{is_good, seat, Kept, with_links}
use Rattle.agree_law.proofs.DownSteps.{said_facts}
use Rattle.agree_law.proofs.ShareSteps.{moved_size, part_here}
use Rattle.agree_law.proofs.Law.{holds_always}
use Rattle.agree_law.proofs.Subtrees.{below_at, under_first}
use Rattle.agree_law.proofs.WorldFacts.{first_whole, retry_facts, retries_have_zero}
use Rattle.agree_law.proofs.MaskSteps.{part_of_moved}
use Rattle.agree_law.proofs.Causes.{Old, cause_of, tame-begin, tame-up, old-decide, round-decide, old-down, round-down, tame-begin_share, tame-take_share, tame-take_shares, tame-settle_share, tame-close, tame-back, round-offer, old-offer}

-- What an event does to offers that do not own

abbrev IsZero : World → Key → ℕ → ℕ → Type 0
IsZero w k i q = stage_of (part_at w q).opened k ≡ Some (Offered i false)

-- an event makes an offer that does not own
abbrev Makes : World → Event → ℕ → Key → Type 0
Makes w e q k = (e ≡ Offer q k) × ZeroOffer w q k

zero_or : (w : World) (links : List Flight) (r : ℕ) (m : Moved) (q : ℕ) (k : Key) (i : ℕ) (P : Type 0) → (q ≡ r → stage_of m.part.opened k ≡ Some (Offered i false) → (stage_of (part_at w r).opened k ≡ Some (Offered i false)) ⊎ P)
    → stage_of (part_at (moved (with_links w links) r m) q).opened k ≡ Some (Offered i false) → IsZero w k i q ⊎ P
zero_or w links r m q k i P h e =
    ⊎_elim
    (λ (c : part_at (moved (with_links w links) r m) q ≡ part_at w q). inl (ap (λ (a : Agree). stage_of a.opened k) (sym c) ∙ e))
    (λ (c : (q ≡ r) × (part_at (moved (with_links w links) r m) q ≡ m.part)).
    ⊎_elim
    (λ (d : stage_of (part_at w r).opened k ≡ Some (Offered i false)). inl (ap (λ z. stage_of (part_at w z).opened k) c.0 ∙ d))
    (λ (d : P). inr d)
    (h c.0 (ap (λ (a : Agree). stage_of a.opened k) (sym c.1) ∙ e)))
    (part_of_moved w links r m q)

zero-came : (top : ℕ) (w : World) (r from q : ℕ) (k : Key) (i : ℕ) (P : Type 0) (p : Option Packet) → stage_of (part_at (came top w r from p) q).opened k ≡ Some (Offered i false) → IsZero w k i q ⊎ P
unfolding deliver
zero-came top w r from q k i P None e = inl e
zero-came top w r from q k i P (Some (Up key j own mask)) e = zero_or w (popped w.links from r) r (take_up r top (part_at w r) from key j own mask) q k i P (λ at f. inl ((tame-up r top (part_at w r) from key j own mask k).old i f)) e
zero-came top w r from q k i P (Some (Down key j v)) e = zero_or w (popped w.links from r) r (take_down r (part_at w r) from key j v) q k i P (λ at f. inl (old-down r (part_at w r) from key j v k i f)) e
zero-came top w r from q k i P (Some (Share key s)) e = zero_or w (popped w.links from r) r (take_share r (part_at w r) from key s) q k i P (λ at f. inl ((tame-take_share r (part_at w r) from key s k).old i f)) e
zero-came top w r from q k i P (Some (Shares key ss)) e = zero_or w (popped w.links from r) r (take_shares r top (part_at w r) from key ss) q k i P (λ at f. inl ((tame-take_shares r top (part_at w r) from key ss k).old i f)) e

old-settle : (r top : ℕ) (a : Agree) (key k : Key) → Old a.opened (settle r top a key).part.opened k
unfolding settle settle_offers
old-settle r top a key k = go (is_share key.kind)
  where
    go : (c : Bool) → Old a.opened (if c then settle_share r top a key else decide r a key (round_of a.rounds key) (verdict_of top a.gathered key (round_of a.rounds key))).part.opened k
    go true = (tame-settle_share r top a key k).old
    go false = old-decide r a key (round_of a.rounds key) (verdict_of top a.gathered key (round_of a.rounds key)) k

zero-happened : (top : ℕ) (w : World) (e : Event) (q : ℕ) (k : Key) (i : ℕ) → Kept top w → may_happen top w e ≡ true → stage_of (part_at (happened top w e) q).opened k ≡ Some (Offered i false) → IsZero w k i q ⊎ Makes w e q k
zero-happened top w (Begin r key) q k i h may e = zero_or w w.links r (begin r top (part_at w r) key) q k i (Makes w (Begin r key) q k) (λ at f. inl ((tame-begin r top (part_at w r) key k).old i f)) e
zero-happened top w (Begin_share r key s) q k i h may e = zero_or w w.links r (begin_share r (part_at w r) key s) q k i (Makes w (Begin_share r key s) q k) (λ at f. inl ((tame-begin_share r (part_at w r) key s k).old i f)) e
zero-happened top w (Offer r key) q k i h may e =
    zero_or w w.links r (make_offer r top (part_at w r) key) q k i (Makes w (Offer r key) q k)
    (λ at f. ⊎_elim
    (λ (x : stage_of (part_at w r).opened k ≡ Some (Offered i false)). inl x)
    (λ (x : (key ≡ k) × ((j : ℕ) × (stage_of (part_at w r).opened key ≡ Some (Waiting j))) × (may_own (part_at w r) key ≡ false)).
    let zero : ZeroOffer w r key = record { due = grind (arith, may); zero = x.2; cause = cause_of top w r key x.1.0 h x.1.1 x.2 } in
    inr (ap (λ z. Offer z key) (sym at) ∙ ap (λ z. Offer q z) x.0, subst (λ z. ZeroOffer w q z) x.0 (subst (λ z. ZeroOffer w z key) (sym at) zero)))
    (old-offer r top (part_at w r) key k i f)) e
zero-happened top w (Settle r key) q k i h may e = zero_or w w.links r (settle r top (part_at w r) key) q k i (Makes w (Settle r key) q k) (λ at f. inl (old-settle r top (part_at w r) key k i f)) e
zero-happened top w (Deliver r from) q k i h may e = zero-came top w r from q k i (Makes w (Deliver r from) q k) (head_of w.links from r) e
zero-happened top w (Back r c) q k i h may e = zero_or w w.links r (record { part = give_back (part_at w r) c; sent = [] }) q k i (Makes w (Back r c) q k) (λ at f. inl ((tame-back (part_at w r) c k).old i f)) e
zero-happened top w (Close r key) q k i h may e = zero_or w w.links r (record { part = close (part_at w r) key; sent = [] }) q k i (Makes w (Close r key) q k) (λ at f. inl ((tame-close (part_at w r) key k).old i f)) e

-- What an event does to the round at the first member

abbrev SameRound : World → World → ℕ → Key → Type 0
SameRound w x q k = round_of (part_at x q).rounds k ≡ round_of (part_at w q).rounds k

round_or : (w : World) (links : List Flight) (r : ℕ) (m : Moved) (q : ℕ) (k : Key) → (q ≡ r → round_of m.part.rounds k ≡ round_of (part_at w r).rounds k) → SameRound w (moved (with_links w links) r m) q k
round_or w links r m q k h =
    ⊎_elim
    (λ (c : part_at (moved (with_links w links) r m) q ≡ part_at w q). ap (λ (a : Agree). round_of a.rounds k) c)
    (λ (c : (q ≡ r) × (part_at (moved (with_links w links) r m) q ≡ m.part)). ap (λ (a : Agree). round_of a.rounds k) c.1 ∙ h c.0 ∙ ap (λ z. round_of (part_at w z).rounds k) (sym c.0))
    (part_of_moved w links r m q)

round-came : (top : ℕ) (w : World) (r from q : ℕ) (k : Key) (p : Option Packet) → is_first q k.members ≡ true → SameRound w (came top w r from p) q k
unfolding deliver
round-came top w r from q k None first = refl
round-came top w r from q k (Some (Up key j own mask)) first = round_or w (popped w.links from r) r (take_up r top (part_at w r) from key j own mask) q k (λ at. (tame-up r top (part_at w r) from key j own mask k).round)
round-came top w r from q k (Some (Down key j v)) first = round_or w (popped w.links from r) r (take_down r (part_at w r) from key j v) q k (λ at. round-down r (part_at w r) from key j v k (subst (λ z. is_first z k.members ≡ true) at first))
round-came top w r from q k (Some (Share key s)) first = round_or w (popped w.links from r) r (take_share r (part_at w r) from key s) q k (λ at. (tame-take_share r (part_at w r) from key s k).round)
round-came top w r from q k (Some (Shares key ss)) first = round_or w (popped w.links from r) r (take_shares r top (part_at w r) from key ss) q k (λ at. (tame-take_shares r top (part_at w r) from key ss k).round)

round-settle : (r top : ℕ) (a : Agree) (key k : Key) → same_key key k ≡ false → round_of (settle r top a key).part.rounds k ≡ round_of a.rounds k
unfolding settle settle_offers
round-settle r top a key k s = go (is_share key.kind)
  where
    go : (c : Bool) → round_of (if c then settle_share r top a key else decide r a key (round_of a.rounds key) (verdict_of top a.gathered key (round_of a.rounds key))).part.rounds k ≡ round_of a.rounds k
    go true = (tame-settle_share r top a key k).round
    go false = round-decide r a key (round_of a.rounds key) (verdict_of top a.gathered key (round_of a.rounds key)) k ∙ (rw s refl)

round-settled : (r top : ℕ) (a : Agree) (key : Key) → is_share key.kind ≡ false → round_of (settle r top a key).part.rounds key ≡ next_round (round_of a.rounds key) (verdict_of top a.gathered key (round_of a.rounds key))
unfolding settle settle_offers
round-settled r top a key plain = rw plain (round-decide r a key (round_of a.rounds key) (verdict_of top a.gathered key (round_of a.rounds key)) key ∙ (rw (same_key-refl key) refl))

-- the key is settled at its first member
pub record SettledAt (w : World) (e : Event) (q : ℕ) (k : Key) : Type 0 where
  pub is : e ≡ Settle q k
  pub may : may_settle_offers q (part_at w q) k ≡ true

one_first : (ms : List ℕ) (q r : ℕ) → is_first q ms ≡ true → is_first r ms ≡ true → q ≡ r
one_first [] q r e f = absurd (cc)
one_first (m ∷ ms) q r e f = grind (arith, nat_tests, e, f)

may_first : (r : ℕ) (a : Agree) (key : Key) → may_settle r a key ≡ true → is_share key.kind ≡ false → may_settle_offers r a key ≡ true
unfolding may_settle
may_first r a key may plain = grind (arith, may, plain)

plain_of : (n : ℕ) (k : Key) → is_good n k ≡ true → is_share k.kind ≡ false
plain_of n k e = go (is_share k.kind) (grind (arith, e))
  where
    go : (b : Bool) → not b ≡ true → b ≡ false
    go true e = absurd (cc)
    go false e = refl

round-happened : (top : ℕ) (w : World) (e : Event) (q : ℕ) (k : Key) → is_good (length w.parts) k ≡ true → may_happen top w e ≡ true → is_first q k.members ≡ true → (SameRound w (happened top w e) q k × (is_settle_of k e ≡ false)) ⊎ SettledAt w e q k
round-happened top w (Begin r key) q k good may first = inl (round_or w w.links r (begin r top (part_at w r) key) q k (λ at. (tame-begin r top (part_at w r) key k).round), refl)
round-happened top w (Begin_share r key s) q k good may first = inl (round_or w w.links r (begin_share r (part_at w r) key s) q k (λ at. (tame-begin_share r (part_at w r) key s k).round), refl)
round-happened top w (Offer r key) q k good may first = inl (round_or w w.links r (make_offer r top (part_at w r) key) q k (λ at. round-offer r top (part_at w r) key k), refl)
round-happened top w (Settle r key) q k good may first = go (same_key key k) refl
  where
    go : (b : Bool) → same_key key k ≡ b → (SameRound w (happened top w (Settle r key)) q k × (same_key key k ≡ false)) ⊎ SettledAt w (Settle r key) q k
    go false s = inl (round_or w w.links r (settle r top (part_at w r) key) q k (λ at. round-settle r top (part_at w r) key k s), s)
    go true s =
        let is : key ≡ k = same_key_is key k s in
        let m : may_settle r (part_at w r) k ≡ true = subst (λ z. may_settle r (part_at w r) z ≡ true) is (grind (arith, may)) in
        let f = may_first r (part_at w r) k m (plain_of (length w.parts) k good) in
        let at : r ≡ q = one_first k.members r q (grind (arith, f)) first in
        inr (record { is = ap (λ z. Settle z key) at ∙ ap (λ z. Settle q z) is; may = subst (λ z. may_settle_offers z (part_at w z) k ≡ true) at f })
round-happened top w (Deliver r from) q k good may first = inl (round-came top w r from q k (head_of w.links from r) first, refl)
round-happened top w (Back r c) q k good may first = inl (round_or w w.links r (record { part = give_back (part_at w r) c; sent = [] }) q k (λ at. (tame-back (part_at w r) c k).round), refl)
round-happened top w (Close r key) q k good may first = inl (round_or w w.links r (record { part = close (part_at w r) key; sent = [] }) q k (λ at. (tame-close (part_at w r) key k).round), refl)

-- A settle leaves no offer of the first member's new round

fits_round : (i g c : ℕ) (b : Bool) → stage_fits (Some (Offered i false)) g c b ≡ true → g ≡ i
fits_round i g c b e = grind (arith, nat_tests, e)

next_apart : (i : ℕ) (v : Verdict) → is_said_of i v ≡ true → 0 < i → next_round i v ≡ i → ⊥
next_apart i Ready s pos e = absurd (grind (arith, nat_tests, s, pos))
next_apart i Retry s pos e = omega (arith, e)
next_apart i (Context c) s pos e = omega (arith, e, pos)
next_apart i Exhausted s pos e = omega (arith, e, pos)

settled_apart : (top : ℕ) (w : World) (k : Key) (p i : ℕ) → Kept top w → is_good (length w.parts) k ≡ true → member_at k.members 0 < length w.parts → may_settle_offers (member_at k.members 0) (part_at w (member_at k.members 0)) k ≡ true
    → p < length k.members → 0 < i → IsZero w k i (member_at k.members p) → round_of (part_at (happened top w (Settle (member_at k.members 0) k)) (member_at k.members 0)).rounds k ≡ i → ⊥
settled_apart top w k p i h good lt may inside pos own0 round =
    let r = member_at k.members 0 in
    let f = first_whole top w r k may h in
    let n = length k.members in
    let V = seat w.parts k in
    let kk = h.each k good in
    let b = below_at top n (member_at k.members) V (of_links w.links k) kk 0 p (under_first p) inside f.whole in
    let fit = kk.fits p inside in
    let g : (V p).round ≡ i = fits_round i (V p).round (tally (at_place p) (V p).offers) (V p).owns (subst (λ s. stage_fits s (V p).round (tally (at_place p) (V p).offers) (V p).owns ≡ true) own0 fit) in
    let was : round_of (part_at w r).rounds k ≡ i = sym b.round ∙ g in
    let s = said_facts top (part_at w r) k in
    let v = verdict_of top (part_at w r).gathered k (round_of (part_at w r).rounds k) in
    let now : round_of (part_at (happened top w (Settle r k)) r).rounds k ≡ next_round (round_of (part_at w r).rounds k) v =
    ap (λ (a : Agree). round_of a.rounds k) (part_here w w.links r (settle r top (part_at w r) k) lt) ∙ round-settled r top (part_at w r) k (plain_of (length w.parts) k good) in
    next_apart (round_of (part_at w r).rounds k) v s.0 (omega (arith, was, pos)) (sym now ∙ round ∙ sym was)

-- The history

run-append : (top : ℕ) (es fs : List Event) (w : World) → run top (es ++ fs) w ≡ run top fs (run top es w)
run-append top [] fs w = refl
run-append top (e ∷ es) fs w = run-append top es fs (happens top w e)

append_one : (xs ys : List Event) (x : Event) → (xs ++ x ∷ []) ++ ys ≡ xs ++ x ∷ ys
append_one [] ys x = refl
append_one (y ∷ xs) ys x = ap (λ z. y ∷ z) (append_one xs ys x)

append_more : (xs ys : List Event) (x e : Event) → (xs ++ x ∷ ys) ++ e ∷ [] ≡ xs ++ x ∷ (ys ++ e ∷ [])
append_more [] ys x e = refl
append_more (y ∷ xs) ys x e = ap (λ z. y ∷ z) (append_more xs ys x e)

NoSettle-more : (top : ℕ) (key : Key) (w : World) (es : List Event) (e : Event) → NoSettle top key w es → (is_settle_of key e && may_happen top (run top es w) e) ≡ false → NoSettle top key w (es ++ e ∷ [])
NoSettle-more top key w [] e h f = (f, tt)
NoSettle-more top key w (x ∷ es) e h f = (h.0, NoSettle-more top key (happens top w x) es e h.1 f)

caused-more : (ranks top : ℕ) (es : List Event) (key : Key) (e : Event) → IsCaused ranks top es key → (is_settle_of key e && may_happen top (run top es (opening ranks top)) e) ≡ false → IsCaused ranks top (es ++ e ∷ []) key
caused-more ranks top es key e c f =
    let o = Offer c.rank key in
    let ends : run top es (opening ranks top) ≡ run top c.after (run top (c.before ++ o ∷ []) (opening ranks top)) =
    ap (λ z. run top z (opening ranks top)) (c.split ∙ sym (append_one c.before c.after o)) ∙ run-append top (c.before ++ o ∷ []) c.after (opening ranks top) in
    record {
      before = c.before;
      rank = c.rank;
      after = c.after ++ e ∷ [];
      split = ap (λ z. z ++ e ∷ []) c.split ∙ append_more c.before c.after o e;
      zero = c.zero;
      quiet = NoSettle-more top key (run top (c.before ++ o ∷ []) (opening ranks top)) c.after e c.quiet (subst (λ z. (is_settle_of key e && may_happen top z e) ≡ false) ends f);
    }

-- an offer of the first member's round that does not own was made since its last settle
abbrev History : ℕ → ℕ → List Event → World → Type 0
History ranks top es w =
    (k : Key) (p i : ℕ) → is_good (length w.parts) k ≡ true → p < length k.members → 0 < i → IsZero w k i (member_at k.members p) → round_of (part_at w (member_at k.members 0)).rounds k ≡ i → IsCaused ranks top es k

size-came : (top : ℕ) (w : World) (r from : ℕ) (p : Option Packet) → length (came top w r from p).parts ≡ length w.parts
size-came top w r from None = refl
size-came top w r from (Some p) = moved_size w (popped w.links from r) r (deliver r top (part_at w r) from p)

pub size-happened : (top : ℕ) (w : World) (e : Event) → length (happened top w e).parts ≡ length w.parts
size-happened top w (Begin r k) = moved_size w w.links r (begin r top (part_at w r) k)
size-happened top w (Begin_share r k s) = moved_size w w.links r (begin_share r (part_at w r) k s)
size-happened top w (Offer r k) = moved_size w w.links r (make_offer r top (part_at w r) k)
size-happened top w (Settle r k) = moved_size w w.links r (settle r top (part_at w r) k)
size-happened top w (Deliver r from) = size-came top w r from (head_of w.links from r)
size-happened top w (Back r c) = moved_size w w.links r (record { part = give_back (part_at w r) c; sent = [] })
size-happened top w (Close r k) = moved_size w w.links r (record { part = close (part_at w r) k; sent = [] })

first_member : (ms : List ℕ) → 0 < length ms → is_first (member_at ms 0) ms ≡ true
first_member [] lt = absurd (omega arith)
first_member (m ∷ ms) lt = grind (arith, nat_tests)

history-step : (ranks top : ℕ) (es : List Event) (w : World) (e : Event) → w ≡ run top es (opening ranks top) → Kept top w → History ranks top es w → History ranks top (es ++ e ∷ []) (happens top w e)
unfolding happens
history-step ranks top es w e is h old = go (may_happen top w e) refl
  where
    more : (k : Key) → (is_settle_of k e && may_happen top w e) ≡ false → IsCaused ranks top es k → IsCaused ranks top (es ++ e ∷ []) k
    more k f c = caused-more ranks top es k e c (subst (λ z. (is_settle_of k e && may_happen top z e) ≡ false) is f)

    none : (b : Bool) → (b && false) ≡ false
    none true = refl
    none false = refl

    go : (c : Bool) → may_happen top w e ≡ c → History ranks top (es ++ e ∷ []) (if c then happened top w e else w)
    go false f k p i good inside pos own0 round = more k (rw f (none (is_settle_of k e))) (old k p i good inside pos own0 round)
    go true f k p i good' inside pos own0 round =
        let good : is_good (length w.parts) k ≡ true = subst (λ n. is_good n k ≡ true) (size-happened top w e) good' in
        ⊎_elim
        (λ (z : IsZero w k i (member_at k.members p)).
        ⊎_elim
        (λ (x : SameRound w (happened top w e) (member_at k.members 0) k × (is_settle_of k e ≡ false)). more k (rw x.1 refl) (old k p i good inside pos z (sym x.0 ∙ round)))
        (λ (x : SettledAt w e (member_at k.members 0) k).
        absurd (settled_apart top w k p i h good (below (may_happen top w (Settle (member_at k.members 0) k)) (subst (λ y. may_happen top w y ≡ true) x.is f) refl) x.may inside pos z (subst (λ y. round_of (part_at (happened top w y) (member_at k.members 0)).rounds k ≡ i) x.is round)))
        (round-happened top w e (member_at k.members 0) k good f (first_member k.members (omega (arith, inside)))))
        (λ (z : Makes w e (member_at k.members p) k).
        record {
          before = es;
          rank = member_at k.members p;
          after = [];
          split = ap (λ y. es ++ y ∷ []) z.0;
          zero = subst (λ y. ZeroOffer y (member_at k.members p) k) is z.1;
          quiet = tt;
        })
        (zero-happened top w e (member_at k.members p) k i h f own0)
      where
        below : (b : Bool) → b ≡ true → may_happen top w (Settle (member_at k.members 0) k) ≡ b → member_at k.members 0 < length w.parts
        below b t e = let y : may_happen top w (Settle (member_at k.members 0) k) ≡ true = e ∙ t in grind (arith, nat_tests, y)

no_zero : (ranks top q : ℕ) (k : Key) (i : ℕ) → IsZero (opening ranks top) k i q → ⊥
unfolding opening
no_zero zero top q k i e = cc
no_zero (suc n) top zero k i e = cc
no_zero (suc n) top (suc q) k i e = no_zero n top q k i e

append_none : (xs : List Event) → xs ++ [] ≡ xs
append_none [] = refl
append_none (x ∷ xs) = ap (λ z. x ∷ z) (append_none xs)

history-opening : (ranks top : ℕ) → History ranks top [] (opening ranks top)
history-opening ranks top k p i good inside pos own0 round =
    absurd (no_zero ranks top (member_at k.members p) k i own0)

history-run : (ranks top : ℕ) (es fs : List Event) → History ranks top es (run top es (opening ranks top)) → History ranks top (es ++ fs) (run top (es ++ fs) (opening ranks top))
history-run ranks top es [] h = subst (λ z. History ranks top z (run top z (opening ranks top))) (sym (append_none es)) h
history-run ranks top es (e ∷ fs) h =
    let w : World = run top es (opening ranks top) in
    let next = history-step ranks top es w e refl (holds_always ranks top es).kept h in
    let ends : run top (es ++ e ∷ []) (opening ranks top) ≡ happens top w e = run-append top es (e ∷ []) (opening ranks top) in
    let one_more : History ranks top (es ++ e ∷ []) (run top (es ++ e ∷ []) (opening ranks top)) = subst (λ z. History ranks top (es ++ e ∷ []) z) (sym ends) next in
    subst (λ z. History ranks top z (run top z (opening ranks top))) (append_one es fs e) (history-run ranks top (es ++ e ∷ []) fs one_more)

pub retries_are_caused : (ranks top : ℕ) (es : List Event) → RetriesAreCaused ranks top es
retries_are_caused ranks top es r key may is =
    let w : World = run top es (opening ranks top) in
    let h = (holds_always ranks top es).kept in
    let z = retries_have_zero top w h r key may is in
    let f = first_whole top w r key may h in
    let pos = (retry_facts top (part_at w r).gathered key (round_of (part_at w r).rounds key) is).1 in
    let first : is_first r key.members ≡ true = grind (arith, may) in
    let at = first_place key.members r first in
    let m0 : member_at key.members 0 ≡ r = subst (λ p. member_at key.members p ≡ r) at.0 (member_place key.members r at.1).1 in
    let hist = history-run ranks top [] es (history-opening ranks top) in
    hist key z.place (round_of (part_at w r).rounds key) f.good z.inside pos z.stage (ap (λ q. round_of (part_at w q).rounds key) m0)
