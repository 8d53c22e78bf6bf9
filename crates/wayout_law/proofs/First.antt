-- What the first choice says of the kinds before it.
use Rattle.std.proofs.Common.{◌≡◌, ◌<◌, ◌==◌, ◌&&◌, ◌||◌, ℕ, zero, suc, Bool, true, false, List, [], ◌∷◌, length, slice_get, Some, refl, sym, subst, arith}
use Rattle.std.specs.Prelude.{get_or, nat_lt, nat_le, is_some}
use Rattle.std.proofs.lemmas.Bool.Decides.{nat_tests}
use Rattle.mpi_base.specs.declared.keys.Key.{Key}
use Rattle.mpi_base.specs.Keys.{same_key, key_before}
use Rattle.mpi_base.proofs.KeyFacts.{same_key_is, key_before_irreflexive, key_before_trans}
use Rattle.mpi_base.specs.declared.entries.Act.{Act}
use Rattle.mpi_base.specs.declared.entries.Act.TheVariants.{Call, Answer, Deliver, Offer as MakeOffer, Settle, Leave, Back}
use Rattle.mpi_base.specs.declared.entries.Choice.{Choice}
use Rattle.mpi_law.specs.ScriptLists.{AllScripts}
use Rattle.agree_law.specs.Moves.{may_settle}
use Rattle.agree_law.specs.Offers.{may_offer}
use Rattle.mpi_protocol.specs.Packets.{Packet}
use Rattle.mpi_protocol.specs.Rank.{Rank}
use Rattle.mpi_protocol.specs.Step.{is_enabled}
use Rattle.mpi_protocol.specs.World.{World, blank, rank_at, link, may_happen}
use Rattle.mpi_protocol.specs.Order.{offered_anywhere, kind_of, Spot, spot_of, is_spot_le, IsOpenTo, IsFirstChoice}
use Rattle.wayout_law.proofs.Agreements.{NoPackets}
use Rattle.wayout_law.proofs.Stands.{Stands, Rests}
use Rattle.wayout_law.proofs.Deliveries.{delivery_of}
use Rattle.wayout_law.proofs.SettleFacts.{settle_of}
use Rattle.wayout_law.proofs.EarlySettle.{offer_choice}

later_kind : (a b : ℕ) (c : Bool) → b < a → (nat_lt a b || ((a == b) && c)) ≡ true → ⊥
later_kind a b c lt e = absurd (grind (arith, nat_tests, lt, e))

later_spot : (a b : Spot) → b.kind < a.kind → is_spot_le a b ≡ true → ⊥
later_spot a b lt e = later_kind a.kind b.kind _ lt e

spot_kind : (w : World) (r : ℕ) (act : Act) → (spot_of w r act).kind ≡ kind_of w act
spot_kind w r (Deliver from) = refl
spot_kind w r (Answer t) = refl
spot_kind w r (Settle key) = refl
spot_kind w r (MakeOffer key) = refl
spot_kind w r (Leave c) = refl
spot_kind w r (Back c) = refl
spot_kind w r (Call t op) = refl

-- no choice of a kind before the first one's is open
none_before : (w : World) (scripts : AllScripts) (c d : Choice) → IsFirstChoice w scripts c → IsOpenTo w scripts d → kind_of w d.act < kind_of w c.act → ⊥
none_before w scripts c d first may lt = later_spot (spot_of w c.rank c.act) (spot_of w d.rank d.act) (rw (spot_kind w c.rank c.act, spot_kind w d.rank d.act) lt) (first.least d may)

pub delivers_may : (w : World) (r from : ℕ) (p : Packet) → r < length w.ranks → from < length w.ranks → (from == (rank_at w r).rank) ≡ false → slice_get (link w from r) 0 ≡ Some p → may_happen w (delivery_of r from) ≡ true
unfolding is_enabled
delivers_may w r from p lt lf far e = let some : is_some (slice_get (link w from r) 0) ≡ true = rw e refl in grind (arith, nat_tests, lt, lf, far, some)

pub first-empty : (top : ℕ) (w : World) (scripts : AllScripts) (c : Choice) → Stands top w → IsFirstChoice w scripts c → 1 < kind_of w c.act → NoPackets w
first-empty top w scripts c h first kind from to lf lt far = go (link w from to) refl
  where
    go : (l : List Packet) → link w from to ≡ l → link w from to ≡ []
    go [] e = e
    go (p ∷ ps) e =
        let may = delivers_may w to from p lt lf (subst (λ z. (from == z) ≡ false) (sym (h.number to lt)) far) (rw e refl) in
        absurd (none_before w scripts c (delivery_of to from) first (record { enabled = may; scripted = tt }) kind)

pub settles_may : (w : World) (r : ℕ) (key : Key) → r < length w.ranks → may_settle (rank_at w r).rank (rank_at w r).agree key ≡ true → may_happen w (settle_of r key) ≡ true
unfolding is_enabled
settles_may w r key lt e = grind (arith, nat_tests, lt, e)

first-settle : (top : ℕ) (w : World) (scripts : AllScripts) (c : Choice) → Stands top w → IsFirstChoice w scripts c → 3 < kind_of w c.act → (r : ℕ) (key : Key) → r < length w.ranks → may_settle r (rank_at w r).agree key ≡ false
first-settle top w scripts c h first kind r key lt = go (may_settle r (rank_at w r).agree key) refl
  where
    go : (b : Bool) → may_settle r (rank_at w r).agree key ≡ b → may_settle r (rank_at w r).agree key ≡ false
    go false e = e
    go true e =
        let may = settles_may w r key lt (subst (λ z. may_settle z (rank_at w r).agree key ≡ true) (sym (h.number r lt)) e) in
        absurd (none_before w scripts c (settle_of r key) first (record { enabled = may; scripted = tt }) kind)

pub offers_may : (w : World) (r : ℕ) (key : Key) → r < length w.ranks → may_offer (rank_at w r).agree key ≡ true → may_happen w (offer_choice r key) ≡ true
unfolding is_enabled
offers_may w r key lt e = grind (arith, nat_tests, lt, e)

-- past the ranks nothing is due
pub offer_inside : (w : World) (r : ℕ) (key : Key) → may_offer (rank_at w r).agree key ≡ true → r < length w.ranks
offer_inside w r key e = go w.ranks r e
  where
    go : (xs : List Rank) (r : ℕ) → may_offer (get_or xs r blank).agree key ≡ true → r < length xs
    go [] r e = absurd (cc)
    go (x ∷ xs) zero e = omega arith
    go (x ∷ xs) (suc r) e = let ih = go xs r e in omega (arith, ih)

first-join : (w : World) (scripts : AllScripts) (c : Choice) → IsFirstChoice w scripts c → 4 < kind_of w c.act → (r : ℕ) (key : Key) → offered_anywhere w key ≡ true → may_offer (rank_at w r).agree key ≡ false
first-join w scripts c first kind r key anywhere = go (may_offer (rank_at w r).agree key) refl
  where
    go : (b : Bool) → may_offer (rank_at w r).agree key ≡ b → may_offer (rank_at w r).agree key ≡ false
    go false e = e
    go true e =
        let may = offers_may w r key (offer_inside w r key e) e in
        let four : kind_of w (MakeOffer key) ≡ 4 = rw anywhere refl in
        absurd (none_before w scripts c (offer_choice r key) first (record { enabled = may; scripted = tt }) (rw four kind))

pub first-rests : (top : ℕ) (w : World) (scripts : AllScripts) (c : Choice) → Stands top w → IsFirstChoice w scripts c → 4 < kind_of w c.act → Rests w
first-rests top w scripts c h first kind = record { empty = first-empty top w scripts c h first (omega (arith, kind)); settle = first-settle top w scripts c h first (omega (arith, kind)); join = first-join w scripts c first kind }

-- the first offer is of the least key that is due
pub first-least : (w : World) (scripts : AllScripts) (r : ℕ) (key : Key) → IsFirstChoice w scripts (offer_choice r key) → ((k : Key) → offered_anywhere w k ≡ false) → (q : ℕ) (k : Key) → may_offer (rank_at w q).agree k ≡ true → key_before k key ≡ false
first-least w scripts r key first nobody q k e =
    let may = offers_may w q k (offer_inside w q k e) e in
    let l = first.least (offer_choice q k) (record { enabled = may; scripted = tt }) in
    let a : kind_of w (MakeOffer key) ≡ 5 = rw (nobody key) refl in
    let b : kind_of w (MakeOffer k) ≡ 5 = rw (nobody k) refl in
    within (rw (a, b) at l)
  where
    within : (nat_lt 5 5 || ((5 == 5) && (nat_lt 0 0 || ((0 == 0) && (key_before key k || (same_key key k && nat_le r q)))))) ≡ true → key_before k key ≡ false
    within e = go (key_before key k) refl (same_key key k) refl (key_before k key) refl e
      where
        go : (a : Bool) → key_before key k ≡ a → (b : Bool) → same_key key k ≡ b → (c : Bool) → key_before k key ≡ c → (nat_lt 5 5 || ((5 == 5) && (nat_lt 0 0 || ((0 == 0) && (a || (b && nat_le r q)))))) ≡ true → key_before k key ≡ false
        go a x b y false z e = z
        go true x b y true z e = let t = key_before_trans key k key x z in let i = key_before_irreflexive key in absurd (cc)
        go false x true y true z e = let is = same_key_is key k y in let i = key_before_irreflexive key in absurd (cc (subst (λ o. key_before o key ≡ true) (sym is) z))
        go false x false y true z e = absurd (cc)
