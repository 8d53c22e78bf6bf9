-- The moves of a key whose offers all own: what they send, gather and leave of other keys.
use Rattle.std.proofs.Common.{◌≡◌, ◌&&◌, ◌||◌, not, ℕ, Bool, true, false, List, [], ◌∷◌, ◌++◌, map, length, None, refl, subst, arith}
use Rattle.std.specs.Prelude.{if◌then◌else◌, nat_lt}
use Rattle.std.specs.List.{list_all}
use Rattle.mpi_base.specs.declared.keys.Key.{Key}
use Rattle.mpi_base.specs.Keys.{same_key}
use Rattle.mpi_base.proofs.KeyFacts.{same_key-refl}
use Rattle.agree_law.specs.declared.rows.CreationRow.{CreationRow}
use Rattle.agree_law.specs.declared.rows.Stage.{Stage}
use Rattle.agree_law.specs.declared.rows.Verdict.{Verdict}
use Rattle.agree_law.specs.declared.rows.Verdict.TheVariants.{Ready, Retry, Context, Exhausted}
use Rattle.agree_law.specs.Tree.{place_in, member_at, parent_of, children_of}
use Rattle.agree_law.specs.Part.{Offer, Agree, stage_of, set_stage, close_creation, drop_offers, round_of}
use Rattle.agree_law.specs.Packets.{Up, Down, Share, Shares}
use Rattle.agree_law.specs.Rule.{is_waiting}
use Rattle.agree_law.specs.Gather.{is_ready, has_offer, all_own, common_mask}
use Rattle.agree_law.specs.Offers.{up_from}
use Rattle.agree_law.specs.Moves.{may_settle}
use Rattle.agree_law.specs.Verdicts.{decide, takes, rounds_after, pass_down}
use Rattle.agree_law.proofs.Lists.{AllOf}
use Rattle.agree_law.proofs.RowFacts.{stage_of-set, stage_of-close}
use Rattle.mpi_protocol.specs.Packets.{Packet, Agreeing, Message, Marker, agreeing}
use Rattle.mpi_protocol.specs.Packets as protocol
use Rattle.wayout_law.proofs.Rows.{has_offer-append, has_offer-drop, all-same}

abbrev pub is_retry : Verdict → Bool
is_retry Ready = false
is_retry Retry = true
is_retry (Context c) = false
is_retry Exhausted = false

-- a packet of a key whose offers all own
abbrev pub is_calm : Key → Packet → Bool
is_calm key (Agreeing (Up k i own mask)) = same_key k key && own
is_calm key (Agreeing (Down k i v)) = same_key k key && not (is_retry v)
is_calm key (Agreeing (Share k s)) = false
is_calm key (Agreeing (Shares k list)) = false
is_calm key (Message m) = false
is_calm key (Marker c) = false

abbrev pub CalmSent : Key → List protocol.Sent → Type 0
CalmSent key sent = AllOf (λ s. is_calm key s.packet ≡ true) sent

-- Offers that own

pub own-append : (os : List Offer) (o : Offer) (key : Key) → all_own os key ≡ true → o.own ≡ true → all_own (os ++ o ∷ []) key ≡ true
unfolding all_own
own-append [] o key e f = grind (arith, f)
own-append (x ∷ os) o key e f = let ih = own-append os o key (grind (arith, e)) f in grind (arith, e, ih)

own-drop : (os : List Offer) (key : Key) → all_own (drop_offers os key) key ≡ true
unfolding all_own
own-drop [] key = refl
own-drop (x ∷ os) key = let ih = own-drop os key in go (same_key x.key key) refl ih
  where
    go : (b : Bool) → same_key x.key key ≡ b → list_all (λ o. not (same_key o.key key) || o.own) (drop_offers os key) ≡ true → list_all (λ o. not (same_key o.key key) || o.own) (if not b then x ∷ drop_offers os key else drop_offers os key) ≡ true
    go true e ih = ih
    go false e ih = grind (arith, e, ih)

pub calm-up : (top : ℕ) (a : Agree) (key : Key) (p : ℕ) → all_own a.gathered key ≡ true → CalmSent key (agreeing (up_from top a key p))
unfolding up_from
calm-up top a key p own = go (nat_lt 0 p && is_ready a.gathered key p)
  where
    go : (b : Bool) → CalmSent key (agreeing (if b then record { to = member_at key.members (parent_of p); packet = Up key (round_of a.rounds key) (all_own a.gathered key) (common_mask top a.gathered key) } ∷ [] else []))
    go true = let s = same_key-refl key in (grind (arith, s, own), tt)
    go false = tt

pub calm-downs : (r : ℕ) (a : Agree) (key : Key) (i : ℕ) (v : Verdict) → is_retry v ≡ false → CalmSent key (agreeing (decide r a key i v).sent)
unfolding decide pass_down
calm-downs r a key i v e = go (children_of (place_in key.members r) (length key.members))
  where
    go : (ps : List ℕ) → CalmSent key (agreeing (map (λ q. record { to = member_at key.members q; packet = Down key i v }) ps))
    go [] = tt
    go (p ∷ ps) = let s = same_key-refl key in (grind (arith, s, e), go ps)

-- Other keys

-- whether a first member may settle rests on its offers and its shares
pub settle-same : (r : ℕ) (a b : Agree) (k : Key) → is_ready b.gathered k 0 ≡ is_ready a.gathered k 0 → b.shares ≡ a.shares → may_settle r b k ≡ may_settle r a k
unfolding may_settle
settle-same r a b k e f = rw (e, f) refl

pub ready-append-other : (os : List Offer) (o : Offer) (k : Key) (p : ℕ) → same_key o.key k ≡ false → is_ready (os ++ o ∷ []) k p ≡ is_ready os k p
unfolding is_ready
ready-append-other os o k p e = all-same (has_offer (os ++ o ∷ []) k) (has_offer os k) (p ∷ children_of p (length k.members)) (λ q. let a = has_offer-append os o k q in grind (arith, a, e))

ready-drop-other : (os : List Offer) (key k : Key) (p : ℕ) → same_key key k ≡ false → is_ready (drop_offers os key) k p ≡ is_ready os k p
unfolding is_ready
ready-drop-other os key k p e = all-same (has_offer (drop_offers os key) k) (has_offer os k) (p ∷ children_of p (length k.members)) (λ q. has_offer-drop os key k q e)

-- Waiting keys

pub waits-set : (os : List CreationRow) (key : Key) (s : Stage) (k : Key) → same_key key k ≡ false → is_waiting (stage_of (set_stage os key s) k) ≡ is_waiting (stage_of os k)
waits-set os key s k e = let x = stage_of-set os key s k in rw x (rw e refl)

pub waits-close : (os : List CreationRow) (key : Key) (k : Key) → is_waiting (stage_of (close_creation os key) k) ≡ true → is_waiting (stage_of os k) ≡ true
waits-close os key k e = go (same_key key k) (stage_of-close os key k)
  where
    go : (b : Bool) → stage_of (close_creation os key) k ≡ (if b then None else stage_of os k) → is_waiting (stage_of os k) ≡ true
    go true x = let z : is_waiting None ≡ true = subst (λ o. is_waiting o ≡ true) x e in absurd (cc)
    go false x = subst (λ o. is_waiting o ≡ true) x e

-- a verdict on the key
pub decide-own : (r : ℕ) (a : Agree) (key : Key) (i : ℕ) (v : Verdict) → all_own (decide r a key i v).part.gathered key ≡ true
unfolding decide takes rounds_after
decide-own r a key i Ready = own-drop a.gathered key
decide-own r a key i Retry = own-drop a.gathered key
decide-own r a key i (Context c) = own-drop a.gathered key
decide-own r a key i Exhausted = own-drop a.gathered key

pub decide-rest : (r : ℕ) (a : Agree) (key : Key) (i : ℕ) (v : Verdict) (k : Key) → same_key key k ≡ false → may_settle r (decide r a key i v).part k ≡ may_settle r a k
unfolding decide takes rounds_after
decide-rest r a key i Ready k e = settle-same r a (decide r a key i Ready).part k (ready-drop-other a.gathered key k 0 e) refl
decide-rest r a key i Retry k e = settle-same r a (decide r a key i Retry).part k (ready-drop-other a.gathered key k 0 e) refl
decide-rest r a key i (Context c) k e = settle-same r a (decide r a key i (Context c)).part k (ready-drop-other a.gathered key k 0 e) refl
decide-rest r a key i Exhausted k e = settle-same r a (decide r a key i Exhausted).part k (ready-drop-other a.gathered key k 0 e) refl

pub decide-waits : (r : ℕ) (a : Agree) (key : Key) (i : ℕ) (v : Verdict) (k : Key) → same_key key k ≡ false → is_waiting (stage_of (decide r a key i v).part.opened k) ≡ is_waiting (stage_of a.opened k)
unfolding decide takes rounds_after
decide-waits r a key i Ready k e = waits-set a.opened key _ k e
decide-waits r a key i Retry k e = waits-set a.opened key _ k e
decide-waits r a key i (Context c) k e = waits-set a.opened key _ k e
decide-waits r a key i Exhausted k e = waits-set a.opened key _ k e
