-- What holds of the world of every run, in the words of ranks, links and masks: owners, tokens of the tree, masks, picks and retries.
-- `w` is the world, `r` and `q` are ranks, `p` is a place among a key's members, `i` a round, `c` a context and `top` the greatest context.
use Rattle.std.specs.Prelude.{◌≡◌, ◌<◌, ◌≤◌, ◌⊎◌, ℕ, ◌+◌, ◌==◌, ◌&&◌, not, Bool, true, false, if◌then◌else◌, List, [], ◌∷◌, ◌++◌, length, get_or, slice_get, Option, Some, None}
use Rattle.mpi_base.specs.declared.keys.Key.{Key}
use Rattle.mpi_base.specs.Keys.{same_key, key_before}
use Rattle.mpi_base.specs.MemberLists.{has_rank}
use Rattle.agree_law.specs.declared.rows.Stage.{Stage}
use Rattle.agree_law.specs.declared.rows.Stage.TheVariants.{Sharing, Called, Waiting, Offered, Done}
use Rattle.agree_law.specs.declared.rows.Verdict.{Verdict}
use Rattle.agree_law.specs.declared.rows.Verdict.TheVariants.{Ready, Retry, Context, Exhausted}
use Rattle.agree_law.specs.Tree.{member_at, parent_of}
use Rattle.agree_law.specs.Part.{Offer, Agree, stage_of, round_of}
use Rattle.agree_law.specs.Packets.{Packet, Up, Down, Share, Shares}
use Rattle.agree_law.specs.Kinds.{is_share}
use Rattle.agree_law.specs.Rule.{is_key, is_waiting, may_own}
use Rattle.agree_law.specs.Gather.{is_ready, verdict_of}
use Rattle.agree_law.specs.Offers.{may_offer, make_offer}
use Rattle.agree_law.specs.Verdicts.{may_settle_offers}
use Rattle.agree_law.specs.Moves.{takes_packet}
use Rattle.agree_law.specs.World.{Flight, World, Event, Begin, Begin_share, Offer as Offer_made, Settle, Deliver, Back, Close, part_at, head_of, is_key_of, may_give_back, may_happen, happens, run, opening}

-- a key that ranks can agree on: its members are distinct ranks, and it is no exchange of shares
abbrev pub is_agreed_on : ℕ → Key → Bool
is_agreed_on ranks key = is_key_of ranks key && not (is_share key.kind)

-- how many items pass a test
abbrev pub count : {A : Type 0} → (A → Bool) → List A → ℕ
count p [] = 0
count p (x ∷ xs) = (if p x then 1 else 0) + count p xs

-- The offer rule, for any part of a rank

-- while a key owns the mask, no offer may own it
abbrev pub NoSecondOwner : Agree → Type 0
NoSecondOwner a = (owner key : Key) → is_key a.owner owner ≡ true → may_own a key ≡ false

-- while a lesser key waits, an offer may not own the mask
abbrev pub NoOwnerBeforeALesserKey : Agree → Type 0
NoOwnerBeforeALesserKey a = (lesser key : Key) → is_waiting (stage_of a.opened lesser) ≡ true → key_before lesser key ≡ true → may_own a key ≡ false

-- an offer owns the mask exactly where it may, and then its key is the owner; else the owner stays
pub record OfferIsByTheRule (r top : ℕ) (a : Agree) (key : Key) (i : ℕ) : Type 0 where
  pub stage : stage_of (make_offer r top a key).part.opened key ≡ Some (Offered i (may_own a key))
  pub owner : (make_offer r top a key).part.owner ≡ (if may_own a key then Some key else a.owner)

abbrev pub OffersAreByTheRule : ℕ → ℕ → Agree → Type 0
OffersAreByTheRule r top a = (key : Key) (i : ℕ) → stage_of a.opened key ≡ Some (Waiting i) → OfferIsByTheRule r top a key i

-- while a key owns the mask, no context may be given back
abbrev pub NoGiveBackWhileOwned : ℕ → Agree → Type 0
NoGiveBackWhileOwned top a = (owner : Key) (c : ℕ) → is_key a.owner owner ≡ true → may_give_back top a c ≡ false

-- Owners

-- the owner of the rank's mask is open there, its last offer there owned, and no verdict on it is taken
pub record OwnerHasOffered (w : World) (r : ℕ) (key : Key) : Type 0 where
  pub round : ℕ
  pub stage : stage_of (part_at w r).opened key ≡ Some (Offered round true)

-- each owner of a mask has offered
abbrev pub OwnersHaveOffered : World → Type 0
OwnersHaveOffered w = (r : ℕ) (key : Key) → is_key (part_at w r).owner key ≡ true → OwnerHasOffered w r key

-- the key of the verdict that a packet carries
abbrev pub key_down : Option Packet → Option Key
key_down None = None
key_down (Some (Up k i own mask)) = None
key_down (Some (Down k i v)) = Some k
key_down (Some (Share k s)) = None
key_down (Some (Shares k ss)) = None

-- the key of the verdict that an event brings to a rank: the rank settles the key, or a verdict on it comes
abbrev pub verdict_at : World → Event → ℕ → Option Key
verdict_at w (Begin r key) q = None
verdict_at w (Begin_share r key s) q = None
verdict_at w (Offer_made r key) q = None
verdict_at w (Settle r key) q = if r == q then Some key else None
verdict_at w (Deliver r from) q = if r == q then key_down (head_of w.links from r) else None
verdict_at w (Back r c) q = None
verdict_at w (Close r key) q = None

-- a mask with an owner changes only by a verdict on that owner
abbrev pub MasksStay : ℕ → World → Type 0
MasksStay top w =
    (e : Event) (q : ℕ) (key : Key) → is_key (part_at w q).owner key ≡ true
    → ((part_at (happens top w e) q).mask ≡ (part_at w q).mask) ⊎ (is_key (verdict_at w e q) key ≡ true)

-- Tokens of the tree

-- whether a packet is an `Up` of the key
abbrev pub is_up_of : Key → Packet → Bool
is_up_of key (Up k i own mask) = same_key k key
is_up_of key (Down k i v) = false
is_up_of key (Share k s) = false
is_up_of key (Shares k ss) = false

-- whether a packet is a `Down` of the key
abbrev pub is_down_of : Key → Packet → Bool
is_down_of key (Up k i own mask) = false
is_down_of key (Down k i v) = same_key k key
is_down_of key (Share k s) = false
is_down_of key (Shares k ss) = false

-- whether a packet that passes a test flies between these ranks
abbrev pub is_flown : (Packet → Bool) → ℕ → ℕ → Flight → Bool
is_flown p from to f = p f.packet && ((f.from == from) && (f.to == to))

-- whether an offer is of the key and from the place
abbrev pub is_offer : Key → ℕ → Offer → Bool
is_offer key p o = same_key o.key key && (o.place == p)

-- the tokens of a place: it has not sent its `Up` since the last verdict, the `Up` is in flight to the parent, it is gathered there,
-- or the verdict that the parent took is in flight
abbrev pub edge_tokens : World → Key → ℕ → ℕ
edge_tokens w key p =
    (if is_ready (part_at w (member_at key.members p)).gathered key p then 0 else 1)
    + count (is_flown (is_up_of key) (member_at key.members p) (member_at key.members (parent_of p))) w.links
    + count (is_offer key p) (part_at w (member_at key.members (parent_of p))).gathered
    + count (is_flown (is_down_of key) (member_at key.members (parent_of p)) (member_at key.members p)) w.links

-- each place above 0 has just one token
abbrev pub OneToken : World → Type 0
OneToken w = (key : Key) (p : ℕ) → is_agreed_on (length w.parts) key ≡ true → 0 < p → p < length key.members → edge_tokens w key p ≡ 1

-- whether a packet is an `Up` or a `Down`
abbrev pub is_of_tree : Packet → Bool
is_of_tree (Up k i own mask) = true
is_of_tree (Down k i v) = true
is_of_tree (Share k s) = false
is_of_tree (Shares k ss) = false

-- each `Up` and `Down` that comes is taken
abbrev pub UpsAndDownsAreTaken : World → Type 0
UpsAndDownsAreTaken w = (r from : ℕ) (p : Packet) → r < length w.parts → head_of w.links from r ≡ Some p → is_of_tree p ≡ true → takes_packet r (part_at w r) from p ≡ true

-- two ranks are the members at a place and at its parent
pub record OnEdge (key : Key) (lower upper : ℕ) : Type 0 where
  pub place : ℕ
  pub above : 0 < place
  pub inside : place < length key.members
  pub low : lower ≡ member_at key.members place
  pub high : upper ≡ member_at key.members (parent_of place)

-- an `Up` goes from a place to its parent, and is of the round of the gather there
pub record UpFits (w : World) (key : Key) (i from to : ℕ) : Type 0 where
  pub edge : OnEdge key from to
  pub round : i ≡ round_of (part_at w to).rounds key

-- each `Up` in flight fits
abbrev pub UpsFit : World → Type 0
UpsFit w =
    (key : Key) (i : ℕ) (own : Bool) (mask : List Bool) (from to place : ℕ) → is_agreed_on (length w.parts) key ≡ true
    → slice_get w.links place ≡ Some (record { from = from; to = to; packet = Up key i own mask }) → UpFits w key i from to

-- the round of a gather after a verdict on a round
abbrev pub round_after : ℕ → Verdict → ℕ
round_after i Ready = 1
round_after i Retry = i + 1
round_after i (Context c) = 0
round_after i Exhausted = 0

-- a `Down` goes from a place to a child, is of the last verdict that its sender took, and of the round of its receiver
pub record DownFits (w : World) (key : Key) (i from to : ℕ) (v : Verdict) : Type 0 where
  pub edge : OnEdge key to from
  pub round : i ≡ round_of (part_at w to).rounds key
  pub last : round_of (part_at w from).rounds key ≡ round_after i v

-- each `Down` in flight fits
abbrev pub DownsFit : World → Type 0
DownsFit w =
    (key : Key) (i : ℕ) (v : Verdict) (from to place : ℕ) → is_agreed_on (length w.parts) key ≡ true
    → slice_get w.links place ≡ Some (record { from = from; to = to; packet = Down key i v }) → DownFits w key i from to v

-- Calls

-- whether a stage is that of an exchange of shares
abbrev pub is_sharing : Stage → Bool
is_sharing (Sharing s) = true
is_sharing Called = false
is_sharing (Waiting i) = false
is_sharing (Offered i own) = false
is_sharing (Done c) = false

-- the rank is a member of the key, the members are distinct ranks, and the stage is of the key's kind
pub record OpenFits (w : World) (r : ℕ) (key : Key) (stage : Stage) : Type 0 where
  pub key_fits : is_key_of (length w.parts) key ≡ true
  pub member : has_rank key.members r ≡ true
  pub kind : is_sharing stage ≡ is_share key.kind

-- each open creation fits: so an exchange of shares is open while the rank shares, and is never decided
abbrev pub OpensFit : World → Type 0
OpensFit w = (r : ℕ) (key : Key) (stage : Stage) → stage_of (part_at w r).opened key ≡ Some stage → OpenFits w r key stage

-- whether a creation is called and not decided
abbrev pub is_called : Option Stage → Bool
is_called None = false
is_called (Some (Sharing s)) = false
is_called (Some Called) = true
is_called (Some (Waiting i)) = true
is_called (Some (Offered i own)) = true
is_called (Some (Done c)) = false

-- once the first member is in round 1 or later, each member has called, and none is decided
abbrev pub AllHaveCalled : World → Type 0
AllHaveCalled w =
    (key : Key) (q : ℕ) → is_agreed_on (length w.parts) key ≡ true → 0 < round_of (part_at w (member_at key.members 0)).rounds key → q < length key.members
    → is_called (stage_of (part_at w (member_at key.members q)).opened key) ≡ true

-- Masks

-- the second place is in the subtree of the first
pub data Under : ℕ → ℕ → Type 0 where
  Self : (p : ℕ) → Under p p
  Below : (p q : ℕ) → 0 < q → Under p (parent_of q) → Under p q

-- the key owns the mask of the member at the place, and the context is free in it
pub record IsFreeAt (w : World) (key : Key) (c q : ℕ) : Type 0 where
  pub owner : is_key (part_at w (member_at key.members q)).owner key ≡ true
  pub free : get_or (part_at w (member_at key.members q)).mask c false ≡ true

-- some member of the place's subtree has a mask that the key owns and that lacks the context
pub record IsTakenUnder (w : World) (key : Key) (c p : ℕ) : Type 0 where
  pub place : ℕ
  pub inside : place < length key.members
  pub under : Under p place
  pub owner : is_key (part_at w (member_at key.members place)).owner key ≡ true
  pub lacks : get_or (part_at w (member_at key.members place)).mask c false ≡ false

-- the mask is the and of the masks of the subtree as they stand, each owned by the key
pub record IsAndOf (top : ℕ) (w : World) (key : Key) (p : ℕ) (mask : List Bool) : Type 0 where
  pub each : (c q : ℕ) → get_or mask c false ≡ true → Under p q → q < length key.members → IsFreeAt w key c q
  pub all : (c : ℕ) → 0 < c → c ≤ top → get_or mask c false ≡ false → IsTakenUnder w key c p

-- an `Up` after round 0 that says own carries the and of the masks of its sender's subtree
abbrev pub UpsCarryMasks : ℕ → World → Type 0
UpsCarryMasks top w =
    (key : Key) (p i : ℕ) (mask : List Bool) (to place : ℕ) → is_agreed_on (length w.parts) key ≡ true → 0 < p → p < length key.members → 0 < i
    → slice_get w.links place ≡ Some (record { from = member_at key.members p; to = to; packet = Up key i true mask }) → IsAndOf top w key p mask

-- what is gathered from a child after round 0 and says own carries the and of the masks of the child's subtree
abbrev pub GatheredCarryMasks : ℕ → World → Type 0
GatheredCarryMasks top w =
    (key : Key) (p : ℕ) (mask : List Bool) (place : ℕ) → is_agreed_on (length w.parts) key ≡ true → 0 < p → p < length key.members → 0 < round_of (part_at w (member_at key.members (parent_of p))).rounds key
    → slice_get (part_at w (member_at key.members (parent_of p))).gathered place ≡ Some (record { key = key; place = p; own = true; mask = mask }) → IsAndOf top w key p mask

-- Picks

-- a context that is picked is free in each member's mask, which the key owns
abbrev pub PicksAreFree : ℕ → World → Type 0
PicksAreFree top w =
    (r : ℕ) (key : Key) (c q : ℕ) → may_settle_offers r (part_at w r) key ≡ true → verdict_of top (part_at w r).gathered key (round_of (part_at w r).rounds key) ≡ Context c
    → q < length key.members → IsFreeAt w key c q

-- a context that is picked is one of the setting's
abbrev pub PicksAreContexts : ℕ → World → Type 0
PicksAreContexts top w =
    (r : ℕ) (key : Key) (c : ℕ) → verdict_of top (part_at w r).gathered key (round_of (part_at w r).rounds key) ≡ Context c → (1 ≤ c) × (c ≤ top)

-- where exhausted is said, each context is taken at some member, whose mask the key owns
abbrev pub ExhaustedIsTaken : ℕ → World → Type 0
ExhaustedIsTaken top w =
    (r : ℕ) (key : Key) (c : ℕ) → may_settle_offers r (part_at w r) key ≡ true → verdict_of top (part_at w r).gathered key (round_of (part_at w r).rounds key) ≡ Exhausted
    → 0 < c → c ≤ top → IsTakenUnder w key c 0

-- Retries

-- some member's offer of the round does not own
pub record HasZero (w : World) (key : Key) (i : ℕ) : Type 0 where
  pub place : ℕ
  pub inside : place < length key.members
  pub stage : stage_of (part_at w (member_at key.members place)).opened key ≡ Some (Offered i false)

-- where retry is said, some member's offer of the round does not own
abbrev pub RetriesHaveZero : ℕ → World → Type 0
RetriesHaveZero top w =
    (r : ℕ) (key : Key) → may_settle_offers r (part_at w r) key ≡ true → verdict_of top (part_at w r).gathered key (round_of (part_at w r).rounds key) ≡ Retry
    → HasZero w key (round_of (part_at w r).rounds key)

-- why an offer does not own: another key owns the mask, or a lesser key waits
pub data Cause (a : Agree) (key : Key) : Type 0 where
  Owned : (k : Key) → is_key a.owner k ≡ true → same_key k key ≡ false → Cause a key
  Lesser : (k : Key) → is_waiting (stage_of a.opened k) ≡ true → key_before k key ≡ true → Cause a key

-- a rank is about to make an offer that does not own, for one of these causes
pub record ZeroOffer (w : World) (q : ℕ) (key : Key) : Type 0 where
  pub due : may_offer (part_at w q) key ≡ true
  pub zero : may_own (part_at w q) key ≡ false
  pub cause : Cause (part_at w q) key

-- whether an event settles the key
abbrev pub is_settle_of : Key → Event → Bool
is_settle_of key (Begin r k) = false
is_settle_of key (Begin_share r k s) = false
is_settle_of key (Offer_made r k) = false
is_settle_of key (Settle r k) = same_key k key
is_settle_of key (Deliver r from) = false
is_settle_of key (Back r c) = false
is_settle_of key (Close r k) = false

-- the key is not settled in these events
abbrev pub NoSettle : ℕ → Key → World → List Event → Type 0
NoSettle top key w [] = Unit {0}
NoSettle top key w (e ∷ es) = ((is_settle_of key e && may_happen top w e) ≡ false) × NoSettle top key (happens top w e) es

-- in these events, after the key's last settle, a member made an offer that does not own
pub record IsCaused (ranks top : ℕ) (es : List Event) (key : Key) : Type 0 where
  pub before : List Event
  pub rank : ℕ
  pub after : List Event
  pub split : es ≡ before ++ Offer_made rank key ∷ after
  pub zero : ZeroOffer (run top before (opening ranks top)) rank key
  pub quiet : NoSettle top key (run top (before ++ Offer_made rank key ∷ []) (opening ranks top)) after

-- where retry is said after these events, it is caused
abbrev pub RetriesAreCaused : ℕ → ℕ → List Event → Type 0
RetriesAreCaused ranks top es =
    (r : ℕ) (key : Key) → may_settle_offers r (part_at (run top es (opening ranks top)) r) key ≡ true
    → verdict_of top (part_at (run top es (opening ranks top)) r).gathered key (round_of (part_at (run top es (opening ranks top)) r).rounds key) ≡ Retry → IsCaused ranks top es key
