-- What is kept of one key, looked at alone: its members by place, and the packets of the key on their way.
use Rattle.std.proofs.Common.{◌≡◌, ◌≢◌, ◌⊎◌, ◌<◌, ◌+◌, ◌==◌, ◌&&◌, ◌||◌, not, ℕ, Bool, true, false, List, [], get_or, Option, Some, None}
use Rattle.std.specs.Prelude.{nat_lt}
use Rattle.mpi_base.specs.declared.keys.Key.{Key}
use Rattle.agree_law.specs.declared.rows.Stage.{Stage}
use Rattle.agree_law.specs.declared.rows.Stage.TheVariants.{Sharing, Called, Waiting, Offered, Done}
use Rattle.agree_law.specs.declared.rows.Verdict.{Verdict}
use Rattle.agree_law.specs.declared.rows.Verdict.TheVariants.{Ready, Retry, Context, Exhausted}
use Rattle.agree_law.specs.Tree.{parent_of, is_child}
use Rattle.agree_law.specs.Part.{Offer, Agree, stage_of, round_of}
use Rattle.agree_law.specs.Packets.{Packet, Up, Down, Share, Shares}
use Rattle.agree_law.specs.Rule.{is_key}
use Rattle.agree_law.specs.World.{Flight}
use Rattle.agree_law.proofs.Lists.{AllOf, tally, one}
use Rattle.agree_law.proofs.RowFacts.{of_key, at_place, is_whole, own_of, mask_of}

-- what one member has of the key; the mask counts while the key owns it
pub record View : Type 0 where
  pub stage : Option Stage
  pub round : ℕ
  pub offers : List Offer
  pub owns : Bool
  pub mask : List Bool

abbrev pub owned_mask : Bool → List Bool → List Bool
owned_mask true mask = mask
owned_mask false mask = []

abbrev pub view_of : Agree → Key → View
view_of a key =
    record {
      stage = stage_of a.opened key;
      round = round_of a.rounds key;
      offers = of_key a.gathered key;
      owns = is_key a.owner key;
      mask = owned_mask (is_key a.owner key) a.mask;
    }

-- an `Up` from the rank, a `Down` to it
abbrev pub is_up : ℕ → Packet → ℕ → Bool
is_up r (Up k i own mask) from = from == r
is_up r (Down k i v) from = false
is_up r (Share k s) from = false
is_up r (Shares k ss) from = false

abbrev pub is_down : ℕ → Packet → ℕ → Bool
is_down r (Up k i own mask) to = false
is_down r (Down k i v) to = to == r
is_down r (Share k s) to = false
is_down r (Shares k ss) to = false

abbrev pub up_from_rank : ℕ → Flight → Bool
up_from_rank r f = is_up r f.packet f.from

abbrev pub down_to_rank : ℕ → Flight → Bool
down_to_rank r f = is_down r f.packet f.to

-- just one token for each edge of the tree: at the lower place until its gather is whole, then on its way up, gathered above, or on its way down
abbrev pub tokens : ℕ → (ℕ → ℕ) → (ℕ → View) → List Flight → ℕ → ℕ
tokens n m V fs p =
    one (not (is_whole (V p).offers p n)) + tally (up_from_rank (m p)) fs + tally (down_to_rank (m p)) fs
    + tally (at_place p) (V (parent_of p)).offers

-- the stage of a member against the round of its gather, the number of its own offers there, and whether the key owns its mask
abbrev pub stage_fits : Option Stage → ℕ → ℕ → Bool → Bool
stage_fits None g n owns = (g == 0) && ((n == 0) && not owns)
stage_fits (Some (Sharing s)) g n owns = false
stage_fits (Some Called) g n owns = (g == 0) && ((n == 1) && not owns)
stage_fits (Some (Waiting i)) g n owns = (g == i) && (nat_lt 0 i && ((n == 0) && not owns))
stage_fits (Some (Offered i own)) g n owns = (g == i) && (nat_lt 0 i && ((n == 1) && ((owns && own) || (not owns && not own))))
stage_fits (Some (Done c)) g n owns = (g == 0) && ((n == 0) && not owns)

abbrev pub Local : View → ℕ → Type 0
Local v p = stage_fits v.stage v.round (tally (at_place p) v.offers) v.owns ≡ true

-- a member's own offer is its mask as it stands
pub record IsOwn (v : View) (o : Offer) : Type 0 where
  pub owns : o.own ≡ v.owns
  pub mask : o.own ≡ true → o.mask ≡ v.mask

-- what a child said is what its gather says
pub record IsOf (top : ℕ) (v : View) (b : Bool) (m : List Bool) : Type 0 where
  pub owns : b ≡ own_of v.offers
  pub mask : m ≡ mask_of top v.offers

-- an offer gathered at a place
pub record Held (top size : ℕ) (v : View) (p : ℕ) (at : ℕ → View) (o : Offer) : Type 0 where
  pub place : (o.place ≡ p) ⊎ ((is_child p o.place ≡ true) × (o.place < size))
  pub own : o.place ≡ p → IsOwn v o
  pub child : o.place ≢ p → IsOf top (at o.place) o.own o.mask

abbrev pub next_round : ℕ → Verdict → ℕ
next_round i Ready = 1
next_round i Retry = i + 1
next_round i (Context c) = 0
next_round i Exhausted = 0

-- ready is said of round 0 and of no other
abbrev pub is_said_of : ℕ → Verdict → Bool
is_said_of i Ready = i == 0
is_said_of i Retry = nat_lt 0 i
is_said_of i (Context c) = nat_lt 0 i
is_said_of i Exhausted = nat_lt 0 i

-- the context that a verdict says is offered below
abbrev pub IsFree : ℕ → View → Verdict → Type 0
IsFree top v Ready = Unit {0}
IsFree top v Retry = Unit {0}
IsFree top v (Context c) = (own_of v.offers ≡ true) × (get_or (mask_of top v.offers) c false ≡ true)
IsFree top v Exhausted = Unit {0}

-- a packet between a place and its parent
pub record Edge (n : ℕ) (m : ℕ → ℕ) (p lower upper : ℕ) : Type 0 where
  pub above : 0 < p
  pub inside : p < n
  pub low : lower ≡ m p
  pub high : upper ≡ m (parent_of p)

-- `n` members, the rank at each place, and what it has
abbrev pub Flies : ℕ → ℕ → (ℕ → ℕ) → (ℕ → View) → ℕ → ℕ → Packet → Type 0
Flies top n m V from to (Up k i own mask) = (p : ℕ) × Edge n m p from to × (i ≡ (V p).round) × IsOf top (V p) own mask
Flies top n m V from to (Down k i v) =
    (p : ℕ) × Edge n m p to from × (i ≡ (V p).round) × ((V (parent_of p)).round ≡ next_round i v) × (is_said_of i v ≡ true) × IsFree top (V p) v
Flies top n m V from to (Share k x) = ⊥
Flies top n m V from to (Shares k xs) = ⊥

abbrev pub FliesAt : ℕ → ℕ → (ℕ → ℕ) → (ℕ → View) → Flight → Type 0
FliesAt top n m V f = Flies top n m V f.from f.to f.packet

pub record KeyKept (top n : ℕ) (m : ℕ → ℕ) (V : ℕ → View) (fs : List Flight) : Type 0 where
  pub token : (p : ℕ) → 0 < p → p < n → tokens n m V fs p ≡ 1
  pub flown : AllOf (FliesAt top n m V) fs
  pub fits : (p : ℕ) → p < n → Local (V p) p
  pub held : (p : ℕ) → p < n → AllOf (Held top n (V p) p V) (V p).offers
  pub level : (p : ℕ) → 0 < p → p < n → tally (down_to_rank (m p)) fs ≡ 0 → (V p).round ≡ (V (parent_of p)).round
