-- The agreement of all ranks: their parts, the links between them, and what happens.
use Rattle.std.specs.Prelude.{ℕ, ◌==◌, ◌&&◌, ◌||◌, not, Bool, true, false, if◌then◌else◌, List, [], ◌∷◌, ◌++◌, map, length, set, get_or, replicate, Option, Some, None, is_none, is_some, nat_lt, nat_le}
use Rattle.std.specs.List.{list_all}
use Rattle.mpi_base.specs.declared.keys.Key.{Key}
use Rattle.mpi_base.specs.MemberLists.{has_rank, are_distinct}
use Rattle.mpi_base.specs.declared.shares.Shared1.{Shared1}
use Rattle.agree_law.specs.declared.rows.Stage.{Stage}
use Rattle.agree_law.specs.declared.rows.Stage.TheVariants.{Sharing, Called, Waiting, Offered, Done}
use Rattle.agree_law.specs.declared.rows.CreationRow.{CreationRow}
use Rattle.agree_law.specs.Part.{Agree, fresh, stage_of}
use Rattle.agree_law.specs.Packets.{Packet, Sent, Moved}
use Rattle.agree_law.specs.Kinds.{is_share}
use Rattle.agree_law.specs.SplitKeys.{is_split}
use Rattle.agree_law.specs.Offers.{may_offer, begin, make_offer}
use Rattle.agree_law.specs.Shares.{begin_share}
use Rattle.agree_law.specs.Moves.{may_settle, settle, deliver, give_back, close}

-- a packet on the link from a rank to a rank; packets of one link stand in the order in which they were sent
pub record Flight : Type 0 where
  pub from : ℕ
  pub to : ℕ
  pub packet : Packet

-- the part of each rank, and what is on its way
pub record World : Type 0 where
  pub parts : List Agree
  pub links : List Flight

-- the part of a rank
abbrev pub part_at : World → ℕ → Agree
part_at w r = get_or w.parts r (fresh 0)

-- Links

-- whether a packet is on the link from a rank to a rank
abbrev pub is_on : ℕ → ℕ → Flight → Bool
is_on from to f = (f.from == from) && (f.to == to)

-- the packet at the head of a link
abbrev pub head_of : List Flight → ℕ → ℕ → Option Packet
head_of [] from to = None
head_of (f ∷ fs) from to = if is_on from to f then Some f.packet else head_of fs from to

-- the links without the head of one
abbrev pub popped : List Flight → ℕ → ℕ → List Flight
popped [] from to = []
popped (f ∷ fs) from to = if is_on from to f then fs else f ∷ popped fs from to

-- what a rank sends, on its links
abbrev pub flights_of : ℕ → List Sent → List Flight
flights_of r sent = map (λ s. record { from = r; to = s.to; packet = s.packet }) sent

-- a move of a rank: its part changes, and what it sends goes on its links
unfoldable pub moved : World → ℕ → Moved → World
moved w r m = record { parts = set w.parts r m.part; links = w.links ++ flights_of r m.sent }

-- What happens

pub data Event : Type 0 where
  -- a creation is called at a rank
  Begin : ℕ → Key → Event
  -- a split is called at a rank, with its share
  Begin_share : ℕ → Key → Shared1 → Event
  -- a rank makes the offer that is due for a key
  Offer : ℕ → Key → Event
  -- the first member of a key settles a round, or an exchange of shares
  Settle : ℕ → Key → Event
  -- to the first rank comes the head of the link from the second
  Deliver : ℕ → ℕ → Event
  -- a context is given back at a rank
  Back : ℕ → ℕ → Event
  -- a creation is answered at a rank
  Close : ℕ → Key → Event

-- the members of a key are distinct ranks, each below their number
unfoldable pub is_key_of : ℕ → Key → Bool
is_key_of ranks key = are_distinct key.members && list_all (λ m. nat_lt m ranks) key.members

-- a rank calls a creation of which it is a member and which is not open here; the exchange alone calls those of a split
abbrev pub may_begin : ℕ → ℕ → Agree → Key → Bool
may_begin ranks r a key =
    not (is_share key.kind) && (not (is_split key.kind) && (is_key_of ranks key && (has_rank key.members r && is_none (stage_of a.opened key))))

-- an open creation is neither the exchange nor a class of the key's split
abbrev pub is_apart : Key → CreationRow → Bool
is_apart key o = not (is_share o.key.kind || is_split o.key.kind) || not ((o.key.parent == key.parent) && (o.key.number == key.number))

-- no split of the key's parent and number is open in these rows
unfoldable pub has_no_split : List CreationRow → Key → Bool
has_no_split opened key = list_all (is_apart key) opened

-- a rank calls a split of which it is a member, and of which nothing is open here
abbrev pub may_begin_share : ℕ → ℕ → Agree → Key → Bool
may_begin_share ranks r a key = is_share key.kind && (is_key_of ranks key && (has_rank key.members r && has_no_split a.opened key))

-- a context from 1 to the greatest may be given back while no key owns the mask
abbrev pub may_give_back : ℕ → Agree → ℕ → Bool
may_give_back top a c = is_none a.owner && (nat_lt 0 c && nat_le c top)

-- whether a creation is decided
abbrev pub is_done : Option Stage → Bool
is_done None = false
is_done (Some (Sharing s)) = false
is_done (Some Called) = false
is_done (Some (Waiting i)) = false
is_done (Some (Offered i own)) = false
is_done (Some (Done c)) = true

-- a creation that is decided may be answered
abbrev pub may_close : Agree → Key → Bool
may_close a key = is_done (stage_of a.opened key)

-- the rank at which an event happens
abbrev pub rank_of : Event → ℕ
rank_of (Begin r key) = r
rank_of (Begin_share r key s) = r
rank_of (Offer r key) = r
rank_of (Settle r key) = r
rank_of (Deliver r from) = r
rank_of (Back r c) = r
rank_of (Close r key) = r

-- whether the rank of an event can do it
abbrev pub is_enabled : ℕ → World → Event → Bool
is_enabled top w (Begin r key) = may_begin (length w.parts) r (part_at w r) key
is_enabled top w (Begin_share r key s) = may_begin_share (length w.parts) r (part_at w r) key
is_enabled top w (Offer r key) = may_offer (part_at w r) key
is_enabled top w (Settle r key) = may_settle r (part_at w r) key
is_enabled top w (Deliver r from) = is_some (head_of w.links from r)
is_enabled top w (Back r c) = may_give_back top (part_at w r) c
is_enabled top w (Close r key) = may_close (part_at w r) key

-- an event may happen at a rank that is there and can do it
abbrev pub may_happen : ℕ → World → Event → Bool
may_happen top w e = nat_lt (rank_of e) (length w.parts) && is_enabled top w e

-- the packet at the head of a link, if there is one, comes to the rank
abbrev pub came : ℕ → World → ℕ → ℕ → Option Packet → World
came top w r from None = w
came top w r from (Some p) = moved (record { parts = w.parts; links = popped w.links from r }) r (deliver r top (part_at w r) from p)

-- what an event does where it may happen
abbrev pub happened : ℕ → World → Event → World
happened top w (Begin r key) = moved w r (begin r top (part_at w r) key)
happened top w (Begin_share r key s) = moved w r (begin_share r (part_at w r) key s)
happened top w (Offer r key) = moved w r (make_offer r top (part_at w r) key)
happened top w (Settle r key) = moved w r (settle r top (part_at w r) key)
happened top w (Deliver r from) = came top w r from (head_of w.links from r)
happened top w (Back r c) = moved w r (record { part = give_back (part_at w r) c; sent = [] })
happened top w (Close r key) = moved w r (record { part = close (part_at w r) key; sent = [] })

-- an event that may not happen changes nothing
unfoldable pub happens : ℕ → World → Event → World
happens top w e = if may_happen top w e then happened top w e else w

-- the world after a list of events
abbrev pub run : ℕ → List Event → World → World
run top [] w = w
run top (e ∷ es) w = run top es (happens top w e)

-- nothing called, nothing on its way
unfoldable pub opening : ℕ → ℕ → World
opening ranks top = record { parts = replicate ranks (fresh top); links = [] }
