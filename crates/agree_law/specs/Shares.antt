-- The exchange of shares before a split: each member tells the first its share, and the first tells all members all shares.
use Rattle.std.specs.Prelude.{ℕ, ℤ, ◌==◌, ◌&&◌, not, Bool, false, if◌then◌else◌, List, [], ◌∷◌, ◌++◌, map, length, Option, Some, None, is_none, is_some, slice_get}
use Rattle.std.specs.Ordering.{int_eq}
use Rattle.std.specs.List.{list_all, range_with_len}
use Rattle.mpi_base.specs.declared.keys.Key.{Key}
use Rattle.mpi_base.specs.declared.shares.Shared1.{Shared1}
use Rattle.mpi_base.specs.Keys.{same_key}
use Rattle.mpi_base.specs.MemberLists.{has_rank}
use Rattle.agree_law.specs.declared.rows.Stage.{Stage}
use Rattle.agree_law.specs.declared.rows.Stage.TheVariants.{Sharing, Called, Waiting, Offered, Done}
use Rattle.agree_law.specs.declared.rows.ShareRow.{ShareRow}
use Rattle.agree_law.specs.Tree.{place_in, member_at, is_first}
use Rattle.agree_law.specs.Part.{Agree, stage_of, open_creation, close_creation, drop_shares}
use Rattle.agree_law.specs.Packets.{Packet, Share, Shares, Sent, Moved, stays}
use Rattle.agree_law.specs.Kinds.{is_share}
use Rattle.agree_law.specs.Offers.{begin}
use Rattle.agree_law.specs.Classes.{is_colour, split_key}

-- What the first member has gathered

-- the share of the place, if it is gathered
abbrev pub share_here : List ShareRow → Key → ℕ → Option Shared1
share_here [] key place = None
share_here (o ∷ os) key place = if same_key o.key key && (o.place == place) then Some o.share else share_here os key place

-- a share that is there, before others
abbrev pub with_some : Option Shared1 → List Shared1 → List Shared1
with_some None ss = ss
with_some (Some s) ss = s ∷ ss

-- the shares of these places that are there, in order
abbrev pub shares_at : List ShareRow → Key → List ℕ → List Shared1
shares_at shares key [] = []
shares_at shares key (p ∷ ps) = with_some (share_here shares key p) (shares_at shares key ps)

-- the shares that are there, in order of place
unfoldable pub share_list : List ShareRow → Key → List Shared1
share_list shares key = shares_at shares key (range_with_len 0 (length key.members))

-- a share is gathered
abbrev pub put_share : Agree → Key → ℕ → Shared1 → Agree
put_share a key place s = record a { shares = a.shares ++ record { key = key; place = place; share = s } ∷ [] }

-- A member's share

-- a split is called: its share goes to the first member
unfoldable pub begin_share : ℕ → Agree → Key → Shared1 → Moved
begin_share r a key s =
    let b : Agree = record a { opened = open_creation a.opened key (Sharing s) } in
    if is_first r key.members
    then record { part = put_share b key 0 s; sent = [] }
    else record { part = b; sent = record { to = member_at key.members 0; packet = Share key s } ∷ [] }

-- whether a share is taken from a rank: at the first member, from another member, and once
unfoldable pub takes_share : ℕ → Agree → ℕ → Key → Bool
takes_share r a from key =
    is_share key.kind && (is_first r key.members && (has_rank key.members from && (not (from == r) && is_none (share_here a.shares key (place_in key.members from)))))

-- a share that is taken is gathered at its sender's place
unfoldable pub take_share : ℕ → Agree → ℕ → Key → Shared1 → Moved
take_share r a from key s = if takes_share r a from key then record { part = put_share a key (place_in key.members from) s; sent = [] } else stays a

-- All members' shares

-- the exchange is closed here; with a colour the creation of the rank's class is called
unfoldable pub divide : ℕ → ℕ → Agree → Key → Option ℤ → List Shared1 → Moved
divide r top a key None list = stays (record a { opened = close_creation a.opened key })
divide r top a key (Some c) list = begin r top (record a { opened = close_creation a.opened key }) (split_key key (Some c) list)

-- whether two shares are the same
abbrev pub same_share : Shared1 → Shared1 → Bool
same_share a b = is_colour a.colour b.colour && int_eq a.key b.key

-- whether the item is the share that the rank has told, and awaits to see again
abbrev pub is_own_share : Option Stage → Option Shared1 → Bool
is_own_share None item = false
is_own_share (Some (Sharing s)) None = false
is_own_share (Some (Sharing s)) (Some t) = same_share s t
is_own_share (Some Called) item = false
is_own_share (Some (Waiting i)) item = false
is_own_share (Some (Offered i own)) item = false
is_own_share (Some (Done c)) item = false

-- whether all members' shares are taken: from the first member, one item for each member, and this rank's share at its place
unfoldable pub takes_shares : ℕ → Agree → ℕ → Key → List Shared1 → Bool
takes_shares r a from key list =
    is_share key.kind && (is_first from key.members && (has_rank key.members r
    && ((length list == length key.members) && is_own_share (stage_of a.opened key) (slice_get list (place_in key.members r)))))

-- the colour of an item, None where it is undefined or the item is not there
abbrev pub colour_at : Option Shared1 → Option ℤ
colour_at None = None
colour_at (Some s) = s.colour

-- the rank goes on with its own colour in the list
unfoldable pub take_shares : ℕ → ℕ → Agree → ℕ → Key → List Shared1 → Moved
take_shares r top a from key list =
    if takes_shares r a from key list then divide r top a key (colour_at (slice_get list (place_in key.members r))) list else stays a

-- The first member settles

-- all members' shares are there
abbrev pub may_settle_share : ℕ → Agree → Key → Bool
may_settle_share r a key =
    is_share key.kind && (is_first r key.members && list_all (λ p. is_some (share_here a.shares key p)) (range_with_len 0 (length key.members)))

-- a packet to each member but the first
abbrev pub to_others : List ℕ → Packet → List Sent
to_others [] p = []
to_others (m ∷ ms) p = map (λ q. record { to = q; packet = p }) ms

-- a move, with these packets sent before its own
abbrev pub after_sending : List Sent → Moved → Moved
after_sending sent m = record { part = m.part; sent = sent ++ m.sent }

-- the list goes to each other member in order of place, and is taken here
unfoldable pub settle_share : ℕ → ℕ → Agree → Key → Moved
settle_share r top a key =
    let list = share_list a.shares key in
    after_sending (to_others key.members (Shares key list)) (take_shares r top (record a { shares = drop_shares a.shares key }) r key list)
