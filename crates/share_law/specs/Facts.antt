-- What holds of the exchanges of shares in the world of every run, in the words of ranks and links.
-- `w` is the world, `r` a rank, `p` a place among a key's members, `s` a share and `ss` the shares of all members.
use Rattle.std.specs.Prelude.{◌≡◌, ◌<◌, ℕ, ◌+◌, ◌==◌, ◌&&◌, Bool, true, false, if◌then◌else◌, List, length, slice_get, Option, Some, None, is_some}
use Rattle.mpi_base.specs.declared.keys.Key.{Key}
use Rattle.mpi_base.specs.declared.shares.Shared1.{Shared1}
use Rattle.mpi_base.specs.Keys.{same_key}
use Rattle.agree_law.specs.declared.rows.ShareRow.{ShareRow}
use Rattle.agree_law.specs.declared.rows.Stage.{Stage}
use Rattle.agree_law.specs.declared.rows.Stage.TheVariants.{Sharing, Called, Waiting, Offered, Done}
use Rattle.agree_law.specs.Tree.{place_in, member_at}
use Rattle.agree_law.specs.Part.{stage_of}
use Rattle.agree_law.specs.Packets.{Packet, Up, Down, Share, Shares}
use Rattle.agree_law.specs.Kinds.{is_share}
use Rattle.agree_law.specs.Shares.{share_list, may_settle_share}
use Rattle.agree_law.specs.Moves.{takes_packet}
use Rattle.agree_law.specs.World.{World, part_at, head_of, is_key_of}
use Rattle.agree_law.specs.Facts.{count, is_flown}

-- a key of an exchange of shares, whose members are distinct ranks
abbrev pub is_exchange : ℕ → Key → Bool
is_exchange ranks key = is_key_of ranks key && is_share key.kind

-- the share that a member has told, while it awaits those of all members
abbrev pub sharing_of : Option Stage → Option Shared1
sharing_of None = None
sharing_of (Some (Sharing s)) = Some s
sharing_of (Some Called) = None
sharing_of (Some (Waiting i)) = None
sharing_of (Some (Offered i own)) = None
sharing_of (Some (Done c)) = None

-- Tokens of an exchange

-- whether a packet is a share of the key
abbrev pub is_share_of : Key → Packet → Bool
is_share_of key (Up k i own mask) = false
is_share_of key (Down k i v) = false
is_share_of key (Share k s) = same_key k key
is_share_of key (Shares k ss) = false

-- whether a packet is all members' shares of the key
abbrev pub is_shares_of : Key → Packet → Bool
is_shares_of key (Up k i own mask) = false
is_shares_of key (Down k i v) = false
is_shares_of key (Share k s) = false
is_shares_of key (Shares k ss) = same_key k key

-- whether a gathered share is of the key and from the place
abbrev pub is_row : Key → ℕ → ShareRow → Bool
is_row key p o = same_key o.key key && (o.place == p)

-- the tokens of a member: it is not sharing the key, its share is in flight to the first member, it is gathered there,
-- or all members' shares are in flight to it
abbrev pub ray_tokens : World → Key → ℕ → ℕ
ray_tokens w key p =
    (if is_some (sharing_of (stage_of (part_at w (member_at key.members p)).opened key)) then 0 else 1)
    + count (is_flown (is_share_of key) (member_at key.members p) (member_at key.members 0)) w.links
    + count (is_row key p) (part_at w (member_at key.members 0)).shares
    + count (is_flown (is_shares_of key) (member_at key.members 0) (member_at key.members p)) w.links

-- each member of an exchange has just one token
abbrev pub OneShare : World → Type 0
OneShare w = (key : Key) (p : ℕ) → is_exchange (length w.parts) key ≡ true → p < length key.members → ray_tokens w key p ≡ 1

-- Packets that come

-- each packet of the agreement that comes is taken
abbrev pub ArriversAreTaken : World → Type 0
ArriversAreTaken w = (r from : ℕ) (p : Packet) → r < length w.parts → head_of w.links from r ≡ Some p → takes_packet r (part_at w r) from p ≡ true

-- the list has one item for each member, and at the rank's place its own share
pub record IsWholeList (w : World) (key : Key) (r : ℕ) (ss : List Shared1) : Type 0 where
  pub long : length ss ≡ length key.members
  pub own : slice_get ss (place_in key.members r) ≡ sharing_of (stage_of (part_at w r).opened key)

-- all members' shares that come to a member are whole
abbrev pub SharesAreWhole : World → Type 0
SharesAreWhole w = (r from : ℕ) (key : Key) (ss : List Shared1) → head_of w.links from r ≡ Some (Shares key ss) → IsWholeList w key r ss

-- the list has one item for each member: the share that the member has told, while it awaits those of all members
pub record IsToldList (w : World) (key : Key) (ss : List Shared1) : Type 0 where
  pub long : length ss ≡ length key.members
  pub told : (p : ℕ) → p < length key.members → slice_get ss p ≡ sharing_of (stage_of (part_at w (member_at key.members p)).opened key)

-- what the first member settles is what all members have told
abbrev pub SettledSharesAreTold : World → Type 0
SettledSharesAreTold w = (r : ℕ) (key : Key) → may_settle_share r (part_at w r) key ≡ true → IsToldList w key (share_list (part_at w r).shares key)

-- Whose shares they are

-- a share goes to the first member, and is its sender's own
pub record ShareIsOwn (w : World) (key : Key) (s : Shared1) (from to : ℕ) : Type 0 where
  pub first : to ≡ member_at key.members 0
  pub own : sharing_of (stage_of (part_at w from).opened key) ≡ Some s

-- each share in flight is its sender's own
abbrev pub SharesAreOwn : World → Type 0
SharesAreOwn w =
    (key : Key) (s : Shared1) (from to place : ℕ) → is_exchange (length w.parts) key ≡ true
    → slice_get w.links place ≡ Some (record { from = from; to = to; packet = Share key s }) → ShareIsOwn w key s from to

-- each share that the first member has gathered is its member's own
abbrev pub GatheredSharesAreOwn : World → Type 0
GatheredSharesAreOwn w =
    (key : Key) (s : Shared1) (p place : ℕ) → is_exchange (length w.parts) key ≡ true
    → slice_get (part_at w (member_at key.members 0)).shares place ≡ Some (record { key = key; place = p; share = s })
    → sharing_of (stage_of (part_at w (member_at key.members p)).opened key) ≡ Some s
