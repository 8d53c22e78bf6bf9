-- What holds of the agreement in the world at the end of every protocol run, in the words of ranks and links. `s` is the setting,
-- `w` the world, `r` and `q` are ranks, `p` is a place among a key's members, `i` a round and `c` a context. Each part of a
-- protocol run is one too, so that what holds at the end holds all along.
use Rattle.std.specs.Prelude.{◌≡◌, ◌⊎◌, ◌<◌, ◌≤◌, ℕ, Bool, true, false, List, [], ◌∷◌, ◌++◌, length, get_or, slice_get, Option, Some, None}
use Rattle.mpi_base.specs.declared.keys.Key.{Key}
use Rattle.mpi_base.specs.declared.keys.Kind.{Kind}
use Rattle.mpi_base.specs.declared.keys.Kind.TheVariants as kind
use Rattle.mpi_base.specs.Keys.{same_key}
use Rattle.mpi_base.specs.MemberLists.{has_rank}
use Rattle.mpi_base.specs.declared.shares.Shared1.{Shared1}
use Rattle.mpi_base.specs.declared.entries.Act.{Act}
use Rattle.mpi_base.specs.declared.entries.Act.TheVariants.{Call, Answer, Deliver, Offer as MakeOffer, Settle, Leave, Back}
use Rattle.mpi_base.specs.declared.entries.Choice.{Choice}
use Rattle.mpi_base.specs.declared.entries.Entry.{Entry}
use Rattle.mpi_law.specs.declared.setting.Setting.{Setting}
use Rattle.agree_law.specs.declared.rows.Stage.{Stage}
use Rattle.agree_law.specs.declared.rows.Stage.TheVariants.{Offered}
use Rattle.agree_law.specs.declared.rows.Verdict.TheVariants.{Retry, Context, Exhausted}
use Rattle.agree_law.specs.Tree.{member_at}
use Rattle.agree_law.specs.Part.{stage_of, round_of}
use Rattle.agree_law.specs.Packets as agree
use Rattle.agree_law.specs.Kinds.{is_share}
use Rattle.agree_law.specs.Rule.{is_key, may_own}
use Rattle.agree_law.specs.Offers.{may_offer}
use Rattle.agree_law.specs.Verdicts.{may_settle_offers}
use Rattle.agree_law.specs.Shares.{share_list, may_settle_share}
use Rattle.agree_law.specs.World as agreement
use Rattle.agree_law.specs.World.{Event, is_key_of}
use Rattle.agree_law.specs.Facts.{Cause, is_agreed_on, is_called, is_sharing, key_down}
use Rattle.share_law.specs.Facts.{sharing_of}
use Rattle.comm_law.specs.declared.rows.CommRow.{CommRow}
use Rattle.comm_law.specs.Comms.{row_at, is_left}
use Rattle.mpi_protocol.specs.declared.rows.Waits.TheVariants.{Creation}
use Rattle.mpi_protocol.specs.Packets.{Packet, Agreeing, Message, Marker}
use Rattle.mpi_protocol.specs.Rank.{thread_at}
use Rattle.mpi_protocol.specs.Agreeing.{verdict_at}
use Rattle.mpi_protocol.specs.Delivers.{takes_packet}
use Rattle.mpi_protocol.specs.World.{World, opening, rank_at, link, head_for, moved, may_happen}
use Rattle.mpi_protocol.specs.Projection.{IsAgreementOf}
use Rattle.mpi_protocol.specs.Run.{end_of}
use Rattle.projection_law.specs.Events.{agreement_events}
use Rattle.projection_law.specs.Premises.{are_distinct_ranks}
use Rattle.projection_law.specs.KnownNames.{NamesAreKnownFor}

-- The agreement's own world

-- events of the agreement each of which may happen, one after another
abbrev pub EachMayHappen : ℕ → agreement.World → List Event → Type 0
EachMayHappen top a [] = Unit {0}
EachMayHappen top a (e ∷ es) = (agreement.may_happen top a e ≡ true) × EachMayHappen top (agreement.happens top a e) es

-- the events of a journal in the agreement may happen one after another, and the world after them is the agreement of the
-- world at the journal's end
pub record IsAgreementRun (s : Setting) (journal : List Entry) : Type 0 where
  pub each : EachMayHappen s.contexts (agreement.opening s.ranks s.contexts) (agreement_events (opening s) journal)
  pub agreement : IsAgreementOf (end_of s journal) (agreement.run s.contexts (agreement_events (opening s) journal) (agreement.opening s.ranks s.contexts))

-- Packets

-- each packet of the agreement at the head of a link is taken
abbrev pub PacketsAreTaken : World → Type 0
PacketsAreTaken w =
    (r from : ℕ) (p : agree.Packet) → r < length w.ranks → from < length w.ranks → slice_get (link w from r) 0 ≡ Some (Agreeing p) → takes_packet (rank_at w r) from (Agreeing p) ≡ true

-- Open creations

-- the rank is a member of the key, the members are distinct ranks, and the stage is of the key's kind
pub record OpenFits (w : World) (r : ℕ) (key : Key) (stage : Stage) : Type 0 where
  pub key_fits : is_key_of (length w.ranks) key ≡ true
  pub member : has_rank key.members r ≡ true
  pub kind : is_sharing stage ≡ is_share key.kind

-- each creation that is open in the agreement fits
abbrev pub OpensFit : World → Type 0
OpensFit w = (r : ℕ) (key : Key) (stage : Stage) → r < length w.ranks → stage_of (rank_at w r).agree.opened key ≡ Some stage → OpenFits w r key stage

-- a thread of the rank waits for the creation
pub record IsWaitedFor (w : World) (r : ℕ) (key : Key) : Type 0 where
  pub thread : ℕ
  pub target : List ℕ
  pub session : ℕ
  pub waits : (thread_at (rank_at w r) thread).waits ≡ Creation key target session

-- a thread waits for each creation that is open in the agreement
abbrev pub OpensAreWaitedFor : World → Type 0
OpensAreWaitedFor w = (r : ℕ) (key : Key) (stage : Stage) → r < length w.ranks → stage_of (rank_at w r).agree.opened key ≡ Some stage → IsWaitedFor w r key

-- whether the calls of a kind are counted at their communicator
abbrev pub is_counted : Kind → Bool
is_counted kind.From = false
is_counted kind.Group = false
is_counted kind.Dup = true
is_counted kind.Split = true
is_counted kind.Share = true

-- the communicator of the key is known at the rank and not left, and has counted the key's call
pub record IsCounted (w : World) (r : ℕ) (key : Key) : Type 0 where
  pub row : CommRow
  pub there : row_at (rank_at w r).comms key.parent ≡ Some row
  pub calls : key.number < row.calls
  pub stays : is_left row.stage ≡ false

-- each duplicate and each split that is open in the agreement is counted
abbrev pub OpensAreCounted : World → Type 0
OpensAreCounted w = (r : ℕ) (key : Key) (stage : Stage) → r < length w.ranks → stage_of (rank_at w r).agree.opened key ≡ Some stage → is_counted key.kind ≡ true → IsCounted w r key

-- once the first member is in round 1 or later, each member has called, and none is decided
abbrev pub AllHaveCalled : World → Type 0
AllHaveCalled w =
    (key : Key) (p : ℕ) → is_agreed_on (length w.ranks) key ≡ true → 0 < round_of (rank_at w (member_at key.members 0)).agree.rounds key → p < length key.members
    → is_called (stage_of (rank_at w (member_at key.members p)).agree.opened key) ≡ true

-- Communicators

-- the context is one of the setting, and the members are distinct ranks, the rank among them
pub record CommFits (s : Setting) (r c : ℕ) (row : CommRow) : Type 0 where
  pub context : row.ctx ≡ c
  pub some : 1 ≤ c
  pub few : c ≤ s.contexts
  pub ranks : are_distinct_ranks s.ranks row.members ≡ true
  pub member : has_rank row.members r ≡ true

-- each communicator that a rank knows fits
abbrev pub CommsFit : Setting → World → Type 0
CommsFit s w = (r c : ℕ) (row : CommRow) → r < length w.ranks → row_at (rank_at w r).comms c ≡ Some row → CommFits s r c row

-- Owners and masks

-- the rank has made an offer of the key that owns its mask, and no verdict on it is taken
pub record HasOffered (w : World) (r : ℕ) (key : Key) : Type 0 where
  pub round : ℕ
  pub stage : stage_of (rank_at w r).agree.opened key ≡ Some (Offered round true)

-- each owner of a mask is offered
abbrev pub OwnersHaveOffered : World → Type 0
OwnersHaveOffered w = (r : ℕ) (key : Key) → r < length w.ranks → is_key (rank_at w r).agree.owner key ≡ true → HasOffered w r key

-- the key of the verdict in a packet
abbrev pub key_in : Option Packet → Option Key
key_in None = None
key_in (Some (Agreeing p)) = key_down (Some p)
key_in (Some (Message m)) = None
key_in (Some (Marker c)) = None

-- the key of the verdict that an act brings to its rank: the rank settles the key, or a verdict on it comes
abbrev pub key_of_verdict : Act → Option Packet → Option Key
key_of_verdict (Call t op) p = None
key_of_verdict (Answer t) p = None
key_of_verdict (Deliver from) p = key_in p
key_of_verdict (MakeOffer key) p = None
key_of_verdict (Settle key) p = Some key
key_of_verdict (Leave c) p = None
key_of_verdict (Back c) p = None

-- a choice brings a rank a verdict on the key
pub record BringsVerdict (w : World) (choice : Choice) (q : ℕ) (key : Key) : Type 0 where
  pub rank : choice.rank ≡ q
  pub verdict : is_key (key_of_verdict choice.act (head_for w choice.rank choice.act)) key ≡ true

-- a mask with an owner changes only by a verdict on that owner: each choice that may be made leaves it or brings one
abbrev pub MasksStay : World → Type 0
MasksStay w =
    (choice : Choice) (q : ℕ) (key : Key) → may_happen w choice ≡ true → NamesAreKnownFor (rank_at w choice.rank) choice.act
    → q < length w.ranks → is_key (rank_at w q).agree.owner key ≡ true
    → ((rank_at (moved w choice) q).agree.mask ≡ (rank_at w q).agree.mask) ⊎ BringsVerdict w choice q key

-- Verdicts

-- a rank is the first member of the key and may settle its offers
pub record MaySettle (w : World) (r : ℕ) (key : Key) : Type 0 where
  pub inside : r < length w.ranks
  pub may : may_settle_offers (rank_at w r).rank (rank_at w r).agree key ≡ true

-- the key owns the mask of the member at the place, and the context is free in it
pub record IsFreeAt (w : World) (key : Key) (c p : ℕ) : Type 0 where
  pub owner : is_key (rank_at w (member_at key.members p)).agree.owner key ≡ true
  pub free : get_or (rank_at w (member_at key.members p)).agree.mask c false ≡ true

-- a context that is picked is free at every member, in a mask that the key owns
abbrev pub PicksAreFree : World → Type 0
PicksAreFree w = (r : ℕ) (key : Key) (c p : ℕ) → MaySettle w r key → verdict_at (rank_at w r) key ≡ Context c → p < length key.members → IsFreeAt w key c p

-- a context that is picked is one of the setting
abbrev pub PicksAreContexts : Setting → World → Type 0
PicksAreContexts s w = (r : ℕ) (key : Key) (c : ℕ) → r < length w.ranks → verdict_at (rank_at w r) key ≡ Context c → (1 ≤ c) × (c ≤ s.contexts)

-- at some member the key owns the mask, and the context is not free in it
pub record IsTaken (w : World) (key : Key) (c : ℕ) : Type 0 where
  pub place : ℕ
  pub inside : place < length key.members
  pub owner : is_key (rank_at w (member_at key.members place)).agree.owner key ≡ true
  pub lacks : get_or (rank_at w (member_at key.members place)).agree.mask c false ≡ false

-- exhausted is said only where each context is taken at some member
abbrev pub ExhaustedIsTaken : Setting → World → Type 0
ExhaustedIsTaken s w = (r : ℕ) (key : Key) (c : ℕ) → MaySettle w r key → verdict_at (rank_at w r) key ≡ Exhausted → 1 ≤ c → c ≤ s.contexts → IsTaken w key c

-- some member's offer of the round does not own its mask
pub record HasZero (w : World) (key : Key) (i : ℕ) : Type 0 where
  pub place : ℕ
  pub inside : place < length key.members
  pub stage : stage_of (rank_at w (member_at key.members place)).agree.opened key ≡ Some (Offered i false)

-- a retry is said only where some member's offer of the round does not own its mask
abbrev pub RetriesHaveZero : World → Type 0
RetriesHaveZero w = (r : ℕ) (key : Key) → MaySettle w r key → verdict_at (rank_at w r) key ≡ Retry → HasZero w key (round_of (rank_at w r).agree.rounds key)

-- whether an act settles the key
abbrev pub settles_key : Key → Act → Bool
settles_key key (Call t op) = false
settles_key key (Answer t) = false
settles_key key (Deliver from) = false
settles_key key (MakeOffer k) = false
settles_key key (Settle k) = same_key k key
settles_key key (Leave c) = false
settles_key key (Back c) = false

-- no entry settles the key
abbrev pub NoneSettles : Key → List Entry → Type 0
NoneSettles key [] = Unit {0}
NoneSettles key (e ∷ es) = (settles_key key e.choice.act ≡ false) × NoneSettles key es

-- in the journal a member makes an offer of the key that does not own its mask, as another key owns it or a lesser key waits
-- there, and the key is not settled after it
pub record IsCaused (s : Setting) (journal : List Entry) (key : Key) : Type 0 where
  pub first : List Entry
  pub entry : Entry
  pub rest : List Entry
  pub split : journal ≡ first ++ entry ∷ rest
  pub act : entry.choice.act ≡ MakeOffer key
  pub due : may_offer (rank_at (end_of s first) entry.choice.rank).agree key ≡ true
  pub zero : may_own (rank_at (end_of s first) entry.choice.rank).agree key ≡ false
  pub cause : Cause (rank_at (end_of s first) entry.choice.rank).agree key
  pub quiet : NoneSettles key rest

-- a retry is said at the end of a journal only where it is caused in the journal since the key's last settle
abbrev pub RetriesAreCaused : Setting → List Entry → Type 0
RetriesAreCaused s journal = (r : ℕ) (key : Key) → MaySettle (end_of s journal) r key → verdict_at (rank_at (end_of s journal) r) key ≡ Retry → IsCaused s journal key

-- Shares

-- a rank is the first member of an exchange and may settle it
pub record MaySettleShare (w : World) (r : ℕ) (key : Key) : Type 0 where
  pub inside : r < length w.ranks
  pub may : may_settle_share (rank_at w r).rank (rank_at w r).agree key ≡ true

-- the list has one item for each member: the share that the member has told and waits with
pub record IsToldList (w : World) (key : Key) (shares : List Shared1) : Type 0 where
  pub long : length shares ≡ length key.members
  pub told : (p : ℕ) → p < length key.members → slice_get shares p ≡ sharing_of (stage_of (rank_at w (member_at key.members p)).agree.opened key)

-- what the first member of an exchange settles is what all its members have told
abbrev pub SettledSharesAreTold : World → Type 0
SettledSharesAreTold w = (r : ℕ) (key : Key) → MaySettleShare w r key → IsToldList w key (share_list (rank_at w r).agree.shares key)
