-- How far the rounds of the agreement's part go: the exchange of shares, and the moves of either kind.
use Rattle.std.proofs.Common.{◌+◌, ℕ, ℤ, Bool, true, false, if◌then◌else◌, List, [], ◌∷◌, slice_get, Option, Some, None, arith}
use Rattle.mpi_base.specs.declared.keys.Key.{Key}
use Rattle.mpi_base.specs.declared.shares.Shared1.{Shared1}
use Rattle.agree_law.specs.declared.rows.Stage.TheVariants.{Sharing}
use Rattle.agree_law.specs.Tree.{place_in, member_at, is_first}
use Rattle.agree_law.specs.Part.{Agree, open_creation, drop_shares}
use Rattle.agree_law.specs.Packets.{Packet, Up, Down, Share, Shares, Moved, stays}
use Rattle.agree_law.specs.Kinds.{is_share}
use Rattle.agree_law.specs.Verdicts.{settle_offers}
use Rattle.agree_law.specs.Classes.{split_key}
use Rattle.agree_law.specs.Shares.{put_share, begin_share, takes_share, take_share, divide, takes_shares, take_shares, colour_at, share_list, settle_share}
use Rattle.agree_law.specs.Moves.{settle, give_back, close, deliver}
use Rattle.rank_law.proofs.Agreement.{AgreeWithin, agree_rises, opens-open, opens-close, within-begin, within-up, within-down, within-settle_offers}

pub within-begin_share : (n r : ℕ) (a : Agree) (key : Key) (s : Shared1) → AgreeWithin n a → AgreeWithin n (begin_share r a key s).part
unfolding begin_share
within-begin_share n r a key s h = go (is_first r key.members)
  where
    b : Agree
    b = record a { opened = open_creation a.opened key (Sharing s) }

    done : Bool → Moved
    done first = if first then record { part = put_share b key 0 s; sent = [] } else record { part = b; sent = record { to = member_at key.members 0; packet = Share key s } ∷ [] }

    go : (first : Bool) → AgreeWithin n (done first).part
    go true = record { rounds = h.rounds; stages = opens-open n a.opened key (Sharing s) tt h.stages }
    go false = record { rounds = h.rounds; stages = opens-open n a.opened key (Sharing s) tt h.stages }

within-share : (n r : ℕ) (a : Agree) (from : ℕ) (key : Key) (s : Shared1) → AgreeWithin n a → AgreeWithin n (take_share r a from key s).part
unfolding take_share
within-share n r a from key s h = go (takes_share r a from key)
  where
    done : Bool → Moved
    done b = if b then record { part = put_share a key (place_in key.members from) s; sent = [] } else stays a

    go : (b : Bool) → AgreeWithin n (done b).part
    go true = record { rounds = h.rounds; stages = h.stages }
    go false = h

within-divide : (n r top : ℕ) (a : Agree) (key : Key) (colour : Option ℤ) (list : List Shared1) → AgreeWithin n a → AgreeWithin n (divide r top a key colour list).part
unfolding divide
within-divide n r top a key None list h = record { rounds = h.rounds; stages = opens-close n a.opened key h.stages }
within-divide n r top a key (Some c) list h = within-begin n r top _ (split_key key (Some c) list) (record { rounds = h.rounds; stages = opens-close n a.opened key h.stages })

within-shares : (n r top : ℕ) (a : Agree) (from : ℕ) (key : Key) (list : List Shared1) → AgreeWithin n a → AgreeWithin n (take_shares r top a from key list).part
unfolding take_shares
within-shares n r top a from key list h = go (takes_shares r a from key list)
  where
    go : (b : Bool) → AgreeWithin n (if b then divide r top a key (colour_at (slice_get list (place_in key.members r))) list else stays a).part
    go true = within-divide n r top a key _ list h
    go false = h

within-settle_share : (n r top : ℕ) (a : Agree) (key : Key) → AgreeWithin n a → AgreeWithin n (settle_share r top a key).part
unfolding settle_share
within-settle_share n r top a key h = within-shares n r top (record a { shares = drop_shares a.shares key }) r key (share_list a.shares key) (record { rounds = h.rounds; stages = h.stages })

-- Moves of either kind

pub within-settle : (n r top : ℕ) (a : Agree) (key : Key) → AgreeWithin n a → AgreeWithin (n + 1) (settle r top a key).part
unfolding settle
within-settle n r top a key h = go (is_share key.kind)
  where
    go : (b : Bool) → AgreeWithin (n + 1) (if b then settle_share r top a key else settle_offers r top a key).part
    go true = agree_rises n (n + 1) _ (omega arith) (within-settle_share n r top a key h)
    go false = within-settle_offers n r top a key h

pub within-close : (n : ℕ) (a : Agree) (key : Key) → AgreeWithin n a → AgreeWithin n (close a key)
unfolding close
within-close n a key h = record { rounds = h.rounds; stages = opens-close n a.opened key h.stages }

pub within-give_back : (n : ℕ) (a : Agree) (c : ℕ) → AgreeWithin n a → AgreeWithin n (give_back a c)
unfolding give_back
within-give_back n a c h = record { rounds = h.rounds; stages = h.stages }

pub within-deliver : (n r top : ℕ) (a : Agree) (from : ℕ) (p : Packet) → AgreeWithin n a → AgreeWithin (n + 1) (deliver r top a from p).part
unfolding deliver
within-deliver n r top a from (Up key i own mask) h = agree_rises n (n + 1) _ (omega arith) (within-up n r top a from key i own mask h)
within-deliver n r top a from (Down key i v) h = within-down n r a from key i v h
within-deliver n r top a from (Share key s) h = agree_rises n (n + 1) _ (omega arith) (within-share n r a from key s h)
within-deliver n r top a from (Shares key list) h = agree_rises n (n + 1) _ (omega arith) (within-shares n r top a from key list h)
