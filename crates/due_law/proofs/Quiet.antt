-- Moves that say and take no verdict: no key loses the mask, and no verdict is sent.
use Rattle.std.proofs.Common.{◌≡◌, ◌&&◌, ℕ, ℤ, Bool, true, false, if◌then◌else◌, List, [], ◌∷◌, map, slice_get, Option, Some, None, refl, subst}
use Rattle.std.specs.Prelude.{nat_lt}
use Rattle.mpi_base.specs.declared.keys.Key.{Key}
use Rattle.mpi_base.specs.declared.shares.Shared1.{Shared1}
use Rattle.agree_law.specs.declared.rows.Stage.{Stage}
use Rattle.agree_law.specs.declared.rows.Stage.TheVariants.{Sharing, Called, Waiting, Offered, Done}
use Rattle.agree_law.specs.Tree.{place_in, member_at, parent_of, is_first}
use Rattle.agree_law.specs.Part.{Agree, stage_of, round_of, open_creation, close_creation, drop_shares}
use Rattle.agree_law.specs.Packets.{Packet, Up, Down, Share, Shares, Sent, Moved, stays}
use Rattle.agree_law.specs.Rule.{is_key, may_own}
use Rattle.agree_law.specs.Gather.{is_ready, all_own, common_mask}
use Rattle.agree_law.specs.Offers.{up_from, put_offer, begin, offer_of, if_waiting, make_offer, takes_up, take_up}
use Rattle.agree_law.specs.Classes.{split_key}
use Rattle.agree_law.specs.Shares.{put_share, begin_share, takes_share, take_share, divide, takes_shares, colour_at, take_shares, share_list, to_others, settle_share}
use Rattle.agree_law.proofs.Lists.{AllOf, AllOf-append}
use Rattle.agree_law.proofs.OwnSteps.{own_none}

-- whether a packet is no verdict
abbrev pub is_no_down : Packet → Bool
is_no_down (Up key i own mask) = true
is_no_down (Down key i v) = false
is_no_down (Share key s) = true
is_no_down (Shares key list) = true

abbrev pub NoDowns : List Sent → Type 0
NoDowns sent = AllOf (λ s. is_no_down s.packet ≡ true) sent

-- an owner of the mask stays its owner
abbrev pub OwnersStay : Agree → Agree → Type 0
OwnersStay a b = (key : Key) → is_key a.owner key ≡ true → is_key b.owner key ≡ true

pub record Quiet (a : Agree) (m : Moved) : Type 0 where
  pub owners : OwnersStay a m.part
  pub sent : NoDowns m.sent

-- Calls and offers

no_downs_up : (top : ℕ) (a : Agree) (key : Key) (place : ℕ) → NoDowns (up_from top a key place)
unfolding up_from
no_downs_up top a key place = go (nat_lt 0 place && is_ready a.gathered key place)
  where
    go : (b : Bool) → NoDowns (if b then record { to = member_at key.members (parent_of place); packet = Up key (round_of a.rounds key) (all_own a.gathered key) (common_mask top a.gathered key) } ∷ [] else [])
    go true = (refl, tt)
    go false = tt

quiet_put : (r top : ℕ) (a : Agree) (key : Key) (place : ℕ) (own : Bool) (mask : List Bool) → Quiet a (put_offer r top a key place own mask)
unfolding put_offer
quiet_put r top a key place own mask = record { owners = λ k e. e; sent = no_downs_up top _ key (place_in key.members r) }

pub quiet_begin : (r top : ℕ) (a : Agree) (key : Key) → Quiet a (begin r top a key)
unfolding begin
quiet_begin r top a key = let q = quiet_put r top (record a { opened = open_creation a.opened key Called }) key (place_in key.members r) false _ in record { owners = q.owners; sent = q.sent }

pub quiet_offer : (r top : ℕ) (a : Agree) (key : Key) → Quiet a (make_offer r top a key)
unfolding make_offer
quiet_offer r top a key = go (stage_of a.opened key)
  where
    owned : (own : Bool) → may_own a key ≡ own → (k : Key) → is_key a.owner k ≡ true → is_key (if own then Some key else a.owner) k ≡ true
    owned true e k o = absurd (let n = own_none a key e in let z : is_key None k ≡ true = subst (λ (w : Option Key). is_key w k ≡ true) n o in cc (z))
    owned false e k o = o

    by : (i : ℕ) (own : Bool) → may_own a key ≡ own → Quiet a (offer_of r top a key i own)
    by i own e = let q = quiet_put r top _ key (place_in key.members r) own _ in record { owners = λ k o. q.owners k (owned own e k o); sent = q.sent }

    go : (s : Option Stage) → Quiet a (if_waiting r top a key s)
    go None = record { owners = λ k e. e; sent = tt }
    go (Some (Sharing s)) = record { owners = λ k e. e; sent = tt }
    go (Some Called) = record { owners = λ k e. e; sent = tt }
    go (Some (Waiting i)) = by i (may_own a key) refl
    go (Some (Offered i own)) = record { owners = λ k e. e; sent = tt }
    go (Some (Done c)) = record { owners = λ k e. e; sent = tt }

pub quiet_up : (r top : ℕ) (a : Agree) (from : ℕ) (key : Key) (i : ℕ) (own : Bool) (mask : List Bool) → Quiet a (take_up r top a from key i own mask)
unfolding take_up
quiet_up r top a from key i own mask = go (takes_up r a from key i)
  where
    go : (b : Bool) → Quiet a (if b then put_offer r top a key (place_in key.members from) own mask else stays a)
    go true = quiet_put r top a key (place_in key.members from) own mask
    go false = record { owners = λ k e. e; sent = tt }

-- Exchanges of shares

pub quiet_begin_share : (r : ℕ) (a : Agree) (key : Key) (s : Shared1) → Quiet a (begin_share r a key s)
unfolding begin_share
quiet_begin_share r a key s = go (is_first r key.members)
  where
    b : Agree
    b = record a { opened = open_creation a.opened key (Sharing s) }

    m : Bool → Moved
    m c = if c then record { part = put_share b key 0 s; sent = [] } else record { part = b; sent = record { to = member_at key.members 0; packet = Share key s } ∷ [] }

    go : (c : Bool) → Quiet a (m c)
    go true = record { owners = λ k e. e; sent = tt }
    go false = record { owners = λ k e. e; sent = (refl, tt) }

pub quiet_take_share : (r : ℕ) (a : Agree) (from : ℕ) (key : Key) (s : Shared1) → Quiet a (take_share r a from key s)
unfolding take_share
quiet_take_share r a from key s = go (takes_share r a from key)
  where
    go : (c : Bool) → Quiet a (if c then record { part = put_share a key (place_in key.members from) s; sent = [] } else stays a)
    go true = record { owners = λ k e. e; sent = tt }
    go false = record { owners = λ k e. e; sent = tt }

quiet_divide : (r top : ℕ) (a : Agree) (key : Key) (c : Option ℤ) (list : List Shared1) → Quiet a (divide r top a key c list)
unfolding divide
quiet_divide r top a key None list = record { owners = λ k e. e; sent = tt }
quiet_divide r top a key (Some c) list = let q = quiet_begin r top (record a { opened = close_creation a.opened key }) (split_key key (Some c) list) in record { owners = q.owners; sent = q.sent }

pub quiet_take_shares : (r top : ℕ) (a : Agree) (from : ℕ) (key : Key) (list : List Shared1) → Quiet a (take_shares r top a from key list)
unfolding take_shares
quiet_take_shares r top a from key list = go (takes_shares r a from key list)
  where
    go : (c : Bool) → Quiet a (if c then divide r top a key (colour_at (slice_get list (place_in key.members r))) list else stays a)
    go true = quiet_divide r top a key (colour_at (slice_get list (place_in key.members r))) list
    go false = record { owners = λ k e. e; sent = tt }

no_downs_to : (ms : List ℕ) (key : Key) (list : List Shared1) → NoDowns (to_others ms (Shares key list))
no_downs_to [] key list = tt
no_downs_to (m ∷ ms) key list = each ms
  where
    each : (ms : List ℕ) → NoDowns (map (λ q. record { to = q; packet = Shares key list }) ms)
    each [] = tt
    each (m ∷ ms) = (refl, each ms)

pub quiet_settle_share : (r top : ℕ) (a : Agree) (key : Key) → Quiet a (settle_share r top a key)
unfolding settle_share
quiet_settle_share r top a key =
    let list = share_list a.shares key in
    let q = quiet_take_shares r top (record a { shares = drop_shares a.shares key }) r key list in
    record { owners = q.owners; sent = AllOf-append (λ s. is_no_down s.packet ≡ true) (to_others key.members (Shares key list)) _ (no_downs_to key.members key list) q.sent }
