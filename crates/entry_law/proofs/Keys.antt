-- Whole keys: where all of each key that is called is shown, so is all of each key that a rank's agreement has and sends.
use Rattle.std.proofs.Common.{◌≡◌, ◌||◌, ◌+◌, ℕ, ℤ, Bool, true, false, if◌then◌else◌, List, [], ◌∷◌, map, length, not, slice_get, Option, Some, None, refl, subst, arith}
use Rattle.std.specs.Option.{is_some}
use Rattle.std.specs.List.{list_all, range_with_len}
use Rattle.mpi_base.specs.declared.keys.Key.{Key}
use Rattle.mpi_base.specs.declared.shares.Shared1.{Shared1}
use Rattle.mpi_base.specs.Keys.{same_key}
use Rattle.mpi_base.proofs.KeyFacts.{same_key_is}
use Rattle.agree_law.specs.declared.rows.CreationRow.{CreationRow}
use Rattle.agree_law.specs.declared.rows.ShareRow.{ShareRow}
use Rattle.agree_law.specs.declared.rows.Stage.{Stage}
use Rattle.agree_law.specs.declared.rows.Stage.TheVariants.{Sharing, Called, Waiting, Offered, Done}
use Rattle.agree_law.specs.declared.rows.Outcome.TheVariants as outcome
use Rattle.agree_law.specs.declared.rows.Verdict.{Verdict}
use Rattle.agree_law.specs.declared.rows.Verdict.TheVariants.{Ready, Retry, Context, Exhausted}
use Rattle.agree_law.specs.Tree.{place_in, member_at, is_first, children_of}
use Rattle.agree_law.specs.Part.{Offer, Agree, stage_of, open_creation, set_stage, close_creation, drop_offers, drop_shares}
use Rattle.agree_law.specs.Packets.{Packet, Up, Down, Share, Shares, Sent, Moved, stays}
use Rattle.agree_law.specs.Kinds.{is_share}
use Rattle.agree_law.specs.Rule.{may_own}
use Rattle.agree_law.specs.Gather.{has_offer, is_ready}
use Rattle.agree_law.specs.Offers.{up_from, put_offer, begin, if_waiting, make_offer, may_offer, is_due, takes_up, take_up}
use Rattle.agree_law.specs.Verdicts.{takes, rounds_after, pass_down, decide, may_settle_offers, settle_offers, takes_down, take_down}
use Rattle.agree_law.specs.Classes.{split_key}
use Rattle.agree_law.specs.Shares.{share_here, put_share, begin_share, takes_share, take_share, divide, takes_shares, take_shares, colour_at, share_list, may_settle_share, to_others, settle_share}
use Rattle.agree_law.specs.Moves.{may_settle, settle, give_back, close, deliver}
use Rattle.agree_law.proofs.Lists.{AllOf, AllOf-append, AllOf_filter}
use Rattle.agree_law.proofs.Links.{key_of}
use Rattle.entry_text.specs.Keys.{ShowsAll}

-- all of a key is shown
abbrev pub Shows : Key → Type 0
Shows key = ShowsAll key.kind key

-- all is shown of each key that a rank has opened, and of each that it gathers offers or shares for
pub record PartShows (a : Agree) : Type 0 where
  pub opened : AllOf (λ o. Shows o.key) a.opened
  pub gathered : AllOf (λ o. Shows o.key) a.gathered
  pub shares : AllOf (λ o. Shows o.key) a.shares

abbrev pub SentShow : List Sent → Type 0
SentShow ss = AllOf (λ s. Shows (key_of s.packet)) ss

-- so too after a move, and of each key that it sends
pub record MovedShows (m : Moved) : Type 0 where
  pub part : PartShows m.part
  pub sent : SentShow m.sent

still : (a : Agree) → PartShows a → MovedShows (stays a)
still a h = record { part = h; sent = tt }

-- Keys that are there

pub open_shows : (opened : List CreationRow) (key : Key) (z : Stage) → stage_of opened key ≡ Some z → AllOf (λ o. Shows o.key) opened → Shows key
open_shows [] key z e h = absurd (cc (e))
open_shows (o ∷ os) key z e h = go (same_key o.key key) refl (open_shows os key z)
  where
    go : (b : Bool) → same_key o.key key ≡ b → (stage_of os key ≡ Some z → AllOf (λ o. Shows o.key) os → Shows key) → Shows key
    go true t ih = subst Shows (same_key_is o.key key t) h.0
    go false t ih = ih (grind (arith, t, e)) h.1

offer_shows : (gathered : List Offer) (key : Key) (place : ℕ) → has_offer gathered key place ≡ true → AllOf (λ o. Shows o.key) gathered → Shows key
offer_shows [] key place e h = absurd (cc (e))
offer_shows (o ∷ os) key place e h = go (same_key o.key key) refl (offer_shows os key place)
  where
    go : (b : Bool) → same_key o.key key ≡ b → (has_offer os key place ≡ true → AllOf (λ o. Shows o.key) os → Shows key) → Shows key
    go true t ih = subst Shows (same_key_is o.key key t) h.0
    go false t ih = ih (grind (arith, t, e)) h.1

share_shows : (shares : List ShareRow) (key : Key) (place : ℕ) → is_some (share_here shares key place) ≡ true → AllOf (λ o. Shows o.key) shares → Shows key
share_shows [] key place e h = absurd (cc (e))
share_shows (o ∷ os) key place e h = go (same_key o.key key) refl (share_shows os key place)
  where
    go : (b : Bool) → same_key o.key key ≡ b → (is_some (share_here os key place) ≡ true → AllOf (λ o. Shows o.key) os → Shows key) → Shows key
    go true t ih = subst Shows (same_key_is o.key key t) h.0
    go false t ih = ih (grind (arith, t, e)) h.1

-- a key that is due for its offer is open, and one that may be settled has an offer or a share of its first member

pub due_shows : (a : Agree) (key : Key) → may_offer a key ≡ true → PartShows a → Shows key
due_shows a key e h = go (stage_of a.opened key) refl e
  where
    go : (o : Option Stage) → stage_of a.opened key ≡ o → is_due o ≡ true → Shows key
    go None u d = absurd (cc (d))
    go (Some z) u d = open_shows a.opened key z u h.opened

pub settled_shows : (r : ℕ) (a : Agree) (key : Key) → may_settle r a key ≡ true → PartShows a → Shows key
unfolding may_settle is_ready
settled_shows r a key e h = go (may_settle_offers r a key) refl e
  where
    first : (ms : List ℕ) → is_first r ms ≡ true → list_all (λ p. is_some (share_here a.shares key p)) (range_with_len 0 (length ms)) ≡ true → is_some (share_here a.shares key 0) ≡ true
    first [] f u = absurd (cc (f))
    first (m ∷ ms) f u = grind (arith, u)

    go : (b : Bool) → may_settle_offers r a key ≡ b → (b || may_settle_share r a key) ≡ true → Shows key
    go true u s = offer_shows a.gathered key 0 (grind (arith, u)) h.gathered
    go false u s = share_shows a.shares key 0 (first key.members (grind (arith, s)) (grind (arith, s))) h.shares

-- Rows that change

opens-open : (opened : List CreationRow) (key : Key) (z : Stage) → Shows key → AllOf (λ o. Shows o.key) opened → AllOf (λ o. Shows o.key) (open_creation opened key z)
opens-open opened key z k h = AllOf-append (λ (o : CreationRow). Shows o.key) opened (record { key = key; stage = z } ∷ []) h (k, tt)

opens-set : (opened : List CreationRow) (key : Key) (z : Stage) → AllOf (λ o. Shows o.key) opened → AllOf (λ o. Shows o.key) (set_stage opened key z)
opens-set [] key z h = tt
opens-set (o ∷ os) key z h = (go (same_key o.key key), opens-set os key z h.1)
  where
    row : Bool → CreationRow
    row b = if b then record { key = o.key; stage = z } else o

    go : (b : Bool) → Shows (row b).key
    go true = h.0
    go false = h.0

opens-close : (opened : List CreationRow) (key : Key) → AllOf (λ o. Shows o.key) opened → AllOf (λ o. Shows o.key) (close_creation opened key)
opens-close opened key h = AllOf_filter (λ (o : CreationRow). Shows o.key) (λ o. not (same_key o.key key)) opened h

put : (a : Agree) (key : Key) (place : ℕ) (s : Shared1) → Shows key → AllOf (λ o. Shows o.key) a.shares → AllOf (λ o. Shows o.key) (put_share a key place s).shares
put a key place s k h = AllOf-append (λ (o : ShareRow). Shows o.key) a.shares (record { key = key; place = place; share = s } ∷ []) h (k, tt)

-- Offers

one_shows : (b : Bool) (s : Sent) → Shows (key_of s.packet) → SentShow (if b then s ∷ [] else [])
one_shows true s k = (k, tt)
one_shows false s k = tt

shows-put : (r top : ℕ) (a : Agree) (key : Key) (place : ℕ) (own : Bool) (mask : List Bool) → Shows key → PartShows a → MovedShows (put_offer r top a key place own mask)
unfolding put_offer up_from
shows-put r top a key place own mask k h =
    record {
      part = record {
        opened = h.opened;
        gathered = AllOf-append (λ (o : Offer). Shows o.key) a.gathered (record { key = key; place = place; own = own; mask = mask } ∷ []) h.gathered (k, tt);
        shares = h.shares;
      };
      sent = one_shows _ _ k;
    }

pub shows-begin : (r top : ℕ) (a : Agree) (key : Key) → Shows key → PartShows a → MovedShows (begin r top a key)
unfolding begin
shows-begin r top a key k h = shows-put r top _ key _ _ _ k (record { opened = opens-open a.opened key Called k h.opened; gathered = h.gathered; shares = h.shares })

pub shows-offer : (r top : ℕ) (a : Agree) (key : Key) → PartShows a → MovedShows (make_offer r top a key)
unfolding make_offer
shows-offer r top a key h = go (stage_of a.opened key) refl
  where
    go : (o : Option Stage) → stage_of a.opened key ≡ o → MovedShows (if_waiting r top a key o)
    go None e = still a h
    go (Some (Sharing s)) e = still a h
    go (Some Called) e = still a h
    go (Some (Waiting i)) e =
        shows-put r top _ key _ _ _ (open_shows a.opened key (Waiting i) e h.opened)
        (record { opened = opens-set a.opened key (Offered i (may_own a key)) h.opened; gathered = h.gathered; shares = h.shares })
    go (Some (Offered i own)) e = still a h
    go (Some (Done c)) e = still a h

shows-up : (r top : ℕ) (a : Agree) (from : ℕ) (key : Key) (i : ℕ) (own : Bool) (mask : List Bool) → Shows key → PartShows a → MovedShows (take_up r top a from key i own mask)
unfolding take_up
shows-up r top a from key i own mask k h = go (takes_up r a from key i)
  where
    go : (b : Bool) → MovedShows (if b then put_offer r top a key (place_in key.members from) own mask else stays a)
    go true = shows-put r top a key _ own mask k h
    go false = still a h

-- Verdicts

passed : (key : Key) (i : ℕ) (v : Verdict) (qs : List ℕ) → Shows key → SentShow (map (λ q. record { to = member_at key.members q; packet = Down key i v }) qs)
passed key i v [] k = tt
passed key i v (q ∷ qs) k = (k, passed key i v qs k)

shows-decide : (r : ℕ) (a : Agree) (key : Key) (i : ℕ) (v : Verdict) → Shows key → PartShows a → MovedShows (decide r a key i v)
unfolding decide takes rounds_after pass_down
shows-decide r a key i v k h = record { part = go v; sent = passed key i v (children_of (place_in key.members r) (length key.members)) k }
  where
    kept : AllOf (λ o. Shows o.key) (drop_offers a.gathered key)
    kept = AllOf_filter (λ (o : Offer). Shows o.key) (λ o. not (same_key o.key key)) a.gathered h.gathered

    go : (v : Verdict) → PartShows (takes (rounds_after a key i v) key i v)
    go Ready = record { opened = opens-set a.opened key (Waiting 1) h.opened; gathered = kept; shares = h.shares }
    go Retry = record { opened = opens-set a.opened key (Waiting (i + 1)) h.opened; gathered = kept; shares = h.shares }
    go (Context c) = record { opened = opens-set a.opened key (Done (outcome.Context c)) h.opened; gathered = kept; shares = h.shares }
    go Exhausted = record { opened = opens-set a.opened key (Done outcome.Exhausted) h.opened; gathered = kept; shares = h.shares }

shows-down : (r : ℕ) (a : Agree) (from : ℕ) (key : Key) (i : ℕ) (v : Verdict) → Shows key → PartShows a → MovedShows (take_down r a from key i v)
unfolding take_down
shows-down r a from key i v k h = go (takes_down r a from key i v)
  where
    go : (b : Bool) → MovedShows (if b then decide r a key i v else stays a)
    go true = shows-decide r a key i v k h
    go false = still a h

-- Shares

pub shows-begin_share : (r : ℕ) (a : Agree) (key : Key) (s : Shared1) → Shows key → PartShows a → MovedShows (begin_share r a key s)
unfolding begin_share
shows-begin_share r a key s k h = go (is_first r key.members)
  where
    b : Agree
    b = record a { opened = open_creation a.opened key (Sharing s) }

    opened : AllOf (λ o. Shows o.key) (open_creation a.opened key (Sharing s))
    opened = opens-open a.opened key (Sharing s) k h.opened

    done : Bool → Moved
    done first = if first then record { part = put_share b key 0 s; sent = [] } else record { part = b; sent = record { to = member_at key.members 0; packet = Share key s } ∷ [] }

    go : (first : Bool) → MovedShows (done first)
    go true = record { part = record { opened = opened; gathered = h.gathered; shares = put a key 0 s k h.shares }; sent = tt }
    go false = record { part = record { opened = opened; gathered = h.gathered; shares = h.shares }; sent = (k, tt) }

shows-share : (r : ℕ) (a : Agree) (from : ℕ) (key : Key) (s : Shared1) → Shows key → PartShows a → MovedShows (take_share r a from key s)
unfolding take_share
shows-share r a from key s k h = go (takes_share r a from key)
  where
    done : Bool → Moved
    done b = if b then record { part = put_share a key (place_in key.members from) s; sent = [] } else stays a

    go : (b : Bool) → MovedShows (done b)
    go true = record { part = record { opened = h.opened; gathered = h.gathered; shares = put a key (place_in key.members from) s k h.shares }; sent = tt }
    go false = still a h

-- the key of a class shows all
shows-divide : (r top : ℕ) (a : Agree) (key : Key) (colour : Option ℤ) (list : List Shared1) → PartShows a → MovedShows (divide r top a key colour list)
unfolding divide
shows-divide r top a key None list h = still _ (record { opened = opens-close a.opened key h.opened; gathered = h.gathered; shares = h.shares })
shows-divide r top a key (Some c) list h = shows-begin r top _ (split_key key (Some c) list) refl (record { opened = opens-close a.opened key h.opened; gathered = h.gathered; shares = h.shares })

shows-shares : (r top : ℕ) (a : Agree) (from : ℕ) (key : Key) (list : List Shared1) → PartShows a → MovedShows (take_shares r top a from key list)
unfolding take_shares
shows-shares r top a from key list h = go (takes_shares r a from key list)
  where
    go : (b : Bool) → MovedShows (if b then divide r top a key (colour_at (slice_get list (place_in key.members r))) list else stays a)
    go true = shows-divide r top a key _ list h
    go false = still a h

told : (key : Key) (list : List Shared1) (ms : List ℕ) → Shows key → SentShow (to_others ms (Shares key list))
told key list [] k = tt
told key list (m ∷ ms) k = go ms
  where
    go : (qs : List ℕ) → SentShow (map (λ q. record { to = q; packet = Shares key list }) qs)
    go [] = tt
    go (q ∷ qs) = (k, go qs)

shows-settle_share : (r top : ℕ) (a : Agree) (key : Key) → Shows key → PartShows a → MovedShows (settle_share r top a key)
unfolding settle_share
shows-settle_share r top a key k h =
    let list = share_list a.shares key in
    let after = shows-shares r top (record a { shares = drop_shares a.shares key }) r key list
    (record { opened = h.opened; gathered = h.gathered; shares = AllOf_filter (λ (o : ShareRow). Shows o.key) (λ o. not (same_key o.key key)) a.shares h.shares }) in
    record { part = after.part; sent = AllOf-append (λ (s : Sent). Shows (key_of s.packet)) (to_others key.members (Shares key list)) _ (told key list key.members k) after.sent }

-- Moves of either kind

pub shows-settle : (r top : ℕ) (a : Agree) (key : Key) → Shows key → PartShows a → MovedShows (settle r top a key)
unfolding settle settle_offers
shows-settle r top a key k h = go (is_share key.kind)
  where
    go : (b : Bool) → MovedShows (if b then settle_share r top a key else settle_offers r top a key)
    go true = shows-settle_share r top a key k h
    go false = shows-decide r a key _ _ k h

pub shows-give_back : (a : Agree) (c : ℕ) → PartShows a → PartShows (give_back a c)
unfolding give_back
shows-give_back a c h = record { opened = h.opened; gathered = h.gathered; shares = h.shares }

pub shows-close : (a : Agree) (key : Key) → PartShows a → PartShows (close a key)
unfolding close
shows-close a key h = record { opened = opens-close a.opened key h.opened; gathered = h.gathered; shares = h.shares }

pub shows-deliver : (r top : ℕ) (a : Agree) (from : ℕ) (p : Packet) → Shows (key_of p) → PartShows a → MovedShows (deliver r top a from p)
unfolding deliver
shows-deliver r top a from (Up key i own mask) k h = shows-up r top a from key i own mask k h
shows-deliver r top a from (Down key i v) k h = shows-down r a from key i v k h
shows-deliver r top a from (Share key s) k h = shows-share r a from key s k h
shows-deliver r top a from (Shares key list) k h = shows-shares r top a from key list h
