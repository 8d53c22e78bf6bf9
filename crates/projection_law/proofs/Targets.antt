-- Whatever the agreement sends goes to a member of the packet's key, so to a rank.
use Rattle.std.proofs.Common.{◌≡◌, ◌<◌, ◌&&◌, ℕ, ℤ, zero, suc, Bool, true, false, if◌then◌else◌, List, [], ◌∷◌, map, length, get_or, slice_get, Option, Some, None, arith}
use Rattle.std.specs.Prelude.{nat_lt}
use Rattle.std.specs.List.{list_all}
use Rattle.std.proofs.lemmas.Bool.Decides.{nat_tests}
use Rattle.mpi_base.specs.declared.keys.Key.{Key}
use Rattle.mpi_base.specs.declared.shares.Shared1.{Shared1}
use Rattle.agree_law.specs.declared.rows.Stage.{Stage}
use Rattle.agree_law.specs.declared.rows.Stage.TheVariants.{Sharing, Called, Waiting, Offered, Done}
use Rattle.agree_law.specs.declared.rows.Verdict.{Verdict}
use Rattle.agree_law.specs.Tree.{place_in, member_at, is_first, parent_of, children_of}
use Rattle.agree_law.specs.Part.{Agree, round_of}
use Rattle.agree_law.specs.Packets.{Packet, Up, Down, Share, Shares, Sent, Moved, stays}
use Rattle.agree_law.specs.Kinds.{is_share}
use Rattle.agree_law.specs.Rule.{may_own}
use Rattle.agree_law.specs.Gather.{is_ready, all_own, common_mask}
use Rattle.agree_law.specs.Offers.{up_from, put_offer, begin, if_waiting, make_offer, takes_up, take_up}
use Rattle.agree_law.specs.Verdicts.{pass_down, decide, settle_offers, takes_down, take_down}
use Rattle.agree_law.specs.Shares.{begin_share, takes_share, take_share, divide, takes_shares, take_shares, colour_at, to_others, settle_share}
use Rattle.agree_law.specs.Moves.{settle, deliver}
use Rattle.agree_law.specs.World.{is_key_of}
use Rattle.agree_law.proofs.Lists.{AllOf, AllOf-append}
use Rattle.agree_law.proofs.Links.{key_of}

-- a packet of a key of distinct ranks goes to a rank
abbrev pub GoesBelow : ℕ → Sent → Type 0
GoesBelow n s = is_key_of n (key_of s.packet) ≡ true → 0 < n → s.to < n

item_below : (n : ℕ) (ms : List ℕ) (p : ℕ) → list_all (λ m. nat_lt m n) ms ≡ true → 0 < n → get_or ms p 0 < n
item_below n [] p e pos = pos
item_below n (m ∷ ms) zero e pos = grind (arith, nat_tests, e)
item_below n (m ∷ ms) (suc p) e pos = item_below n ms p (grind (arith, e)) pos

pub member_below : (n : ℕ) (key : Key) (p : ℕ) → is_key_of n key ≡ true → 0 < n → member_at key.members p < n
unfolding is_key_of
member_below n key p e pos = item_below n key.members p (grind (arith, e)) pos

goes-up_from : (n top : ℕ) (a : Agree) (key : Key) (place : ℕ) → AllOf (GoesBelow n) (up_from top a key place)
unfolding up_from
goes-up_from n top a key place = go (nat_lt 0 place && is_ready a.gathered key place)
  where
    go : (b : Bool) → AllOf (GoesBelow n) (if b then record { to = member_at key.members (parent_of place); packet = Up key (round_of a.rounds key) (all_own a.gathered key) (common_mask top a.gathered key) } ∷ [] else [])
    go true = ((λ e pos. member_below n key (parent_of place) e pos), tt)
    go false = tt

goes-put_offer : (n r top : ℕ) (a : Agree) (key : Key) (place : ℕ) (own : Bool) (mask : List Bool) → AllOf (GoesBelow n) (put_offer r top a key place own mask).sent
unfolding put_offer
goes-put_offer n r top a key place own mask = goes-up_from n top _ key (place_in key.members r)

pub goes-begin : (n r top : ℕ) (a : Agree) (key : Key) → AllOf (GoesBelow n) (begin r top a key).sent
unfolding begin
goes-begin n r top a key = goes-put_offer n r top _ key (place_in key.members r) false _

pub goes-offer : (n r top : ℕ) (a : Agree) (key : Key) → AllOf (GoesBelow n) (make_offer r top a key).sent
unfolding make_offer
goes-offer n r top a key = go _
  where
    go : (s : Option Stage) → AllOf (GoesBelow n) (if_waiting r top a key s).sent
    go None = tt
    go (Some (Sharing s)) = tt
    go (Some Called) = tt
    go (Some (Waiting i)) = goes-put_offer n r top _ key (place_in key.members r) (may_own a key) _
    go (Some (Offered i own)) = tt
    go (Some (Done c)) = tt

goes-decide : (n r : ℕ) (a : Agree) (key : Key) (i : ℕ) (v : Verdict) → AllOf (GoesBelow n) (decide r a key i v).sent
unfolding decide pass_down
goes-decide n r a key i v = go (children_of (place_in key.members r) (length key.members))
  where
    go : (qs : List ℕ) → AllOf (GoesBelow n) (map (λ q. record { to = member_at key.members q; packet = Down key i v }) qs)
    go [] = tt
    go (q ∷ qs) = ((λ e pos. member_below n key q e pos), go qs)

goes-up : (n r top : ℕ) (a : Agree) (from : ℕ) (key : Key) (i : ℕ) (own : Bool) (mask : List Bool) → AllOf (GoesBelow n) (take_up r top a from key i own mask).sent
unfolding take_up
goes-up n r top a from key i own mask = go (takes_up r a from key i)
  where
    go : (b : Bool) → AllOf (GoesBelow n) (if b then put_offer r top a key (place_in key.members from) own mask else stays a).sent
    go true = goes-put_offer n r top a key (place_in key.members from) own mask
    go false = tt

goes-down : (n r : ℕ) (a : Agree) (from : ℕ) (key : Key) (i : ℕ) (v : Verdict) → AllOf (GoesBelow n) (take_down r a from key i v).sent
unfolding take_down
goes-down n r a from key i v = go (takes_down r a from key i v)
  where
    go : (b : Bool) → AllOf (GoesBelow n) (if b then decide r a key i v else stays a).sent
    go true = goes-decide n r a key i v
    go false = tt

pub goes-begin_share : (n r : ℕ) (a : Agree) (key : Key) (s : Shared1) → AllOf (GoesBelow n) (begin_share r a key s).sent
unfolding begin_share
goes-begin_share n r a key s = go (is_first r key.members) _ _
  where
    m : Bool → Agree → Agree → Moved
    m b x y = if b then record { part = x; sent = [] } else record { part = y; sent = record { to = member_at key.members 0; packet = Share key s } ∷ [] }

    go : (b : Bool) (x y : Agree) → AllOf (GoesBelow n) (m b x y).sent
    go true x y = tt
    go false x y = ((λ e pos. member_below n key 0 e pos), tt)

goes-take_share : (n r : ℕ) (a : Agree) (from : ℕ) (key : Key) (s : Shared1) → AllOf (GoesBelow n) (take_share r a from key s).sent
unfolding take_share
goes-take_share n r a from key s = go (takes_share r a from key) _
  where
    m : Bool → Agree → Moved
    m b x = if b then record { part = x; sent = [] } else stays a

    go : (b : Bool) (x : Agree) → AllOf (GoesBelow n) (m b x).sent
    go true x = tt
    go false x = tt

goes-divide : (n r top : ℕ) (a : Agree) (key : Key) (c : Option ℤ) (list : List Shared1) → AllOf (GoesBelow n) (divide r top a key c list).sent
unfolding divide
goes-divide n r top a key None list = tt
goes-divide n r top a key (Some c) list = goes-begin n r top _ _

goes-take_shares : (n r top : ℕ) (a : Agree) (from : ℕ) (key : Key) (list : List Shared1) → AllOf (GoesBelow n) (take_shares r top a from key list).sent
unfolding take_shares
goes-take_shares n r top a from key list = go (takes_shares r a from key list)
  where
    go : (b : Bool) → AllOf (GoesBelow n) (if b then divide r top a key (colour_at (slice_get list (place_in key.members r))) list else stays a).sent
    go true = goes-divide n r top a key (colour_at (slice_get list (place_in key.members r))) list
    go false = tt

goes-others : (n : ℕ) (key : Key) (list : List Shared1) → AllOf (GoesBelow n) (to_others key.members (Shares key list))
unfolding is_key_of
goes-others n key list = go key.members (λ e. grind (arith, e))
  where
    each : (ms : List ℕ) → (is_key_of n key ≡ true → list_all (λ m. nat_lt m n) ms ≡ true) → AllOf (GoesBelow n) (map (λ q. record { to = q; packet = Shares key list }) ms)
    each [] f = tt
    each (m ∷ ms) f = ((λ e pos. let g = f e in grind (arith, nat_tests, g)), each ms (λ e. let g = f e in grind (arith, g)))

    go : (ms : List ℕ) → (is_key_of n key ≡ true → list_all (λ m. nat_lt m n) ms ≡ true) → AllOf (GoesBelow n) (to_others ms (Shares key list))
    go [] f = tt
    go (m ∷ ms) f = each ms (λ e. let g = f e in grind (arith, g))

pub goes-settle : (n r top : ℕ) (a : Agree) (key : Key) → AllOf (GoesBelow n) (settle r top a key).sent
unfolding settle settle_share settle_offers
goes-settle n r top a key = go (is_share key.kind)
  where
    go : (b : Bool) → AllOf (GoesBelow n) (if b then settle_share r top a key else settle_offers r top a key).sent
    go true = AllOf-append (GoesBelow n) (to_others key.members (Shares key _)) _ (goes-others n key _) (goes-take_shares n r top _ r key _)
    go false = goes-decide n r a key _ _

pub goes-deliver : (n r top : ℕ) (a : Agree) (from : ℕ) (p : Packet) → AllOf (GoesBelow n) (deliver r top a from p).sent
unfolding deliver
goes-deliver n r top a from (Up key i own mask) = goes-up n r top a from key i own mask
goes-deliver n r top a from (Down key i v) = goes-down n r a from key i v
goes-deliver n r top a from (Share key s) = goes-take_share n r a from key s
goes-deliver n r top a from (Shares key list) = goes-take_shares n r top a from key list
