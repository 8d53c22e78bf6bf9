-- The exchange of a split.
use Rattle.std.proofs.Common.{◌≡◌, ◌≤◌, ◌+◌, ℕ, ℤ, Bool, true, false, List, [], ◌∷◌, ◌++◌, map, slice_get, Option, Some, None, refl, arith}
use Rattle.std.specs.Prelude.{if◌then◌else◌}
use Rattle.mpi_base.specs.declared.keys.Key.{Key}
use Rattle.mpi_law.specs.ScriptLists.{AllScripts}
use Rattle.mpi_base.specs.declared.shares.Shared1.{Shared1}
use Rattle.agree_law.specs.declared.rows.Stage.{Stage}
use Rattle.agree_law.specs.declared.rows.Stage.TheVariants.{Sharing}
use Rattle.agree_law.specs.Tree.{place_in, member_at, is_first}
use Rattle.agree_law.specs.Part.{Agree, stage_of, close_creation, drop_shares}
use Rattle.agree_law.specs.Packets.{Share, Shares, Sent, Moved}
use Rattle.agree_law.specs.Shares.{begin_share, put_share, colour_at, share_list, divide, takes_shares, take_shares, is_own_share, to_others, settle_share}
use Rattle.agree_law.specs.Classes.{split_key}
use Rattle.mpi_protocol.specs.Rank.{Rank}
use Rattle.mpi_protocol.specs.Agreeing.{colour_here, next_key, shares_out}
use Rattle.wayout_law.specs.Potential.{More, stage_cost, row_cost, agree_cost}
use Rattle.wayout_law.proofs.Sums.{sum_of-append}
use Rattle.wayout_law.proofs.Bound.{FewMore}
use Rattle.wayout_law.proofs.Rows.{rows-close}
use Rattle.wayout_law.proofs.AgreeSpends.{agreeing_cost, begin-cost}
use Rattle.wayout_law.proofs.Threads.{threads-key}
use Rattle.wayout_law.proofs.Worlds.{Spends}

-- a split is called
pub begin_share-cost : (n : ℕ) (more : More) (r : ℕ) (a : Agree) (key : Key) (s : Shared1) → agree_cost n more r (begin_share r a key s).part + agreeing_cost (begin_share r a key s).sent ≤ agree_cost n more r a + (n + 11)
unfolding begin_share
begin_share-cost n more r a key s = go (is_first r key.members)
  where
    b : Agree
    b = record a { opened = a.opened ++ record { key = key; stage = Sharing s } ∷ [] }

    begun : Bool → Moved
    begun f = if f then record { part = put_share b key 0 s; sent = [] } else record { part = b; sent = record { to = member_at key.members 0; packet = Share key s } ∷ [] }

    go : (f : Bool) → agree_cost n more r (begun f).part + agreeing_cost (begun f).sent ≤ agree_cost n more r a + (n + 11)
    go true = let e = sum_of-append (row_cost n more a.gathered r) a.opened (record { key = key; stage = Sharing s } ∷ []) in omega (arith, e)
    go false = let e = sum_of-append (row_cost n more a.gathered r) a.opened (record { key = key; stage = Sharing s } ∷ []) in omega (arith, e)

-- who takes the shares shares
sharing : (o : Option Stage) (item : Option Shared1) → is_own_share o item ≡ true → (s : Shared1) × (o ≡ Some (Sharing s))
sharing (Some (Sharing s)) (Some t) e = (s, refl)
sharing o item e = absurd (cc)

taker_shares : (r : ℕ) (a : Agree) (from : ℕ) (key : Key) (list : List Shared1) → takes_shares r a from key list ≡ true → (s : Shared1) × (stage_of a.opened key ≡ Some (Sharing s))
unfolding takes_shares
taker_shares r a from key list e = sharing (stage_of a.opened key) (slice_get list (place_in key.members r)) (grind (arith, e))

divide-cost : (n : ℕ) (more : More) (r top : ℕ) (a : Agree) (key : Key) (c : Option ℤ) (list : List Shared1) (s : Shared1) → FewMore more → stage_of a.opened key ≡ Some (Sharing s)
    → agree_cost n more r (divide r top a key c list).part + agreeing_cost (divide r top a key c list).sent + 1 ≤ agree_cost n more r a
unfolding divide
divide-cost n more r top a key None list s few e = let x = rows-close (stage_cost n more a.gathered r) a.opened key (Sharing s) e in omega (arith, x)
divide-cost n more r top a key (Some c) list s few e =
    let x = rows-close (stage_cost n more a.gathered r) a.opened key (Sharing s) e in
    let y = begin-cost n more r top (record a { opened = close_creation a.opened key }) (split_key key (Some c) list) in
    let z = few (split_key key (Some c) list) 0 in
    omega (arith, x, y, z)

pub shares-cost : (n : ℕ) (more : More) (r top : ℕ) (a : Agree) (from : ℕ) (key : Key) (list : List Shared1) → FewMore more → takes_shares r a from key list ≡ true
    → agree_cost n more r (take_shares r top a from key list).part + agreeing_cost (take_shares r top a from key list).sent + 1 ≤ agree_cost n more r a
unfolding take_shares
shares-cost n more r top a from key list few taken =
    let s = taker_shares r a from key list taken in
    rw taken (divide-cost n more r top a key (colour_at (slice_get list (place_in key.members r))) list s.0 few s.1)

-- at a rank
pub shares_out-cost : (n : ℕ) (more : More) (scripts : AllScripts) (r : ℕ) (x : Rank) (key : Key) (list : List Shared1) (m : Moved)
    → agree_cost n more x.rank m.part + agreeing_cost m.sent + 1 ≤ agree_cost n more x.rank x.agree
    → Spends n more scripts r x None (shares_out x key list m)
shares_out-cost n more scripts r x key list m h = let t = threads-key n scripts r x.threads key (next_key key (colour_here x key list) list) in omega (arith, h, t)

-- a list to each other member costs nothing
others-free : (key : Key) (list : List Shared1) (ms : List ℕ) → agreeing_cost (to_others ms (Shares key list)) ≡ 0
others-free key list [] = refl
others-free key list (m ∷ ms) = each ms
  where
    each : (qs : List ℕ) → agreeing_cost (map (λ q. record { to = q; packet = Shares key list }) qs) ≡ 0
    each [] = refl
    each (q ∷ qs) = let ih = each qs in omega (arith, ih)

agreeing-append : (xs ys : List Sent) → agreeing_cost (xs ++ ys) ≡ agreeing_cost xs + agreeing_cost ys
agreeing-append [] ys = omega arith
agreeing-append (x ∷ xs) ys = let ih = agreeing-append xs ys in omega (arith, ih)

pub settle_share-cost : (n : ℕ) (more : More) (r top : ℕ) (a : Agree) (key : Key) → FewMore more
    → takes_shares r (record a { shares = drop_shares a.shares key }) r key (share_list a.shares key) ≡ true
    → agree_cost n more r (settle_share r top a key).part + agreeing_cost (settle_share r top a key).sent + 1 ≤ agree_cost n more r a
unfolding settle_share
settle_share-cost n more r top a key few taken =
    let m = take_shares r top (record a { shares = drop_shares a.shares key }) r key (share_list a.shares key) in
    let h = shares-cost n more r top (record a { shares = drop_shares a.shares key }) r key (share_list a.shares key) few taken in
    let f = others-free key (share_list a.shares key) key.members in
    let p = agreeing-append (to_others key.members (Shares key (share_list a.shares key))) m.sent in
    omega (arith, h, f, p)
