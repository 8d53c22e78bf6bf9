-- Every step keeps what is kept of exchanges, and each packet of an exchange that comes is taken.
use Rattle.std.proofs.Common.{◌≡◌, ◌≢◌, ◌≤◌, ◌<◌, ◌+◌, ◌==◌, ◌&&◌, not, ℕ, ℤ, zero, suc, Bool, true, false, if◌then◌else◌, List, [], ◌∷◌, ◌++◌, map, length, get_or, set, slice_get, Option, Some, None, refl, sym, subst, ap, ◌∙◌, arith}
use Rattle.std.specs.Prelude.{is_none}
use Rattle.std.specs.Option.{is_some}
use Rattle.std.specs.List.{list_all, range_with_len}
use Rattle.std.proofs.lemmas.Bool.Decides.{nat_tests}
use Rattle.mpi_base.specs.declared.keys.Key.{Key}
use Rattle.mpi_base.specs.Keys.{same_key}
use Rattle.mpi_base.specs.MemberLists.{has_rank, are_distinct}
use Rattle.mpi_base.proofs.KeyFacts.{same_key_is, same_key-refl}
use Rattle.agree_law.specs.declared.rows.CreationRow.{CreationRow}
use Rattle.agree_law.specs.declared.rows.ShareRow.{ShareRow}
use Rattle.mpi_base.specs.declared.shares.Shared1.{Shared1}
use Rattle.agree_law.specs.declared.rows.Stage.{Stage}
use Rattle.agree_law.specs.declared.rows.Stage.TheVariants.{Sharing, Called, Waiting, Offered, Done}
use Rattle.agree_law.specs.Tree.{place_in, member_at, is_first}
use Rattle.agree_law.specs.Part.{Agree, fresh, stage_of, open_creation, close_creation, drop_shares}
use Rattle.agree_law.specs.Packets.{Packet, Share, Shares, Sent, Moved}
use Rattle.agree_law.specs.Kinds.{is_share}
use Rattle.agree_law.specs.Classes.{split_key}
use Rattle.agree_law.specs.Shares.{share_here, share_list, put_share, begin_share, takes_share, take_share, is_own_share, takes_shares, take_shares, divide, colour_at, may_settle_share, to_others, settle_share}
use Rattle.agree_law.specs.World.{Flight, World, part_at, flights_of, moved, is_key_of, has_no_split, head_of, popped}
use Rattle.share_law.specs.Facts.{is_exchange, sharing_of}
use Rattle.agree_law.proofs.Lists.{AllOf, AllOf_at, AllOf_each, set_place, tally, one, tally-without, without}
use Rattle.agree_law.proofs.TreeFacts.{member_place, place_member, place_of_member, same_member, first_place}
use Rattle.agree_law.proofs.RowFacts.{or_else, stage_of-open, stage_of-close}
use Rattle.agree_law.proofs.OnePlace.{Distinct}
use Rattle.agree_law.proofs.Links.{key_of, of_links, of_links-append, of_links-all, of_links-none, TakenAt, flight, of_links-popped}
use Rattle.agree_law.proofs.Kept.{with_links, at_each}
use Rattle.agree_law.proofs.OtherSteps.{append_nil}
use Rattle.agree_law.proofs.Classes.{int_same, colour_refl}
use Rattle.agree_law.proofs.Apart.{none_split}
use Rattle.agree_law.proofs.ShareSteps.{flights_of-append}
use Rattle.share_law.proofs.ShareKept.{rows_of, row_of, share_from, shares_to, ShareFlies, ShareFliesAt, ShareHeld, ShareKept, OtherShares, shares_same, share_call_first, share_call, share_comes, shares_come, list_of, here_held, fan, share_settles}
use Rattle.share_law.proofs.Foreign.{said_at, first_rows, ShareHolds, flights-all, rows_of-append, rows_of-drop, foreign-begin}

pub distinct_members : (n : ℕ) (key : Key) → is_exchange n key ≡ true → are_distinct key.members ≡ true
unfolding is_key_of
distinct_members n key e = grind (arith, e)

pub Distinct_members : (n : ℕ) (key : Key) → is_exchange n key ≡ true → Distinct (length key.members) (member_at key.members)
Distinct_members n key e = λ p q lp lq. same_member key.members p q (distinct_members n key e) lp lq

-- the member that changes, and the others
said_here : (parts : List Agree) (key : Key) (r : ℕ) (b : Agree) → r < length parts → has_rank key.members r ≡ true → said_at (set parts r b) key (place_in key.members r) ≡ sharing_of (stage_of b.opened key)
said_here parts key r b lt e =
    let is = (member_place key.members r e).1 in
    let at = set_place parts r b (fresh 0) r in
    let here : get_or (set parts r b) r (fresh 0) ≡ b = grind (arith, at, lt) in
    rw is (ap (λ (a : Agree). sharing_of (stage_of a.opened key)) here)

said_was : (w : World) (key : Key) (r : ℕ) → has_rank key.members r ≡ true → said_at w.parts key (place_in key.members r) ≡ sharing_of (stage_of (part_at w r).opened key)
said_was w key r e = ap (λ z. sharing_of (stage_of (part_at w z).opened key)) (member_place key.members r e).1

said_others : (n : ℕ) (parts : List Agree) (key : Key) (r : ℕ) (b : Agree) → is_exchange n key ≡ true → has_rank key.members r ≡ true → OtherShares (length key.members) (said_at parts key) (said_at (set parts r b) key) (place_in key.members r)
said_others n parts key r b good e q lt ne =
    let there = place_of_member key.members q (distinct_members n key good) lt in
    let far : member_at key.members q ≢ r = λ s. ne (sym there ∙ ap (place_in key.members) s) in
    let at = set_place parts r b (fresh 0) (member_at key.members q) in
    let same : get_or (set parts r b) (member_at key.members q) (fresh 0) ≡ get_or parts (member_at key.members q) (fresh 0) = grind (arith, at, far) in
    ap (λ (a : Agree). sharing_of (stage_of a.opened key)) same

first_at : (ms : List ℕ) (r : ℕ) → is_first r ms ≡ true → member_at ms 0 ≡ r
first_at [] r e = absurd (cc)
first_at (m ∷ ms) r e = grind (arith, nat_tests, e)

first_is : (ms : List ℕ) (r : ℕ) → 0 < length ms → member_at ms 0 ≡ r → is_first r ms ≡ true
first_is [] r lt e = absurd (omega arith)
first_is (m ∷ ms) r lt e = grind (arith, nat_tests, e)

rows_here : (parts : List Agree) (key : Key) (r : ℕ) (b : Agree) → r < length parts → member_at key.members 0 ≡ r → first_rows (set parts r b) key ≡ rows_of b.shares key
rows_here parts key r b lt is =
    let at = set_place parts r b (fresh 0) r in
    let here : get_or (set parts r b) r (fresh 0) ≡ b = grind (arith, at, lt) in
    rw is (ap (λ (a : Agree). rows_of a.shares key) here)

rows_same : (parts : List Agree) (key : Key) (r : ℕ) (b : Agree) → rows_of b.shares key ≡ rows_of (get_or parts r (fresh 0)).shares key → first_rows (set parts r b) key ≡ first_rows parts key
rows_same parts key r b e = at_each (λ z a. rows_of a.shares key ≡ rows_of (get_or parts z (fresh 0)).shares key) parts r b e (λ z. refl) (member_at key.members 0)

-- A call

said_open : (xs : List CreationRow) (key : Key) (s : Shared1) → is_some (stage_of xs key) ≡ false → (sharing_of (stage_of (open_creation xs key (Sharing s)) key) ≡ Some s) × (sharing_of (stage_of xs key) ≡ None)
said_open xs key s none = go (stage_of xs key) none (stage_of-open xs key (Sharing s) key)
  where
    go : (o : Option Stage) → is_some o ≡ false → stage_of (open_creation xs key (Sharing s)) key ≡ or_else o (if same_key key key then Some (Sharing s) else None) → (sharing_of (stage_of (open_creation xs key (Sharing s)) key) ≡ Some s) × (sharing_of o ≡ None)
    go None n e = (let x : (if same_key key key then Some (Sharing s) else None) ≡ Some (Sharing s) = rw (same_key-refl key) refl in ap sharing_of (e ∙ x), refl)
    go (Some x) n e = absurd (cc)

pub share-begins : (w : World) (r : ℕ) (key : Key) (s : Shared1) → r < length w.parts → is_exchange (length w.parts) key ≡ true → has_rank key.members r ≡ true → has_no_split (part_at w r).opened key ≡ true → ShareHolds w.parts w.links key
    → ShareHolds (moved w r (begin_share r (part_at w r) key s)).parts (moved w r (begin_share r (part_at w r) key s)).links key
unfolding moved begin_share
share-begins w r key s lt good member free h = go (is_first r key.members) refl
  where
    a : Agree
    a = part_at w r

    b : Agree
    b = record (part_at w r) { opened = open_creation (part_at w r).opened key (Sharing s) }

    m : Bool → Moved
    m c = if c then record { part = put_share b key 0 s; sent = [] } else record { part = b; sent = record { to = member_at key.members 0; packet = Share key s } ∷ [] }

    go : (c : Bool) → is_first r key.members ≡ c → ShareHolds (set w.parts r (m c).part) (w.links ++ flights_of r (m c).sent) key
    go true first =
        let n = length key.members in
        let o : ShareRow = record { key = key; place = 0; share = s } in
        let c : Agree = put_share b key 0 s in
        let f = first_place key.members r first in
        let at = first_at key.members r first in
        let none = none_split a.opened key free key (grind (arith, good)) refl refl in
        let x = said_open a.opened key s none in
        let rows : first_rows (set w.parts r c) key ≡ first_rows w.parts key ++ o ∷ [] =
        rows_here w.parts key r c lt at ∙ rows_of-append a.shares o key ∙ (rw (same_key-refl key) refl) ∙ ap (λ z. rows_of (part_at w z).shares key ++ o ∷ []) (sym at) in
        let z = f.0 in
        let others : OtherShares n (said_at w.parts key) (said_at (set w.parts r c) key) 0 = subst (λ p. OtherShares n (said_at w.parts key) (said_at (set w.parts r c) key) p) z (said_others (length w.parts) w.parts key r c good member) in
        let was : said_at w.parts key 0 ≡ None = subst (λ p. said_at w.parts key p ≡ None) z (said_was w key r member ∙ x.1) in
        let now : said_at (set w.parts r c) key 0 ≡ Some s = subst (λ p. said_at (set w.parts r c) key p ≡ Some s) z (said_here w.parts key r c lt member ∙ x.0) in
        let all = share_call_first n (member_at key.members) (said_at w.parts key) (said_at (set w.parts r c) key) (first_rows w.parts key) (of_links w.links key) o f.2 h others was now refl in
        rw (append_nil w.links) (subst (λ y. ShareKept n (member_at key.members) (said_at (set w.parts r c) key) y (of_links w.links key)) (sym rows) all)
    go false first =
        let n = length key.members in
        let p = place_in key.members r in
        let pl = member_place key.members r member in
        let none = none_split a.opened key free key (grind (arith, good)) refl refl in
        let x = said_open a.opened key s none in
        let inside = pl.0 in
        let pos : 0 < p = above p inside pl.1 (p == 0) refl first in
        let rows : first_rows (set w.parts r b) key ≡ first_rows w.parts key = rows_same w.parts key r b refl in
        let all = share_call n (member_at key.members) (said_at w.parts key) (said_at (set w.parts r b) key) (first_rows w.parts key) (of_links w.links key) p key s (Distinct_members (length w.parts) key good) pos pl.0 h
        (said_others (length w.parts) w.parts key r b good member) (said_was w key r member ∙ x.1) (said_here w.parts key r b lt member ∙ x.0) in
        let f : Flight = record { from = r; to = member_at key.members 0; packet = Share key s } in
        let links : of_links (w.links ++ f ∷ []) key ≡ of_links w.links key ++ f ∷ [] = of_links-append w.links (f ∷ []) key ∙ (rw (same_key-refl key) refl) in
        let all2 : ShareKept n (member_at key.members) (said_at (set w.parts r b) key) (first_rows w.parts key) (of_links w.links key ++ f ∷ []) =
        subst (λ z. ShareKept n (member_at key.members) (said_at (set w.parts r b) key) (first_rows w.parts key) (of_links w.links key ++ record { from = z; to = member_at key.members 0; packet = Share key s } ∷ [])) pl.1 all in
        rw (links, rows) all2
      where
        above : (p : ℕ) → p < length key.members → member_at key.members p ≡ r → (c : Bool) → (p == 0) ≡ c → is_first r key.members ≡ false → 0 < p
        above p inside e false t f = (let ne : p ≢ 0 = grind (arith, nat_tests, t) in omega (arith, ne))
        above p inside e true t f =
            let is : p ≡ 0 = grind (arith, nat_tests, t) in
            absurd (let y = first_is key.members r (omega (arith, inside)) (subst (λ z. member_at key.members z ≡ r) is e) in cc)

-- A share comes

pub record ShareCame (w : World) (from r : ℕ) (key : Key) (p : Packet) : Type 0 where
  pub taken : TakenAt (of_links w.links key) (of_links (popped w.links from r) key) (flight from r p)
  pub flies : ShareFlies (length key.members) (member_at key.members) (said_at w.parts key) from r p

pub share_came : (w : World) (from r : ℕ) (key : Key) (p : Packet) → head_of w.links from r ≡ Some p → key_of p ≡ key → ShareHolds w.parts w.links key → ShareCame w from r key p
share_came w from r key p e k h =
    let t = of_links-popped w.links from r p key e (rw k (same_key-refl key)) in
    record { taken = t; flies = AllOf_at (ShareFliesAt (length key.members) (member_at key.members) (said_at w.parts key)) (of_links w.links key) t.place (flight from r p) t.there h.flown }

none_here : (xs : List ShareRow) (key : Key) (p : ℕ) → tally (row_of p) (rows_of xs key) ≡ 0 → is_none (share_here xs key p) ≡ true
none_here [] key p e = refl
none_here (x ∷ xs) key p e = go (same_key x.key key) (x.place == p) refl e (none_here xs key p)
  where
    go : (a b : Bool) → (x.place == p) ≡ b → tally (row_of p) (if a then x ∷ rows_of xs key else rows_of xs key) ≡ 0 → (tally (row_of p) (rows_of xs key) ≡ 0 → is_none (share_here xs key p) ≡ true) → is_none (if a && b then Some x.share else share_here xs key p) ≡ true
    go true true f e ih = absurd (let u : one (x.place == p) ≡ 1 = rw f refl in omega (arith, e, u))
    go true false f e ih = ih (omega (arith, e))
    go false b f e ih = ih e

pub share-taken : (w : World) (from r : ℕ) (key : Key) (s : Shared1) → is_exchange (length w.parts) key ≡ true → head_of w.links from r ≡ Some (Share key s) → ShareHolds w.parts w.links key → takes_share r (part_at w r) from key ≡ true
unfolding takes_share
share-taken w from r key s good head h =
    let c = share_came w from r key (Share key s) head refl h in
    let p = c.flies.0 in
    let ray = c.flies.1 in
    let low = ray.low in
    let high = ray.high in
    let inside = ray.inside in
    let pos = ray.above in
    let m = member_at key.members in
    let d = distinct_members (length w.parts) key good in
    let place : place_in key.members from ≡ p = ap (place_in key.members) low ∙ place_of_member key.members p d inside in
    let share : is_share key.kind ≡ true = grind (arith, good) in
    let first = first_is key.members r (omega (arith, inside)) (sym high) in
    let member : has_rank key.members from ≡ true = subst (λ z. has_rank key.members z ≡ true) (sym low) (place_member key.members p inside) in
    let same = same_member key.members p 0 d inside (omega (arith, inside)) in
    let far : not (from == r) ≡ true = (let x : (from == r) ≡ (p == 0) = ap (λ z. z == r) low ∙ ap (λ z. m p == z) high ∙ same in let y : (p == 0) ≡ false = grind (arith, nat_tests, pos) in rw (x, y) refl) in
    let t = h.token p inside in
    let gone = tally-without (share_from (m p)) (of_links w.links key) c.taken.place (flight from r (Share key s)) c.taken.there in
    let is : (from == m p) ≡ true = grind (arith, nat_tests, low) in
    let u : one (from == m p) ≡ 1 = rw is refl in
    let none : tally (row_of p) (first_rows w.parts key) ≡ 0 = omega (arith, t, gone, u) in
    let none_r : tally (row_of p) (rows_of (part_at w r).shares key) ≡ 0 = subst (λ z. tally (row_of p) (rows_of (part_at w z).shares key) ≡ 0) (sym high) none in
    let here : is_none (share_here (part_at w r).shares key (place_in key.members from)) ≡ true = rw place (none_here (part_at w r).shares key p none_r) in
    rw (share, first, member, far, here) refl

pub share-comes : (w : World) (from r : ℕ) (key : Key) (s : Shared1) → r < length w.parts → is_exchange (length w.parts) key ≡ true → head_of w.links from r ≡ Some (Share key s) → ShareHolds w.parts w.links key
    → ShareHolds (moved (with_links w (popped w.links from r)) r (take_share r (part_at w r) from key s)).parts (moved (with_links w (popped w.links from r)) r (take_share r (part_at w r) from key s)).links key
unfolding moved take_share
share-comes w from r key s lt good head h = rw (share-taken w from r key s good head h) taken
  where
    b : Agree
    b = put_share (part_at w r) key (place_in key.members from) s

    taken : ShareHolds (set w.parts r b) (popped w.links from r ++ flights_of r []) key
    taken =
        let c = share_came w from r key (Share key s) head refl h in
        let p = c.flies.0 in
        let ray = c.flies.1 in
        let low = ray.low in
        let high = ray.high in
        let inside = ray.inside in
        let n = length key.members in
        let m = member_at key.members in
        let d = distinct_members (length w.parts) key good in
        let place : place_in key.members from ≡ p = ap (place_in key.members) low ∙ place_of_member key.members p d inside in
        let o : ShareRow = record { key = key; place = place_in key.members from; share = s } in
        let rows : first_rows (set w.parts r b) key ≡ first_rows w.parts key ++ o ∷ [] =
        rows_here w.parts key r b lt (sym high) ∙ rows_of-append (part_at w r).shares o key ∙ (rw (same_key-refl key) refl) ∙ ap (λ z. rows_of (part_at w z).shares key ++ o ∷ []) high in
        let same : (q : ℕ) → said_at (set w.parts r b) key q ≡ said_at w.parts key q = λ q. at_each (λ z a. sharing_of (stage_of a.opened key) ≡ sharing_of (stage_of (get_or w.parts z (fresh 0)).opened key)) w.parts r b refl (λ z. refl) (m q) in
        let there : slice_get (of_links w.links key) c.taken.place ≡ Some (record { from = m p; to = m 0; packet = Share key s }) = c.taken.there ∙ ap (λ z. Some (flight z r (Share key s))) low ∙ ap (λ z. Some (flight (m p) z (Share key s))) high in
        let all = share_comes n m (said_at w.parts key) (first_rows w.parts key) (of_links w.links key) c.taken.place p key s o (Distinct_members (length w.parts) key good) h inside c.flies.2 there place refl in
        let rest = c.taken.rest in
        let moved_all : ShareKept n m (said_at (set w.parts r b) key) (first_rows w.parts key ++ o ∷ []) (without (of_links w.links key) c.taken.place) = shares_same n m (said_at w.parts key) (said_at (set w.parts r b) key) (first_rows w.parts key ++ o ∷ []) (without (of_links w.links key) c.taken.place) same all in
        let linked : ShareKept n m (said_at (set w.parts r b) key) (first_rows w.parts key ++ o ∷ []) (of_links (popped w.links from r) key) = subst (λ z. ShareKept n m (said_at (set w.parts r b) key) (first_rows w.parts key ++ o ∷ []) z) (sym rest) moved_all in
        rw (append_nil (popped w.links from r)) (subst (λ y. ShareKept n m (said_at (set w.parts r b) key) y (of_links (popped w.links from r) key)) (sym rows) linked)

-- The exchange is closed at a member

pub record Divided (a : Agree) (m : Moved) (key : Key) : Type 0 where
  pub said : sharing_of (stage_of m.part.opened key) ≡ None
  pub rows : rows_of m.part.shares key ≡ rows_of a.shares key
  pub sent : AllOf (λ (s : Sent). same_key (key_of s.packet) key ≡ false) m.sent

pub split_apart : (key : Key) (d : Option ℤ) (list : List Shared1) (k : Key) → is_share k.kind ≡ true → same_key (split_key key d list) k ≡ false
split_apart key d list k e = go (same_key (split_key key d list) k) refl
  where
    go : (b : Bool) → same_key (split_key key d list) k ≡ b → same_key (split_key key d list) k ≡ false
    go false s = s
    go true s = absurd (let is = same_key_is (split_key key d list) k s in let z : is_share (split_key key d list).kind ≡ true = ap (λ (y : Key). is_share y.kind) is ∙ e in cc)

divided : (r top : ℕ) (a : Agree) (key : Key) (c : Option ℤ) (list : List Shared1) → is_share key.kind ≡ true → Divided a (divide r top a key c list) key
unfolding divide
divided r top a key None list e =
    let gone : (if same_key key key then None else stage_of a.opened key) ≡ None = rw (same_key-refl key) refl in
    record { said = ap sharing_of (stage_of-close a.opened key key ∙ gone); rows = refl; sent = tt }
divided r top a key (Some c) list e =
    let x = foreign-begin r top (record a { opened = close_creation a.opened key }) (split_key key (Some c) list) key (split_apart key (Some c) list key e) in
    let y : (if same_key key key then None else stage_of a.opened key) ≡ None = rw (same_key-refl key) refl in
    record { said = x.said ∙ ap sharing_of (stage_of-close a.opened key key ∙ y); rows = x.rows; sent = x.sent }

own_share : (o : Option Stage) (t : Option Shared1) (s : Shared1) → sharing_of o ≡ Some s → t ≡ Some s → is_own_share o t ≡ true
own_share None t s e f = absurd (cc)
own_share (Some Called) t s e f = absurd (cc)
own_share (Some (Waiting i)) t s e f = absurd (cc)
own_share (Some (Offered i own)) t s e f = absurd (cc)
own_share (Some (Done c)) t s e f = absurd (cc)
own_share (Some (Sharing x)) None s e f = absurd (cc)
own_share (Some (Sharing x)) (Some y) s e f =
    let a : x ≡ s = cc in
    let b : y ≡ s = cc in
    let c = colour_refl s.colour in
    let d = int_same s.key in
    rw (a, b, c, d) refl

some_said : (o : Option Shared1) → one (is_none o) ≡ 0 → (s : Shared1) × (o ≡ Some s)
some_said None e = absurd (omega (arith, e))
some_said (Some s) e = (s, refl)

pub shares-taken : (w : World) (from r : ℕ) (key : Key) (ss : List Shared1) → is_exchange (length w.parts) key ≡ true → head_of w.links from r ≡ Some (Shares key ss) → ShareHolds w.parts w.links key → takes_shares r (part_at w r) from key ss ≡ true
unfolding takes_shares
shares-taken w from r key ss good head h =
    let c = share_came w from r key (Shares key ss) head refl h in
    let p = c.flies.0 in
    let ray = c.flies.1 in
    let low = ray.low in
    let high = ray.high in
    let inside = ray.inside in
    let m = member_at key.members in
    let d = distinct_members (length w.parts) key good in
    let place : place_in key.members r ≡ p = ap (place_in key.members) low ∙ place_of_member key.members p d inside in
    let share : is_share key.kind ≡ true = grind (arith, good) in
    let first = first_is key.members from (omega (arith, inside)) (sym high) in
    let member : has_rank key.members r ≡ true = subst (λ z. has_rank key.members z ≡ true) (sym low) (place_member key.members p inside) in
    let long = c.flies.2 in
    let size : (length ss == length key.members) ≡ true = grind (arith, nat_tests, long) in
    let t = h.token p inside in
    let gone = tally-without (shares_to (m p)) (of_links w.links key) c.taken.place (flight from r (Shares key ss)) c.taken.there in
    let is : (r == m p) ≡ true = grind (arith, nat_tests, low) in
    let u : one (r == m p) ≡ 1 = rw is refl in
    let s = some_said (said_at w.parts key p) (omega (arith, t, gone, u)) in
    let stage : sharing_of (stage_of (part_at w r).opened key) ≡ Some s.0 = ap (λ z. sharing_of (stage_of (part_at w z).opened key)) low ∙ s.1 in
    let item : slice_get ss (place_in key.members r) ≡ Some s.0 = ap (λ z. slice_get ss z) place ∙ c.flies.3 ∙ s.1 in
    let own = own_share (stage_of (part_at w r).opened key) (slice_get ss (place_in key.members r)) s.0 stage item in
    rw (share, first, member, size, own) refl

pub shares-comes : (top : ℕ) (w : World) (from r : ℕ) (key : Key) (ss : List Shared1) → r < length w.parts → is_exchange (length w.parts) key ≡ true → head_of w.links from r ≡ Some (Shares key ss) → ShareHolds w.parts w.links key
    → ShareHolds (moved (with_links w (popped w.links from r)) r (take_shares r top (part_at w r) from key ss)).parts (moved (with_links w (popped w.links from r)) r (take_shares r top (part_at w r) from key ss)).links key
unfolding moved take_shares
shares-comes top w from r key ss lt good head h = rw (shares-taken w from r key ss good head h) (taken (colour_at (slice_get ss (place_in key.members r))))
  where
    taken : (col : Option ℤ) → ShareHolds (set w.parts r (divide r top (part_at w r) key col ss).part) (popped w.links from r ++ flights_of r (divide r top (part_at w r) key col ss).sent) key
    taken col =
        let step : Moved = divide r top (part_at w r) key col ss in
        let b : Agree = step.part in
        let divide_gives = divided r top (part_at w r) key col ss (grind (arith, good)) in
        let c = share_came w from r key (Shares key ss) head refl h in
        let p = c.flies.0 in
        let ray = c.flies.1 in
        let low = ray.low in
        let high = ray.high in
        let inside = ray.inside in
        let n = length key.members in
        let m = member_at key.members in
        let d = distinct_members (length w.parts) key good in
        let place : place_in key.members r ≡ p = ap (place_in key.members) low ∙ place_of_member key.members p d inside in
        let member : has_rank key.members r ≡ true = subst (λ z. has_rank key.members z ≡ true) (sym low) (place_member key.members p inside) in
        let rows : first_rows (set w.parts r b) key ≡ first_rows w.parts key = rows_same w.parts key r b divide_gives.rows in
        let others : OtherShares n (said_at w.parts key) (said_at (set w.parts r b) key) p = subst (λ z. OtherShares n (said_at w.parts key) (said_at (set w.parts r b) key) z) place (said_others (length w.parts) w.parts key r b good member) in
        let now : said_at (set w.parts r b) key p ≡ None = subst (λ z. said_at (set w.parts r b) key z ≡ None) place (said_here w.parts key r b lt member ∙ divide_gives.said) in
        let there : slice_get (of_links w.links key) c.taken.place ≡ Some (record { from = m 0; to = m p; packet = Shares key ss }) = c.taken.there ∙ ap (λ z. Some (flight z r (Shares key ss))) high ∙ ap (λ z. Some (flight (m 0) z (Shares key ss))) low in
        let all = shares_come n m (said_at w.parts key) (said_at (set w.parts r b) key) (first_rows w.parts key) (of_links w.links key) c.taken.place p key ss (Distinct_members (length w.parts) key good) h inside others now there in
        let links : of_links (popped w.links from r ++ flights_of r step.sent) key ≡ without (of_links w.links key) c.taken.place =
        of_links-append (popped w.links from r) (flights_of r step.sent) key
        ∙ ap (λ z. of_links (popped w.links from r) key ++ z) (of_links-none (flights_of r step.sent) key (flights-all (λ p. same_key (key_of p) key ≡ false) r step.sent divide_gives.sent))
        ∙ append_nil (of_links (popped w.links from r) key) ∙ c.taken.rest in
        subst (λ z. ShareKept n m (said_at (set w.parts r b) key) (first_rows (set w.parts r b) key) z) (sym links) (subst (λ z. ShareKept n m (said_at (set w.parts r b) key) z (without (of_links w.links key) c.taken.place)) (sym rows) all)

-- The first member settles

rest_of : List ℕ → List ℕ
rest_of [] = []
rest_of (m ∷ ms) = ms

tally_rank : (ms : List ℕ) (r : ℕ) → are_distinct ms ≡ true → tally (λ z. z == r) ms ≡ one (has_rank ms r)
tally_rank [] r d = refl
tally_rank (m ∷ ms) r d = let ih = tally_rank ms r (grind (arith, d)) in grind (arith, nat_tests, ih, d)

rest_count : (ms : List ℕ) (q : ℕ) → are_distinct ms ≡ true → q < length ms → tally (λ z. z == member_at ms q) (rest_of ms) + one (q == 0) ≡ 1
unfolding rest_of
rest_count [] q d lt = absurd (omega arith)
rest_count (m ∷ ms) q d lt =
    let t = tally_rank (m ∷ ms) (member_at (m ∷ ms) q) d in
    let h = place_member (m ∷ ms) q lt in
    let u : one (has_rank (m ∷ ms) (member_at (m ∷ ms) q)) ≡ 1 = rw h refl in
    let s = same_member (m ∷ ms) 0 q d (omega arith) lt in
    let v = ap one s in
    let w : one (0 == q) ≡ one (q == 0) = flip q in
    omega (arith, t, u, v, w)
  where
    flip : (q : ℕ) → one (0 == q) ≡ one (q == 0)
    flip q = grind (arith, nat_tests)

each_place : (ms : List ℕ) → AllOf (λ z. (q : ℕ) × (q < length ms) × (z ≡ member_at ms q)) ms
each_place [] = tt
each_place (m ∷ ms) = ((0, omega arith, refl), AllOf_each _ _ ms (λ z h. let x = h.1 in (suc h.0, omega (arith, x), h.2)) (each_place ms))

rest_places : (ms : List ℕ) → AllOf (λ z. (q : ℕ) × (0 < q) × (q < length ms) × (z ≡ member_at ms q)) (rest_of ms)
unfolding rest_of
rest_places [] = tt
rest_places (m ∷ ms) = AllOf_each _ _ ms (λ z h. let x = h.1 in (suc h.0, omega arith, omega (arith, x), h.2)) (each_place ms)

others_are : (r : ℕ) (key : Key) (ss : List Shared1) (ms : List ℕ) → flights_of r (to_others ms (Shares key ss)) ≡ fan r key ss (rest_of ms)
unfolding rest_of
others_are r key ss [] = refl
others_are r key ss (m ∷ ms) = go ms
  where
    go : (ms : List ℕ) → flights_of r (map (λ q. record { to = q; packet = Shares key ss }) ms) ≡ fan r key ss ms
    go [] = refl
    go (m ∷ ms) = ap (λ z. record { from = r; to = m; packet = Shares key ss } ∷ z) (go ms)

fan_keys : (r : ℕ) (key : Key) (ss : List Shared1) (ms : List ℕ) → AllOf (λ (f : Flight). same_key (key_of f.packet) key ≡ true) (fan r key ss ms)
fan_keys r key ss [] = tt
fan_keys r key ss (m ∷ ms) = (same_key-refl key, fan_keys r key ss ms)

range_at : (p : ℕ → Bool) (a n i : ℕ) → list_all p (range_with_len a n) ≡ true → a ≤ i → i < a + n → p i ≡ true
range_at p a zero i h lo hi = absurd (omega arith)
range_at p a (suc n) i h lo hi = go (a == i) refl (range_at p (a + 1) n i)
  where
    go : (b : Bool) → (a == i) ≡ b → (list_all p (range_with_len (a + 1) n) ≡ true → a + 1 ≤ i → i < a + 1 + n → p i ≡ true) → p i ≡ true
    go true e ih = let is : a ≡ i = grind (arith, nat_tests, e) in subst (λ (j : ℕ). p j ≡ true) is (grind (arith, h))
    go false e ih = let ne : a ≢ i = grind (arith, nat_tests, e) in ih (grind (arith, h)) (omega (arith, ne)) (omega arith)

-- what the first member has at a settle
pub record AllThere (w : World) (r : ℕ) (key : Key) : Type 0 where
  pub at : member_at key.members 0 ≡ r
  pub member : has_rank key.members r ≡ true
  pub place : place_in key.members r ≡ 0
  pub some : 0 < length key.members
  pub present : (q : ℕ) → q < length key.members → 1 ≤ tally (row_of q) (first_rows w.parts key)
  pub long : length (share_list (part_at w r).shares key) ≡ length key.members
  pub items : (q : ℕ) → q < length key.members → slice_get (share_list (part_at w r).shares key) q ≡ said_at w.parts key q

pub all_there : (w : World) (r : ℕ) (key : Key) → may_settle_share r (part_at w r) key ≡ true → ShareHolds w.parts w.links key → AllThere w r key
unfolding share_list
all_there w r key may h =
    let first : is_first r key.members ≡ true = grind (arith, may) in
    let f = first_place key.members r first in
    let at = first_at key.members r first in
    let n = length key.members in
    let xs = (part_at w r).shares in
    let all : list_all (λ p. is_some (share_here xs key p)) (range_with_len 0 n) ≡ true = grind (arith, may) in
    let held : AllOf (ShareHeld n (said_at w.parts key)) (rows_of xs key) = subst (λ z. AllOf (ShareHeld n (said_at w.parts key)) (rows_of (part_at w z).shares key)) at h.held in
    let l = list_of xs key 0 n (λ i lo hi. range_at (λ p. is_some (share_here xs key p)) 0 n i all lo hi) in
    let here : (q : ℕ) → q < n → (share_here xs key q ≡ said_at w.parts key q) × (1 ≤ tally (row_of q) (rows_of xs key)) = λ q lt. here_held n (said_at w.parts key) xs key q (range_at (λ p. is_some (share_here xs key p)) 0 n q all (omega arith) (omega (arith, lt))) held in
    record {
      at = at;
      member = f.1;
      place = f.0;
      some = f.2;
      present = λ q lt. subst (λ z. 1 ≤ tally (row_of q) (rows_of (part_at w z).shares key)) (sym at) (here q lt).1;
      long = l.long;
      items = λ q lt. l.each q lt ∙ ap (share_here xs key) (omega arith) ∙ (here q lt).0;
    }

settle-taken : (w : World) (r : ℕ) (key : Key) → is_exchange (length w.parts) key ≡ true → may_settle_share r (part_at w r) key ≡ true → ShareHolds w.parts w.links key → takes_shares r (record (part_at w r) { shares = drop_shares (part_at w r).shares key }) r key (share_list (part_at w r).shares key) ≡ true
unfolding takes_shares
settle-taken w r key good may h =
    let a = all_there w r key may h in
    let share : is_share key.kind ≡ true = grind (arith, good) in
    let first : is_first r key.members ≡ true = grind (arith, may) in
    let member = a.member in
    let long = a.long in
    let size : (length (share_list (part_at w r).shares key) == length key.members) ≡ true = grind (arith, nat_tests, long) in
    let t = h.token 0 a.some in
    let told = a.present 0 a.some in
    let s = some_said (said_at w.parts key 0) (omega (arith, t, told)) in
    let stage : sharing_of (stage_of (part_at w r).opened key) ≡ Some s.0 = ap (λ z. sharing_of (stage_of (part_at w z).opened key)) (sym a.at) ∙ s.1 in
    let item : slice_get (share_list (part_at w r).shares key) (place_in key.members r) ≡ Some s.0 = ap (λ z. slice_get (share_list (part_at w r).shares key) z) a.place ∙ a.items 0 a.some ∙ s.1 in
    let own = own_share (stage_of (part_at w r).opened key) (slice_get (share_list (part_at w r).shares key) (place_in key.members r)) s.0 stage item in
    rw (share, first, member, size, own) refl

pub share-settles : (top : ℕ) (w : World) (r : ℕ) (key : Key) → r < length w.parts → is_exchange (length w.parts) key ≡ true → may_settle_share r (part_at w r) key ≡ true → ShareHolds w.parts w.links key
    → ShareHolds (moved w r (settle_share r top (part_at w r) key)).parts (moved w r (settle_share r top (part_at w r) key)).links key
unfolding moved settle_share take_shares
share-settles top w r key lt good may h = rw (settle-taken w r key good may h) (settled (colour_at (slice_get list (place_in key.members r))))
  where
    list : List Shared1
    list = share_list (part_at w r).shares key

    a : Agree
    a = record (part_at w r) { shares = drop_shares (part_at w r).shares key }

    settled : (col : Option ℤ) → ShareHolds (set w.parts r (divide r top a key col list).part) (w.links ++ flights_of r (to_others key.members (Shares key list) ++ (divide r top a key col list).sent)) key
    settled col =
        let step : Moved = divide r top a key col list in
        let b : Agree = step.part in
        let divide_gives = divided r top a key col list (grind (arith, good)) in
        let t = all_there w r key may h in
        let n = length key.members in
        let m = member_at key.members in
        let d = distinct_members (length w.parts) key good in
        let rest = rest_of key.members in
        let dropped : rows_of (drop_shares (part_at w r).shares key) key ≡ [] = rows_of-drop (part_at w r).shares key key ∙ (rw (same_key-refl key) refl) in
        let rows : first_rows (set w.parts r b) key ≡ [] = rows_here w.parts key r b lt t.at ∙ divide_gives.rows ∙ dropped in
        let z = t.place in
        let others : OtherShares n (said_at w.parts key) (said_at (set w.parts r b) key) 0 = subst (λ p. OtherShares n (said_at w.parts key) (said_at (set w.parts r b) key) p) z (said_others (length w.parts) w.parts key r b good t.member) in
        let now : said_at (set w.parts r b) key 0 ≡ None = subst (λ p. said_at (set w.parts r b) key p ≡ None) z (said_here w.parts key r b lt t.member ∙ divide_gives.said) in
        let all = share_settles n m (said_at w.parts key) (said_at (set w.parts r b) key) (first_rows w.parts key) (of_links w.links key) key list rest h others now t.present t.long t.items (λ q l. rest_count key.members q d l) (rest_places key.members) t.some in
        let fans : flights_of r (to_others key.members (Shares key list) ++ step.sent) ≡ fan (m 0) key list rest ++ flights_of r step.sent =
        flights_of-append r (to_others key.members (Shares key list)) step.sent ∙ ap (λ y. y ++ flights_of r step.sent) (others_are r key list key.members ∙ ap (λ y. fan y key list rest) (sym t.at)) in
        let links : of_links (w.links ++ flights_of r (to_others key.members (Shares key list) ++ step.sent)) key ≡ of_links w.links key ++ fan (m 0) key list rest =
        of_links-append w.links (flights_of r (to_others key.members (Shares key list) ++ step.sent)) key
        ∙ ap (λ y. of_links w.links key ++ y)
        (ap (λ y. of_links y key) fans ∙ of_links-append (fan (m 0) key list rest) (flights_of r step.sent) key
        ∙ ap (λ y. y ++ of_links (flights_of r step.sent) key) (of_links-all (fan (m 0) key list rest) key (fan_keys (m 0) key list rest))
        ∙ ap (λ y. fan (m 0) key list rest ++ y) (of_links-none (flights_of r step.sent) key (flights-all (λ p. same_key (key_of p) key ≡ false) r step.sent divide_gives.sent))
        ∙ append_nil (fan (m 0) key list rest)) in
        subst (λ y. ShareKept n m (said_at (set w.parts r b) key) (first_rows (set w.parts r b) key) y) (sym links) (subst (λ y. ShareKept n m (said_at (set w.parts r b) key) y (of_links w.links key ++ fan (m 0) key list rest)) (sym rows) all)
