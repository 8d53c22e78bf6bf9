-- Moves that an exchange does not see.
use Rattle.std.proofs.Common.{◌≡◌, ◌+◌, ◌&&◌, not, ℕ, ℤ, Bool, true, false, if◌then◌else◌, List, [], ◌∷◌, ◌++◌, map, length, get_or, set, slice_get, Option, Some, None, refl, sym, ap, ◌∙◌, arith}
use Rattle.std.specs.Prelude.{nat_lt}
use Rattle.mpi_base.specs.declared.keys.Key.{Key}
use Rattle.mpi_base.specs.Keys.{same_key}
use Rattle.mpi_base.proofs.KeyFacts.{same_key_is, same_key-refl}
use Rattle.ctx_mask.specs.Masks.{none_of}
use Rattle.agree_law.specs.declared.rows.CreationRow.{CreationRow}
use Rattle.agree_law.specs.declared.rows.ShareRow.{ShareRow}
use Rattle.mpi_base.specs.declared.shares.Shared1.{Shared1}
use Rattle.agree_law.specs.declared.rows.Stage.{Stage}
use Rattle.agree_law.specs.declared.rows.Stage.TheVariants.{Sharing, Called, Waiting, Offered, Done}
use Rattle.agree_law.specs.declared.rows.Verdict.{Verdict}
use Rattle.agree_law.specs.Tree.{place_in, member_at, is_first, children_of}
use Rattle.agree_law.specs.Part.{Agree, fresh, stage_of, open_creation, set_stage, close_creation, drop_shares}
use Rattle.agree_law.specs.Packets.{Packet, Up, Down, Share, Shares, Sent, Moved, stays}
use Rattle.agree_law.specs.Rule.{may_own}
use Rattle.agree_law.specs.Gather.{is_ready}
use Rattle.agree_law.specs.Offers.{up_from, put_offer, begin, offer_of, if_waiting, make_offer, takes_up, take_up}
use Rattle.agree_law.specs.Verdicts.{pass_down, decide, settle_offers, takes_down, take_down}
use Rattle.agree_law.specs.Classes.{split_key}
use Rattle.agree_law.specs.Shares.{put_share, begin_share, takes_share, take_share, divide, takes_shares, colour_at, take_shares, share_list, to_others, settle_share}
use Rattle.agree_law.specs.Moves.{give_back, close}
use Rattle.agree_law.specs.World.{Flight, World, part_at, flights_of, moved, is_done}
use Rattle.share_law.specs.Facts.{sharing_of}
use Rattle.agree_law.proofs.Lists.{AllOf, AllOf-append}
use Rattle.agree_law.proofs.RowFacts.{or_else, stage_of-open, stage_of-set, stage_of-close}
use Rattle.agree_law.proofs.Links.{key_of, of_links, of_links-append, of_links-none}
use Rattle.agree_law.proofs.Kept.{with_links, at_each}
use Rattle.agree_law.proofs.Decided.{after}
use Rattle.agree_law.proofs.OtherSteps.{append_nil}
use Rattle.share_law.proofs.ShareKept.{rows_of, ShareKept, shares_same}

-- what a member has of an exchange
abbrev pub said_at : List Agree → Key → ℕ → Option Shared1
said_at parts key q = sharing_of (stage_of (get_or parts (member_at key.members q) (fresh 0)).opened key)

abbrev pub first_rows : List Agree → Key → List ShareRow
first_rows parts key = rows_of (get_or parts (member_at key.members 0) (fresh 0)).shares key

abbrev pub ShareHolds : List Agree → List Flight → Key → Type 0
ShareHolds parts links key = ShareKept (length key.members) (member_at key.members) (said_at parts key) (first_rows parts key) (of_links links key)

-- a move that the exchange does not see
pub record Foreign (a : Agree) (m : Moved) (key : Key) : Type 0 where
  pub said : sharing_of (stage_of m.part.opened key) ≡ sharing_of (stage_of a.opened key)
  pub rows : rows_of m.part.shares key ≡ rows_of a.shares key
  pub sent : AllOf (λ (s : Sent). same_key (key_of s.packet) key ≡ false) m.sent

pub flights-all : (P : Packet → Type 0) (r : ℕ) (ss : List Sent) → AllOf (λ (s : Sent). P s.packet) ss → AllOf (λ (f : Flight). P f.packet) (flights_of r ss)
flights-all P r [] h = tt
flights-all P r (s ∷ ss) h = (h.0, flights-all P r ss h.1)

pub foreign-moved : (w : World) (links : List Flight) (r : ℕ) (m : Moved) (key : Key) → of_links links key ≡ of_links w.links key → Foreign (part_at w r) m key → ShareHolds w.parts w.links key
    → ShareHolds (moved (with_links w links) r m).parts (moved (with_links w links) r m).links key
unfolding moved
foreign-moved w links r m key apart f h =
    let same : (q : ℕ) → said_at (set w.parts r m.part) key q ≡ said_at w.parts key q = λ q. at_each (λ z a. sharing_of (stage_of a.opened key) ≡ sharing_of (stage_of (get_or w.parts z (fresh 0)).opened key)) w.parts r m.part f.said (λ z. refl) (member_at key.members q) in
    let rows : first_rows (set w.parts r m.part) key ≡ first_rows w.parts key = at_each (λ z a. rows_of a.shares key ≡ rows_of (get_or w.parts z (fresh 0)).shares key) w.parts r m.part f.rows (λ z. refl) (member_at key.members 0) in
    let links_same : of_links (links ++ flights_of r m.sent) key ≡ of_links w.links key =
    of_links-append links (flights_of r m.sent) key
    ∙ ap (λ z. of_links links key ++ z) (of_links-none (flights_of r m.sent) key (flights-all (λ p. same_key (key_of p) key ≡ false) r m.sent f.sent))
    ∙ append_nil (of_links links key) ∙ apart in
    rw (links_same, rows) (shares_same (length key.members) (member_at key.members) (said_at w.parts key) (said_at (set w.parts r m.part) key) (first_rows w.parts key) (of_links w.links key) same h)

foreign_stays : (a : Agree) (key : Key) → Foreign a (stays a) key
foreign_stays a key = record { said = refl; rows = refl; sent = tt }

-- Rows

said-open : (xs : List CreationRow) (key : Key) (s : Stage) (k : Key) → same_key key k ≡ false → sharing_of (stage_of (open_creation xs key s) k) ≡ sharing_of (stage_of xs k)
said-open xs key s k e = ap sharing_of (stage_of-open xs key s k ∙ go (stage_of xs k) (same_key key k) e)
  where
    go : (o : Option Stage) (b : Bool) → b ≡ false → or_else o (if b then Some s else None) ≡ o
    go None true e = absurd (cc)
    go None false e = refl
    go (Some x) b e = refl

pub said-set : (xs : List CreationRow) (key : Key) (s : Stage) (k : Key) → same_key key k ≡ false → sharing_of (stage_of (set_stage xs key s) k) ≡ sharing_of (stage_of xs k)
said-set xs key s k e = ap sharing_of (stage_of-set xs key s k ∙ (rw e refl))

pub said-close : (xs : List CreationRow) (key k : Key) → same_key key k ≡ false → sharing_of (stage_of (close_creation xs key) k) ≡ sharing_of (stage_of xs k)
said-close xs key k e = ap sharing_of (stage_of-close xs key k ∙ (rw e refl))

pub rows_of-append : (xs : List ShareRow) (o : ShareRow) (k : Key) → rows_of (xs ++ o ∷ []) k ≡ (if same_key o.key k then rows_of xs k ++ o ∷ [] else rows_of xs k)
rows_of-append [] o k = refl
rows_of-append (x ∷ xs) o k = let ih = rows_of-append xs o k in grind (arith, ih)

pub rows_of-drop : (xs : List ShareRow) (key k : Key) → rows_of (drop_shares xs key) k ≡ (if same_key key k then [] else rows_of xs k)
rows_of-drop [] key k = grind (arith)
rows_of-drop (x ∷ xs) key k = let ih = rows_of-drop xs key k in go (same_key x.key key) refl (same_key key k) refl (same_key x.key k) refl ih
  where
    go : (a : Bool) → same_key x.key key ≡ a → (b : Bool) → same_key key k ≡ b → (c : Bool) → same_key x.key k ≡ c → rows_of (drop_shares xs key) k ≡ (if same_key key k then [] else rows_of xs k)
        → rows_of (if not a then x ∷ drop_shares xs key else drop_shares xs key) k ≡ (if same_key key k then [] else (if same_key x.key k then x ∷ rows_of xs k else rows_of xs k))
    go true e true f c g ih = ih ∙ (rw f refl)
    go true e false f true g ih = absurd (let z : same_key key k ≡ true = ap (λ y. same_key y k) (sym (same_key_is x.key key e)) ∙ g in cc)
    go true e false f false g ih = ih ∙ (rw (f, g) refl)
    go false e true f true g ih = absurd (let z : same_key x.key key ≡ true = (let is = same_key_is x.key k g in let js = same_key_is key k f in rw (is ∙ sym js) (same_key-refl key)) in cc)
    go false e true f false g ih = rw g (ih ∙ (rw f refl))
    go false e false f true g ih = rw (f, g) (ap (λ z. x ∷ z) (ih ∙ (rw f refl)))
    go false e false f false g ih = rw (f, g) (ih ∙ (rw f refl))

-- Moves at other keys

foreign-put : (r top : ℕ) (a b : Agree) (key : Key) (place : ℕ) (own : Bool) (mask : List Bool) (k : Key) → same_key key k ≡ false → sharing_of (stage_of b.opened k) ≡ sharing_of (stage_of a.opened k) → b.shares ≡ a.shares → Foreign a (put_offer r top b key place own mask) k
unfolding put_offer up_from
foreign-put r top a b key place own mask k e s t =
    let c : Agree = record b { gathered = b.gathered ++ record { key = key; place = place; own = own; mask = mask } ∷ [] } in
    record { said = s; rows = ap (λ z. rows_of z k) t; sent = go _ _ _ _ (nat_lt 0 (place_in key.members r) && is_ready c.gathered key (place_in key.members r)) }
  where
    go : (to i : ℕ) (o : Bool) (y : List Bool) (x : Bool) → AllOf (λ (s : Sent). same_key (key_of s.packet) k ≡ false) (if x then record { to = to; packet = Up key i o y } ∷ [] else [])
    go to i o y true = (e, tt)
    go to i o y false = tt

pub foreign-begin : (r top : ℕ) (a : Agree) (key k : Key) → same_key key k ≡ false → Foreign a (begin r top a key) k
unfolding begin
foreign-begin r top a key k e = foreign-put r top a (record a { opened = open_creation a.opened key Called }) key (place_in key.members r) false (none_of (top + 1)) k e (said-open a.opened key Called k e) refl

pub foreign-offer : (r top : ℕ) (a : Agree) (key k : Key) → same_key key k ≡ false → Foreign a (make_offer r top a key) k
unfolding make_offer
foreign-offer r top a key k e = go (stage_of a.opened key)
  where
    go : (s : Option Stage) → Foreign a (if_waiting r top a key s) k
    go None = foreign_stays a k
    go (Some (Sharing s)) = foreign_stays a k
    go (Some Called) = foreign_stays a k
    go (Some (Offered i own)) = foreign_stays a k
    go (Some (Done c)) = foreign_stays a k
    go (Some (Waiting i)) = by (may_own a key)
      where
        by : (own : Bool) → Foreign a (offer_of r top a key i own) k
        by own = foreign-put r top a (record a { owner = if own then Some key else a.owner; opened = set_stage a.opened key (Offered i own) }) key (place_in key.members r) own (if own then a.mask else none_of (top + 1)) k e (said-set a.opened key (Offered i own) k e) refl

pub foreign-decide : (r : ℕ) (a : Agree) (key : Key) (i : ℕ) (v : Verdict) (k : Key) → same_key key k ≡ false → Foreign a (decide r a key i v) k
unfolding decide pass_down
foreign-decide r a key i v k e =
    let x = after a key i v in
    record {
      said = ap (λ z. sharing_of (stage_of z k)) x.opened ∙ said-set a.opened key _ k e;
      rows = ap (λ z. rows_of z k) x.shares;
      sent = downs (children_of (place_in key.members r) (length key.members));
    }
  where
    downs : (qs : List ℕ) → AllOf (λ (s : Sent). same_key (key_of s.packet) k ≡ false) (map (λ q. record { to = member_at key.members q; packet = Down key i v }) qs)
    downs [] = tt
    downs (q ∷ qs) = (e, downs qs)

pub foreign-up : (r top : ℕ) (a : Agree) (from : ℕ) (key : Key) (i : ℕ) (own : Bool) (mask : List Bool) (k : Key) → same_key key k ≡ false → Foreign a (take_up r top a from key i own mask) k
unfolding take_up
foreign-up r top a from key i own mask k e = go (takes_up r a from key i)
  where
    go : (c : Bool) → Foreign a (if c then put_offer r top a key (place_in key.members from) own mask else stays a) k
    go true = foreign-put r top a a key (place_in key.members from) own mask k e refl refl
    go false = foreign_stays a k

pub foreign-down : (r : ℕ) (a : Agree) (from : ℕ) (key : Key) (i : ℕ) (v : Verdict) (k : Key) → same_key key k ≡ false → Foreign a (take_down r a from key i v) k
unfolding take_down
foreign-down r a from key i v k e = go (takes_down r a from key i v)
  where
    go : (c : Bool) → Foreign a (if c then decide r a key i v else stays a) k
    go true = foreign-decide r a key i v k e
    go false = foreign_stays a k

pub foreign-settle_offers : (r top : ℕ) (a : Agree) (key k : Key) → same_key key k ≡ false → Foreign a (settle_offers r top a key) k
unfolding settle_offers
foreign-settle_offers r top a key k e = foreign-decide r a key _ _ k e

pub foreign-begin_share : (r : ℕ) (a : Agree) (key : Key) (s : Shared1) (k : Key) → same_key key k ≡ false → Foreign a (begin_share r a key s) k
unfolding begin_share
foreign-begin_share r a key s k e = go (is_first r key.members)
  where
    b : Agree
    b = record a { opened = open_creation a.opened key (Sharing s) }

    rows : rows_of (put_share b key 0 s).shares k ≡ rows_of a.shares k
    rows = rows_of-append a.shares (record { key = key; place = 0; share = s }) k ∙ (rw e refl)

    go : (c : Bool) → Foreign a (if c then record { part = put_share b key 0 s; sent = [] } else record { part = b; sent = record { to = member_at key.members 0; packet = Share key s } ∷ [] }) k
    go true = record { said = said-open a.opened key (Sharing s) k e; rows = rows; sent = tt }
    go false = record { said = said-open a.opened key (Sharing s) k e; rows = refl; sent = (e, tt) }

pub foreign-take_share : (r : ℕ) (a : Agree) (from : ℕ) (key : Key) (s : Shared1) (k : Key) → same_key key k ≡ false → Foreign a (take_share r a from key s) k
unfolding take_share
foreign-take_share r a from key s k e = go (takes_share r a from key)
  where
    go : (c : Bool) → Foreign a (if c then record { part = put_share a key (place_in key.members from) s; sent = [] } else stays a) k
    go true = record { said = refl; rows = rows_of-append a.shares (record { key = key; place = place_in key.members from; share = s }) k ∙ (rw e refl); sent = tt }
    go false = foreign_stays a k

pub foreign-divide : (r top : ℕ) (a : Agree) (key : Key) (c : Option ℤ) (list : List Shared1) (k : Key) → same_key key k ≡ false → ((d : Option ℤ) → same_key (split_key key d list) k ≡ false) → Foreign a (divide r top a key c list) k
unfolding divide
foreign-divide r top a key None list k e f = record { said = said-close a.opened key k e; rows = refl; sent = tt }
foreign-divide r top a key (Some c) list k e f =
    let x = foreign-begin r top (record a { opened = close_creation a.opened key }) (split_key key (Some c) list) k (f (Some c)) in
    record { said = x.said ∙ said-close a.opened key k e; rows = x.rows; sent = x.sent }

pub foreign-take_shares : (r top : ℕ) (a : Agree) (from : ℕ) (key : Key) (list : List Shared1) (k : Key) → same_key key k ≡ false → ((d : Option ℤ) → same_key (split_key key d list) k ≡ false) → Foreign a (take_shares r top a from key list) k
unfolding take_shares
foreign-take_shares r top a from key list k e f = go (takes_shares r a from key list)
  where
    go : (c : Bool) → Foreign a (if c then divide r top a key (colour_at (slice_get list (place_in key.members r))) list else stays a) k
    go true = foreign-divide r top a key (colour_at (slice_get list (place_in key.members r))) list k e f
    go false = foreign_stays a k

pub foreign-settle_share : (r top : ℕ) (a : Agree) (key k : Key) → same_key key k ≡ false → ((d : Option ℤ) (list : List Shared1) → same_key (split_key key d list) k ≡ false) → Foreign a (settle_share r top a key) k
unfolding settle_share
foreign-settle_share r top a key k e f =
    let list : List Shared1 = share_list a.shares key in
    let x = foreign-take_shares r top (record a { shares = drop_shares a.shares key }) r key list k e (λ d. f d list) in
    record {
      said = x.said;
      rows = x.rows ∙ rows_of-drop a.shares key k ∙ (rw e refl);
      sent = AllOf-append (λ (s : Sent). same_key (key_of s.packet) k ≡ false) (to_others key.members (Shares key list)) _ (others list key.members) x.sent;
    }
  where
    others : (list : List Shared1) (ms : List ℕ) → AllOf (λ (s : Sent). same_key (key_of s.packet) k ≡ false) (to_others ms (Shares key list))
    others list [] = tt
    others list (m ∷ ms) = go ms
      where
        go : (ms : List ℕ) → AllOf (λ (s : Sent). same_key (key_of s.packet) k ≡ false) (map (λ q. record { to = q; packet = Shares key list }) ms)
        go [] = tt
        go (m ∷ ms) = (e, go ms)

pub foreign-close : (a : Agree) (key k : Key) → is_done (stage_of a.opened key) ≡ true → Foreign a (record { part = close a key; sent = [] }) k
unfolding close
foreign-close a key k done = record { said = ap sharing_of (stage_of-close a.opened key k) ∙ go (same_key key k) refl; rows = refl; sent = tt }
  where
    done_said : (s : Option Stage) → is_done s ≡ true → sharing_of s ≡ None
    done_said None e = refl
    done_said (Some (Sharing s)) e = absurd (cc)
    done_said (Some Called) e = refl
    done_said (Some (Waiting i)) e = refl
    done_said (Some (Offered i own)) e = refl
    done_said (Some (Done c)) e = refl

    go : (b : Bool) → same_key key k ≡ b → sharing_of (if b then None else stage_of a.opened k) ≡ sharing_of (stage_of a.opened k)
    go true e = let is = same_key_is key k e in sym (ap (λ z. sharing_of (stage_of a.opened z)) (sym is) ∙ done_said (stage_of a.opened key) done)
    go false e = refl

pub foreign-back : (a : Agree) (c : ℕ) (k : Key) → Foreign a (record { part = give_back a c; sent = [] }) k
unfolding give_back
foreign-back a c k = record { said = refl; rows = refl; sent = tt }
