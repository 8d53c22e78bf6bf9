-- An `Up` that comes is taken, and keeps what is kept.
use Rattle.std.proofs.Common.{◌≡◌, ◌<◌, ◌==◌, ◌&&◌, not, ℕ, Bool, true, false, List, [], ◌∷◌, ◌++◌, length, set, Some, refl, sym, subst, ap, ◌∙◌, inr, arith}
use Rattle.std.specs.Prelude.{nat_lt}
use Rattle.std.proofs.lemmas.Bool.Decides.{nat_tests}
use Rattle.mpi_base.specs.declared.keys.Key.{Key}
use Rattle.mpi_base.specs.MemberLists.{has_rank, are_distinct}
use Rattle.mpi_base.proofs.KeyFacts.{same_key-refl}
use Rattle.agree_law.specs.Tree.{place_in, member_at, parent_of, is_child, is_below}
use Rattle.agree_law.specs.Part.{Offer, Agree, stage_of, round_of}
use Rattle.agree_law.specs.Packets.{Packet, Up}
use Rattle.agree_law.specs.Kinds.{is_share}
use Rattle.agree_law.specs.Rule.{is_key}
use Rattle.agree_law.specs.Gather.{has_offer}
use Rattle.agree_law.specs.Offers.{put_offer, takes_up, take_up}
use Rattle.agree_law.specs.World.{World, part_at, moved, head_of, popped}
use Rattle.agree_law.proofs.Lists.{AllOf, AllOf-without, AllOf_at, AllOf_each, tally, one, tally-append, tally-without, tally_any}
use Rattle.agree_law.proofs.TreeFacts.{place_of_member, place_member, parent_below}
use Rattle.agree_law.proofs.RowFacts.{of_key, at_place, is_whole, has_offer_is}
use Rattle.agree_law.proofs.KeyKept.{View, view_of, up_from_rank, down_to_rank, stage_fits, Local, IsOwn, Held, Edge, Flies, FliesAt}
use Rattle.agree_law.proofs.OnePlace.{Others}
use Rattle.agree_law.proofs.Put.{Puts}
use Rattle.agree_law.proofs.Decide.{whole_child}
use Rattle.agree_law.proofs.Links.{key_of, of_links, TakenAt, flight, of_links-popped, of_links-other, popped_all, head_has}
use Rattle.agree_law.proofs.Kept.{is_good, is_good_at, PacketFits, seat, Kept, Distinct_of, distinct_of, seat_here, seat_others, with_links}
use Rattle.agree_law.proofs.PutSteps.{with_offer, with_offer_mine, kept-put}

-- where a packet that comes is going: from a place and its parent
pub record Came (top : ℕ) (w : World) (from r : ℕ) (key : Key) (p : Packet) : Type 0 where
  pub good : is_good (length w.parts) key ≡ true
  pub taken : TakenAt (of_links w.links key) (of_links (popped w.links from r) key) (flight from r p)
  pub flies : Flies top (length key.members) (member_at key.members) (seat w.parts key) from r p

pub came : (top : ℕ) (w : World) (from r : ℕ) (key : Key) (p : Packet) → head_of w.links from r ≡ Some p → key_of p ≡ key → (PacketFits (length w.parts) p → is_good (length w.parts) key ≡ true) → Kept top w → Came top w from r key p
came top w from r key p e k fits h =
    let good = fits (head_has (PacketFits (length w.parts)) w.links from r p e h.flights) in
    let t = of_links-popped w.links from r p key e (rw k (same_key-refl key)) in
    record {
      good = good;
      taken = t;
      flies = AllOf_at (FliesAt top (length key.members) (member_at key.members) (seat w.parts key)) (of_links w.links key) t.place (flight from r p) t.there (h.each key good).flown;
    }

-- the places of the two ends of an edge
pub record Ends (ms : List ℕ) (p lower upper : ℕ) : Type 0 where
  pub low_place : place_in ms lower ≡ p
  pub high_place : place_in ms upper ≡ parent_of p
  pub low_member : has_rank ms lower ≡ true
  pub high_member : has_rank ms upper ≡ true
  pub less : parent_of p < p
  pub child : is_child (parent_of p) p ≡ true

pub ends_of : (ms : List ℕ) (p lower upper : ℕ) → are_distinct ms ≡ true → Edge (length ms) (member_at ms) p lower upper → Ends ms p lower upper
ends_of ms p lower upper d e =
    let less = parent_below p e.above in
    let inside = e.inside in
    let above = e.above in
    let high : parent_of p < length ms = omega (arith, less, inside) in
    record {
      low_place = ap (place_in ms) e.low ∙ place_of_member ms p d e.inside;
      high_place = ap (place_in ms) e.high ∙ place_of_member ms (parent_of p) d high;
      low_member = subst (λ z. has_rank ms z ≡ true) (sym e.low) (place_member ms p e.inside);
      high_member = subst (λ z. has_rank ms z ≡ true) (sym e.high) (place_member ms (parent_of p) high);
      less = less;
      child = grind (arith, nat_tests, above);
    }

-- what is there of an edge whose `Up` comes
pub record UpThere (w : World) (r : ℕ) (key : Key) (p i : ℕ) : Type 0 where
  pub round : i ≡ round_of (part_at w r).rounds key
  pub lacks : tally (at_place p) (of_key (part_at w r).gathered key) ≡ 0

pub up_there : (top : ℕ) (w : World) (from r : ℕ) (key : Key) (i : ℕ) (own : Bool) (mask : List Bool) → (c : Came top w from r key (Up key i own mask)) → Kept top w → UpThere w r key c.flies.0 i
up_there top w from r key i own mask c h =
    let p = c.flies.0 in
    let e = c.flies.1 in
    let k = h.each key c.good in
    let n = length key.members in
    let m = member_at key.members in
    let fs = of_links w.links key in
    let t = k.token p e.above e.inside in
    let gone = tally-without (up_from_rank (m p)) fs c.taken.place (flight from r (Up key i own mask)) c.taken.there in
    let low = e.low in
    let is : (from == m p) ≡ true = grind (arith, nat_tests, low) in
    let one_up : one (from == m p) ≡ 1 = rw is refl in
    let downs : tally (down_to_rank (m p)) fs ≡ 0 = omega (arith, t, gone, one_up) in
    let lacks : tally (at_place p) (seat w.parts key (parent_of p)).offers ≡ 0 = omega (arith, t, gone, one_up) in
    let l = k.level p e.above e.inside downs in
    let here : seat w.parts key (parent_of p) ≡ view_of (part_at w r) key = ap (λ z. view_of (part_at w z) key) (sym e.high) in
    record { round = c.flies.2 ∙ l ∙ ap (λ (v : View). v.round) here; lacks = ap (λ (v : View). tally (at_place p) v.offers) (sym here) ∙ lacks }

pub up_is_taken : (top : ℕ) (w : World) (from r : ℕ) (key : Key) (i : ℕ) (own : Bool) (mask : List Bool) → Came top w from r key (Up key i own mask) → Kept top w → takes_up r (part_at w r) from key i ≡ true
unfolding takes_up
up_is_taken top w from r key i own mask c h =
    let good = c.good in
    let p = c.flies.0 in
    let x = ends_of key.members p from r (distinct_of (length w.parts) key good) c.flies.1 in
    let u = up_there top w from r key i own mask c h in
    let no : not (is_share key.kind) ≡ true = grind (arith, good) in
    let a = x.low_place in
    let b = x.high_place in
    let below : is_below r from key.members ≡ true = (let lm = x.low_member in let hm = x.high_member in let ch = x.child in rw (lm, hm, a, b) ch) in
    let round = u.round in
    let same : (i == round_of (part_at w r).rounds key) ≡ true = grind (arith, nat_tests, round) in
    let lack : has_offer (part_at w r).gathered key (place_in key.members from) ≡ false = rw a (has_offer_is (part_at w r).gathered key p ∙ tally_any (at_place p) (of_key (part_at w r).gathered key) ∙ ap (λ z. nat_lt 0 z) u.lacks) in
    rw (no, below, same, lack) refl

pub kept-put_up : (top : ℕ) (w : World) (from r : ℕ) (key : Key) (i : ℕ) (own : Bool) (mask : List Bool) → r < length w.parts → Came top w from r key (Up key i own mask) → head_of w.links from r ≡ Some (Up key i own mask) → Kept top w
    → Kept top (moved (with_links w (popped w.links from r)) r (put_offer r top (part_at w r) key (place_in key.members from) own mask))
kept-put_up top w from r key i own mask lt c head h =
    let nn : ℕ = length w.parts in
    let good : is_good nn key ≡ true = c.good in
    let p : ℕ = c.flies.0 in
    let e = c.flies.1 in
    let d = distinct_of nn key good in
    let x = ends_of key.members p from r d e in
    let u = up_there top w from r key i own mask c h in
    let a : Agree = part_at w r in
    let n : ℕ = length key.members in
    let m : ℕ → ℕ = member_at key.members in
    let up : ℕ = parent_of p in
    let o : Offer = record { key = key; place = p; own = own; mask = mask } in
    let b : Agree = with_offer a key p own mask in
    let member = x.high_member in
    let pr = x.high_place in
    let less = x.less in
    let inside = e.inside in
    let W : ℕ → View = seat (set w.parts r b) key in
    let V : ℕ → View = seat w.parts key in
    let here : W up ≡ view_of b key = subst (λ z. W z ≡ view_of b key) pr (seat_here w.parts key r b lt member) in
    let old : V up ≡ view_of a key = ap (λ z. view_of (part_at w z) key) (sym e.high) in
    let added = with_offer_mine a key p own mask in
    let olds : (V up).offers ≡ of_key a.gathered key = ap (λ (v : View). v.offers) old in
    let lacks : tally (at_place p) (V up).offers ≡ 0 = ap (λ os. tally (at_place p) os) olds ∙ u.lacks in
    let apart : (p == up) ≡ false = grind (arith, nat_tests, less) in
    let count : tally (at_place up) (of_key b.gathered key) ≡ tally (at_place up) (of_key a.gathered key) = (let y = tally-append (at_place up) (of_key a.gathered key) (o ∷ []) in let z = ap (λ os. tally (at_place up) os) added in let q : one (p == up) ≡ 0 = rw apart refl in omega (arith, y, z, q)) in
    let good_at : is_good_at nn r key ≡ true = grind (arith, good, member) in
    let fit : Local (V up) up = (h.each key good).fits up (omega (arith, less, inside)) in
    let fit_a : stage_fits (stage_of a.opened key) (round_of a.rounds key) (tally (at_place up) (of_key a.gathered key)) (is_key a.owner key) ≡ true = subst (λ v. Local v up) old fit in
    let PP : ℕ → ℕ → Type 0 = λ q z. Puts top n m V (seat (set w.parts r (with_offer a key z own mask)) key) (of_links w.links key) (of_links (popped w.links from r) key) q (record { key = key; place = z; own = own; mask = mask }) in
    let t = c.taken in
    let puts : PP up p =
    record {
      inside = omega (arith, less, inside);
      others = subst (λ z. Others n V W z) pr (seat_others nn w.parts key r b good member);
      offers = ap (λ (v : View). v.offers) here ∙ added ∙ ap (λ os. os ++ o ∷ []) (sym olds);
      round = ap (λ (v : View). v.round) here ∙ sym (ap (λ (v : View). v.round) old);
      fits = subst (λ v. Local v up) (sym here) (subst (λ z. stage_fits (stage_of a.opened key) (round_of a.rounds key) z (is_key a.owner key) ≡ true) (sym count) fit_a);
      before = not_whole (V up).offers up p n x.child e.inside lacks (is_whole (V up).offers up n) refl;
      ups = λ q ltq. (let y = tally-without (up_from_rank (m q)) (of_links w.links key) t.place (flight from r (Up key i own mask)) t.there in let z = ap (λ l. tally (up_from_rank (m q)) l) t.rest in
          let f : (from == m q) ≡ (p == q) = (let g = Distinct_of nn key good p q e.inside ltq in let low = e.low in rw low g) in
          let s : one ((p == q) && not (up == q)) ≡ one (p == q) = unit q less in
          let v = ap one f in omega (arith, y, z, s, v));
      downs = λ q ltq. (let y = tally-without (down_to_rank (m q)) (of_links w.links key) t.place (flight from r (Up key i own mask)) t.there in let z = ap (λ l. tally (down_to_rank (m q)) l) t.rest in omega (arith, y, z));
      flown = subst (λ l. AllOf (FliesAt top n m V) l) (sym t.rest) (AllOf-without (FliesAt top n m V) (of_links w.links key) t.place (h.each key good).flown);
      place = inr (x.child, e.inside);
      old = AllOf_each (Held top n (V up) up V) (λ y. y.place ≡ up → IsOwn (W up) y) (V up).offers (λ y g at. subst (λ v. IsOwn v y) (sym here) (let k : IsOwn (view_of a key) y = subst (λ v. IsOwn v y) old (g.own at) in record { owns = k.owns; mask = k.mask })) ((h.each key good).held up (omega (arith, less, inside)));
      own = λ is. absurd (omega (arith, less, is));
      child = λ ne. c.flies.3;
    } in
    kept-put top w (popped w.links from r) r a key (place_in key.members from) own mask h
    (record {
      inside = lt;
      good = good_at;
      gathered = refl;
      others = λ k f g. refl;
      apart = λ k f. of_links-other w.links from r (Up key i own mask) k head f;
      rows = h.rows r;
      flights = popped_all (λ f. PacketFits nn f.packet) w.links from r h.flights;
      owner = h.owner r;
    })
    (subst (λ q. PP q (place_in key.members from)) (sym pr) (subst (λ z. PP up z) (sym x.low_place) puts))
  where
    not_whole : (os : List Offer) (up p n : ℕ) → is_child up p ≡ true → p < n → tally (at_place p) os ≡ 0 → (b : Bool) → is_whole os up n ≡ b → is_whole os up n ≡ false
    not_whole os up p n ch lt z false e = e
    not_whole os up p n ch lt z true e = absurd (let y = whole_child os up n p e ch lt in omega (arith, y, z))

    unit : {p up : ℕ} (q : ℕ) → up < p → one ((p == q) && not (up == q)) ≡ one (p == q)
    unit {p} {up} q less = grind (arith, nat_tests, less)

pub kept-up : (top : ℕ) (w : World) (from r : ℕ) (key : Key) (i : ℕ) (own : Bool) (mask : List Bool) → r < length w.parts → head_of w.links from r ≡ Some (Up key i own mask) → Kept top w
    → (takes_up r (part_at w r) from key i ≡ true) × Kept top (moved (with_links w (popped w.links from r)) r (take_up r top (part_at w r) from key i own mask))
unfolding take_up
kept-up top w from r key i own mask lt head h =
    let c = came top w from r key (Up key i own mask) head refl (λ e. e) h in
    let t = up_is_taken top w from r key i own mask c h in
    (t, rw t (kept-put_up top w from r key i own mask lt c head h))
