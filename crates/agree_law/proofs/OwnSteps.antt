-- Calls and offers keep what is kept.
use Rattle.std.proofs.Common.{◌≡◌, ◌<◌, ◌+◌, ◌==◌, ◌&&◌, ◌||◌, not, ℕ, Bool, true, false, if◌then◌else◌, List, [], ◌∷◌, ◌++◌, length, set, Option, Some, None, refl, sym, subst, ap, ◌∙◌, inl, arith}
use Rattle.std.specs.Prelude.{nat_lt, is_none}
use Rattle.std.specs.Option.{is_some}
use Rattle.std.proofs.lemmas.Bool.Decides.{nat_tests}
use Rattle.mpi_base.specs.declared.keys.Key.{Key}
use Rattle.mpi_base.specs.Keys.{same_key}
use Rattle.mpi_base.specs.MemberLists.{has_rank}
use Rattle.mpi_base.proofs.KeyFacts.{same_key_is, same_key-refl}
use Rattle.ctx_mask.specs.Masks.{none_of}
use Rattle.agree_law.specs.declared.rows.Stage.{Stage}
use Rattle.agree_law.specs.declared.rows.Stage.TheVariants.{Sharing, Called, Waiting, Offered, Done}
use Rattle.agree_law.specs.Tree.{place_in}
use Rattle.agree_law.specs.Part.{Offer, Agree, stage_of, round_of, open_creation, set_stage}
use Rattle.agree_law.specs.Kinds.{is_share}
use Rattle.agree_law.specs.Rule.{is_key, may_own, is_least}
use Rattle.agree_law.specs.Offers.{put_offer, begin, offer_of, if_waiting, make_offer, is_due}
use Rattle.agree_law.specs.World.{World, part_at, moved}
use Rattle.agree_law.proofs.Lists.{AllOf_each, AllOf_from_none, tally, one, tally-append}
use Rattle.agree_law.proofs.TreeFacts.{member_place}
use Rattle.agree_law.proofs.RowFacts.{or_else, stage_of-open, stage_of-set, of_key, at_place, is_whole}
use Rattle.agree_law.proofs.KeyKept.{View, view_of, owned_mask, stage_fits, Local, IsOwn}
use Rattle.agree_law.proofs.Decide.{whole_own}
use Rattle.agree_law.proofs.Kept.{is_good, is_good_at, stage_is_of, seat, Kept, seat_here, seat_others, with_links}
use Rattle.agree_law.proofs.PutSteps.{with_offer, with_offer_mine, Before, kept-put}
use Rattle.agree_law.proofs.OpenRows.{row_at, rows-open, rows-set}

-- the stage of a member of a good key fits
pub fits_at : (top : ℕ) (w : World) (r : ℕ) (key : Key) → is_good_at (length w.parts) r key ≡ true → Kept top w
    → stage_fits (stage_of (part_at w r).opened key) (round_of (part_at w r).rounds key) (tally (at_place (place_in key.members r)) (of_key (part_at w r).gathered key)) (is_key (part_at w r).owner key) ≡ true
fits_at top w r key e h =
    let member : has_rank key.members r ≡ true = grind (arith, e) in
    let at = member_place key.members r member in
    subst (λ z. Local (view_of (part_at w z) key) (place_in key.members r)) at.1 ((h.each key (grind (arith, e))).fits (place_in key.members r) at.0)

pub kept-own : (top : ℕ) (w : World) (r : ℕ) (a : Agree) (key : Key) (own : Bool) (mask : List Bool) → Kept top w → Before top w w.links r a key
    → tally (at_place (place_in key.members r)) (of_key (part_at w r).gathered key) ≡ 0 → a.rounds ≡ (part_at w r).rounds
    → stage_fits (stage_of a.opened key) (round_of a.rounds key) 1 (is_key a.owner key) ≡ true → own ≡ is_key a.owner key → (own ≡ true → mask ≡ owned_mask (is_key a.owner key) a.mask)
    → Kept top (moved (with_links w w.links) r (put_offer r top a key (place_in key.members r) own mask))
kept-own top w r a key own mask h u none rounds fits owns masks =
    let n : ℕ = length w.parts in
    let good : is_good n key ≡ true = grind (arith, u.good) in
    let member : has_rank key.members r ≡ true = grind (arith, u.good) in
    let p : ℕ = place_in key.members r in
    let at = member_place key.members r member in
    let o : Offer = record { key = key; place = p; own = own; mask = mask } in
    let b : Agree = with_offer a key p own mask in
    let here : seat (set w.parts r b) key p ≡ view_of b key = seat_here w.parts key r b u.inside member in
    let old : seat w.parts key p ≡ view_of (part_at w r) key = ap (λ z. view_of (part_at w z) key) at.1 in
    let added = with_offer_mine a key p own mask in
    let g : of_key a.gathered key ≡ of_key (part_at w r).gathered key = ap (λ os. of_key os key) u.gathered in
    let olds : (seat w.parts key p).offers ≡ of_key (part_at w r).gathered key = ap (λ (v : View). v.offers) old in
    let none' : tally (at_place p) (seat w.parts key p).offers ≡ 0 = ap (λ os. tally (at_place p) os) olds ∙ none in
    let count : tally (at_place p) (of_key b.gathered key) ≡ 1 = (let x = tally-append (at_place p) (of_key a.gathered key) (o ∷ []) in let y = ap (λ os. tally (at_place p) os) g in let z = ap (λ os. tally (at_place p) os) added in let s = selfs p in omega (arith, x, y, z, none, s)) in
    kept-put top w w.links r a key p own mask h u
    (record {
      inside = at.0;
      others = seat_others n w.parts key r b good member;
      offers = ap (λ (v : View). v.offers) here ∙ added ∙ ap (λ os. os ++ o ∷ []) (g ∙ sym olds);
      round = ap (λ (v : View). v.round) here ∙ ap (λ z. round_of z key) rounds ∙ sym (ap (λ (v : View). v.round) old);
      fits = subst (λ v. Local v p) (sym here) (subst (λ c. stage_fits (stage_of a.opened key) (round_of a.rounds key) c (is_key a.owner key) ≡ true) (sym count) fits);
      before = not_whole (is_whole (seat w.parts key p).offers p (length key.members)) refl none';
      ups = λ q lt. (let z = never (p == q) in omega (arith, z));
      downs = λ q lt. refl;
      flown = (h.each key good).flown;
      place = inl refl;
      old = AllOf_each (λ x. at_place p x ≡ false) (λ x. x.place ≡ p → IsOwn (seat (set w.parts r b) key p) x) (seat w.parts key p).offers (λ x e is. absurd (let y : (x.place == p) ≡ true = grind (arith, nat_tests, is) in cc)) (AllOf_from_none (at_place p) (seat w.parts key p).offers none');
      own = λ _. subst (λ v. IsOwn v o) (sym here) (record { owns = owns; mask = masks });
      child = λ ne. absurd (ne refl);
    })
  where
    selfs : (p : ℕ) → one (p == p) ≡ 1
    selfs p = let e : (p == p) ≡ true = grind (arith, nat_tests) in rw e refl

    never : (c : Bool) → one (c && not c) ≡ 0
    never true = refl
    never false = refl

    not_whole : (c : Bool) → is_whole (seat w.parts key (place_in key.members r)).offers (place_in key.members r) (length key.members) ≡ c → tally (at_place (place_in key.members r)) (seat w.parts key (place_in key.members r)).offers ≡ 0
        → is_whole (seat w.parts key (place_in key.members r)).offers (place_in key.members r) (length key.members) ≡ false
    not_whole false e z = e
    not_whole true e z = absurd (let x = whole_own (seat w.parts key (place_in key.members r)).offers (place_in key.members r) (length key.members) e in omega (arith, x, z))

-- a call

fits_none : (g c : ℕ) (b : Bool) → stage_fits None g c b ≡ true → (g ≡ 0) × (c ≡ 0) × (b ≡ false)
fits_none g c true e = absurd (grind (arith, e))
fits_none g c false e = (grind (arith, nat_tests, e), grind (arith, nat_tests, e), refl)

not_share : (b : Bool) (s : Stage) → not b ≡ true → stage_is_of b Called ≡ true
not_share true s e = absurd (cc)
not_share false s e = refl

pub kept-begin : (top : ℕ) (w : World) (r : ℕ) (key : Key) → r < length w.parts → is_good_at (length w.parts) r key ≡ true → stage_of (part_at w r).opened key ≡ None → Kept top w → Kept top (moved w r (begin r top (part_at w r) key))
unfolding begin
kept-begin top w r key lt good none h =
    let a : Agree = record (part_at w r) { opened = open_creation (part_at w r).opened key Called } in
    let opened = stage_of-open (part_at w r).opened key Called in
    let f = fits_none (round_of (part_at w r).rounds key) (tally (at_place (place_in key.members r)) (of_key (part_at w r).gathered key)) (is_key (part_at w r).owner key)
    (subst (λ s. stage_fits s (round_of (part_at w r).rounds key) (tally (at_place (place_in key.members r)) (of_key (part_at w r).gathered key)) (is_key (part_at w r).owner key) ≡ true) none (fits_at top w r key good h)) in
    let now : stage_of a.opened key ≡ Some Called = (let x = opened key in let y = same_key-refl key in grind (arith, x, y, none)) in
    kept-own top w r a key false (none_of (top + 1)) h
    (record {
      inside = lt;
      good = good;
      gathered = refl;
      others = λ k e g. (let x = opened k in let s : stage_of a.opened k ≡ stage_of (part_at w r).opened k = later (stage_of (part_at w r).opened k) (x ∙ ap (λ c. or_else (stage_of (part_at w r).opened k) (if c then Some Called else None)) e) in
          ap (λ t. record { stage = t; round = round_of (part_at w r).rounds k; offers = of_key (part_at w r).gathered k; owns = is_key (part_at w r).owner k; mask = owned_mask (is_key (part_at w r).owner k) (part_at w r).mask }) s);
      apart = λ k e. refl;
      rows = rows-open (length w.parts) r (part_at w r).opened key Called (grind (arith, good)) (not_share (is_share key.kind) Called (grind (arith, good))) (h.rows r);
      flights = h.flights;
      owner = λ k e. h.owner r k e;
    })
    f.1 refl (rw (now, f.0, f.2) refl) (sym f.2) (λ e. absurd (cc))
  where
    later : (s : Option Stage) {t : Option Stage} → t ≡ or_else s None → t ≡ s
    later None e = e
    later (Some s) e = e

-- an offer

fits_waiting : (i g c : ℕ) (b : Bool) → stage_fits (Some (Waiting i)) g c b ≡ true → (g ≡ i) × (nat_lt 0 i ≡ true) × (c ≡ 0) × (b ≡ false)
fits_waiting i g c true e = absurd (grind (arith, e))
fits_waiting i g c false e = (grind (arith, nat_tests, e), grind (arith, e), grind (arith, nat_tests, e), refl)

share_waits : (b : Bool) (i : ℕ) → stage_is_of b (Waiting i) ≡ true → b ≡ false
share_waits true i e = absurd (cc)
share_waits false i e = refl

-- the owner of an offer
pub own_none : (a : Agree) (key : Key) → may_own a key ≡ true → a.owner ≡ None
unfolding may_own
own_none a key e = go a.owner e
  where
    go : (o : Option Key) → (is_none o && is_least a.opened key) ≡ true → o ≡ None
    go None e = refl
    go (Some k) e = absurd (cc)

kept-offer_of : (top : ℕ) (w : World) (r : ℕ) (key : Key) (i : ℕ) (own : Bool) → r < length w.parts → stage_of (part_at w r).opened key ≡ Some (Waiting i) → (own ≡ true → (part_at w r).owner ≡ None) → Kept top w
    → Kept top (moved w r (offer_of r top (part_at w r) key i own))
kept-offer_of top w r key i own lt waits free h =
    let n : ℕ = length w.parts in
    let x : Agree = part_at w r in
    let row = row_at n r x.opened key (Waiting i) waits (h.rows r) in
    let row0 = row.0 in
    let no : is_share key.kind ≡ false = share_waits (is_share key.kind) i row.1 in
    let good : is_good_at n r key ≡ true = grind (arith, row0, no) in
    let a : Agree = record x { owner = if own then Some key else x.owner; opened = set_stage x.opened key (Offered i own) } in
    let opened = stage_of-set x.opened key (Offered i own) in
    let f = fits_waiting i (round_of x.rounds key) (tally (at_place (place_in key.members r)) (of_key x.gathered key)) (is_key x.owner key)
    (subst (λ s. stage_fits s (round_of x.rounds key) (tally (at_place (place_in key.members r)) (of_key x.gathered key)) (is_key x.owner key) ≡ true) waits (fits_at top w r key good h)) in
    let now : stage_of a.opened key ≡ Some (Offered i own) = (let z = opened key in let y = same_key-refl key in grind (arith, z, y, waits)) in
    let owner : is_key a.owner key ≡ own = owners own f.3 in
    kept-own top w r a key own (if own then x.mask else none_of (top + 1)) h
    (record {
      inside = lt;
      good = good;
      gathered = refl;
      others = λ k e g.
          let z = opened k in
          let s : stage_of a.opened k ≡ stage_of x.opened k = z ∙ ap (λ c. if c then (if is_some (stage_of x.opened k) then Some (Offered i own) else None) else stage_of x.opened k) e in
          let t : is_key a.owner k ≡ is_key x.owner k = other k e own free in
          let y : View = view_of x k in
          ap (λ c. record { stage = c; round = round_of x.rounds k; offers = of_key x.gathered k; owns = is_key a.owner k; mask = owned_mask (is_key a.owner k) x.mask }) s
          ∙ ap (λ c. record { stage = stage_of x.opened k; round = round_of x.rounds k; offers = of_key x.gathered k; owns = c; mask = owned_mask c x.mask }) t;
      apart = λ k e. refl;
      rows = rows-set n r x.opened key (Offered i own) (rw no refl) (h.rows r);
      flights = h.flights;
      owner = λ k e. owned k own e;
    })
    f.2 refl (let a0 = f.0 in let a1 = f.1 in rw (now, owner, a0, a1) (fitting own)) (sym owner) (λ e. rw owner (masks own e))
  where
    owners : (own : Bool) → is_key (part_at w r).owner key ≡ false → is_key (if own then Some key else (part_at w r).owner) key ≡ own
    owners true e = same_key-refl key
    owners false e = e

    other : (k : Key) → same_key key k ≡ false → (own : Bool) → (own ≡ true → (part_at w r).owner ≡ None) → is_key (if own then Some key else (part_at w r).owner) k ≡ is_key (part_at w r).owner k
    other k e true free = let o = free refl in rw o e
    other k e false free = refl

    owned : (k : Key) (own : Bool) → is_key (if own then Some key else (part_at w r).owner) k ≡ true → is_good_at (length w.parts) r k ≡ true
    owned k true e = (let row = row_at (length w.parts) r (part_at w r).opened key (Waiting i) waits (h.rows r) in let row0 = row.0 in let no = share_waits (is_share key.kind) i row.1 in let good : is_good_at (length w.parts) r key ≡ true = grind (arith, row0, no) in subst (λ z. is_good_at (length w.parts) r z ≡ true) (same_key_is key k e) good)
    owned k false e = h.owner r k e

    fitting : (own : Bool) → ((i == i) && (true && (true && ((own && own) || (not own && not own))))) ≡ true
    fitting true = grind (arith, nat_tests)
    fitting false = grind (arith, nat_tests)

    masks : (own : Bool) → own ≡ true → (if own then (part_at w r).mask else none_of (top + 1)) ≡ owned_mask own (part_at w r).mask
    masks true e = refl
    masks false e = absurd (cc)

pub kept-offers : (top : ℕ) (w : World) (r : ℕ) (key : Key) → r < length w.parts → is_due (stage_of (part_at w r).opened key) ≡ true → Kept top w → Kept top (moved w r (make_offer r top (part_at w r) key))
unfolding make_offer
kept-offers top w r key lt due h = go (stage_of (part_at w r).opened key) refl due
  where
    go : (s : Option Stage) → stage_of (part_at w r).opened key ≡ s → is_due s ≡ true → Kept top (moved w r (if_waiting r top (part_at w r) key s))
    go (Some (Waiting i)) e d = kept-offer_of top w r key i (may_own (part_at w r) key) lt e (own_none (part_at w r) key) h
    go None e d = absurd (cc)
    go (Some (Sharing s)) e d = absurd (cc)
    go (Some Called) e d = absurd (cc)
    go (Some (Offered i own)) e d = absurd (cc)
    go (Some (Done c)) e d = absurd (cc)
