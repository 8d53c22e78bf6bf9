-- Settles and packets down keep what is kept, and each `Down` that comes is taken.
use Rattle.std.proofs.Common.{◌≡◌, ◌≤◌, ◌<◌, ◌+◌, ◌==◌, ◌&&◌, not, ℕ, Bool, true, false, if◌then◌else◌, List, [], ◌∷◌, ◌++◌, map, length, get_or, set, find, Option, Some, None, refl, sym, subst, ap, ◌∙◌, arith}
use Rattle.std.specs.Prelude.{nat_lt}
use Rattle.std.specs.List.{range_with_len}
use Rattle.std.proofs.lemmas.Bool.Decides.{nat_tests}
use Rattle.mpi_base.specs.declared.keys.Key.{Key}
use Rattle.mpi_base.specs.Keys.{same_key}
use Rattle.mpi_base.specs.MemberLists.{has_rank}
use Rattle.mpi_base.proofs.KeyFacts.{same_key-refl, same_key_is}
use Rattle.agree_law.specs.declared.rows.Stage.{Stage}
use Rattle.agree_law.specs.declared.rows.Verdict.{Verdict}
use Rattle.agree_law.specs.declared.rows.Verdict.TheVariants.{Ready, Retry, Context, Exhausted}
use Rattle.agree_law.specs.Tree.{place_in, member_at, parent_of, children_of, is_below}
use Rattle.agree_law.specs.Part.{Offer, Agree, stage_of, round_of}
use Rattle.agree_law.specs.Packets.{Down}
use Rattle.agree_law.specs.Kinds.{is_share}
use Rattle.agree_law.specs.Rule.{is_key}
use Rattle.agree_law.specs.Gather.{is_ready, all_own, common_mask, picked, least_common, verdict_of}
use Rattle.agree_law.specs.Verdicts.{pass_down, decide, may_settle_offers, settle_offers, awaits_ready, awaits_round, awaits, takes_down, take_down}
use Rattle.agree_law.specs.World.{Flight, World, part_at, flights_of, moved, head_of, popped}
use Rattle.agree_law.proofs.Lists.{AllOf, AllOf-append, AllOf-without, AllOf_each, tally, one, tally-without}
use Rattle.agree_law.proofs.TreeFacts.{member_place, first_place}
use Rattle.agree_law.proofs.RowFacts.{of_key, of_key-drop, at_place, is_whole, is_ready_is, all_own_is, common_is}
use Rattle.agree_law.proofs.KeyKept.{View, view_of, owned_mask, up_from_rank, down_to_rank, Local, Held, next_round, is_said_of, IsFree, FliesAt, KeyKept}
use Rattle.agree_law.proofs.Decide.{downs_of, decide as decide_key, whole_own}
use Rattle.agree_law.proofs.Links.{key_of, of_links, of_links-append, of_links-all, of_links-none, flight, of_links-other, popped_all}
use Rattle.agree_law.proofs.Kept.{is_good, is_good_at, OfferFits, PacketFits, seat, Kept, Distinct_of, distinct_of, seat_here, seat_others, with_links, kept-moved}
use Rattle.agree_law.proofs.OwnSteps.{fits_at}
use Rattle.agree_law.proofs.UpSteps.{Came, came, ends_of}
use Rattle.agree_law.proofs.Decided.{decided, After, after, OwnsFor, decided_other, owner_was, Offers, Calls, Owns, offers_of, decided_fits, own_free, decided_rows, decided_offers}

downs_are : (key : Key) (r p i : ℕ) (v : Verdict) → flights_of (member_at key.members p) (pass_down key p i v) ≡ downs_of (member_at key.members) (length key.members) p key i v
unfolding pass_down
downs_are key r p i v = go (children_of p (length key.members))
  where
    go : (qs : List ℕ) → flights_of (member_at key.members p) (map (λ q. record { to = member_at key.members q; packet = Down key i v }) qs) ≡ map (λ q. record { from = member_at key.members p; to = member_at key.members q; packet = Down key i v }) qs
    go [] = refl
    go (q ∷ qs) = ap (λ z. record { from = member_at key.members p; to = member_at key.members q; packet = Down key i v } ∷ z) (go qs)

-- what a rank has before a verdict comes to it
pub record Verdicts (top : ℕ) (w : World) (links : List Flight) (r : ℕ) (key : Key) (i : ℕ) (v : Verdict) : Type 0 where
  pub inside : r < length w.parts
  pub good : is_good_at (length w.parts) r key ≡ true
  pub apart : (k : Key) → same_key key k ≡ false → of_links links k ≡ of_links w.links k
  pub flights : AllOf (λ f. PacketFits (length w.parts) f.packet) links
  pub whole : is_whole (of_key (part_at w r).gathered key) (place_in key.members r) (length key.members) ≡ true
  pub was : i ≡ round_of (part_at w r).rounds key
  pub said : is_said_of i v ≡ true
  pub free : IsFree top (view_of (part_at w r) key) v
  pub ups : (q : ℕ) → q < length key.members → tally (up_from_rank (member_at key.members q)) (of_links links key) ≡ tally (up_from_rank (member_at key.members q)) (of_links w.links key)
  pub downs : (q : ℕ) → q < length key.members → tally (down_to_rank (member_at key.members q)) (of_links links key) + one (nat_lt 0 (place_in key.members r) && (place_in key.members r == q)) ≡ tally (down_to_rank (member_at key.members q)) (of_links w.links key)
  pub flown : AllOf (FliesAt top (length key.members) (member_at key.members) (seat w.parts key)) (of_links links key)
  pub above : 0 < place_in key.members r → (seat w.parts key (parent_of (place_in key.members r))).round ≡ next_round i v

-- the member has called, or offered in the round
pub offers_here : (top : ℕ) (w : World) (r : ℕ) (key : Key) → is_good_at (length w.parts) r key ≡ true → is_whole (of_key (part_at w r).gathered key) (place_in key.members r) (length key.members) ≡ true → Kept top w
    → Offers (stage_of (part_at w r).opened key) (round_of (part_at w r).rounds key) (is_key (part_at w r).owner key)
offers_here top w r key good whole h = offers_of _ _ _ _ (fits_at top w r key good h) (whole_own (of_key (part_at w r).gathered key) (place_in key.members r) (length key.members) whole)

-- the seat of a member that is a rank
pub seat_is : (w : World) (key : Key) (r : ℕ) → has_rank key.members r ≡ true → seat w.parts key (place_in key.members r) ≡ view_of (part_at w r) key
seat_is w key r e = ap (λ z. view_of (part_at w z) key) (member_place key.members r e).1

pub free_here : (top : ℕ) (w : World) (r : ℕ) (key : Key) (c : ℕ) → is_good_at (length w.parts) r key ≡ true → is_whole (of_key (part_at w r).gathered key) (place_in key.members r) (length key.members) ≡ true → IsFree top (view_of (part_at w r) key) (Context c) → Kept top w
    → (is_key (part_at w r).owner key ≡ true) × (get_or (part_at w r).mask c false ≡ true)
free_here top w r key c good whole free h =
    let member : has_rank key.members r ≡ true = grind (arith, good) in
    let p : ℕ = place_in key.members r in
    let held : AllOf (Held top (length key.members) (view_of (part_at w r) key) p (seat w.parts key)) (of_key (part_at w r).gathered key) =
    subst (λ v. AllOf (Held top (length key.members) v p (seat w.parts key)) v.offers) (seat_is w key r member) ((h.each key (grind (arith, good))).held p (member_place key.members r member).0) in
    let o = own_free top (length key.members) (view_of (part_at w r) key) p (seat w.parts key) c held whole free in
    let owns = o.0 in
    (owns, subst (λ b. get_or (owned_mask b (part_at w r).mask) c false ≡ true) owns o.1)

owns_for : (top : ℕ) (w : World) (r : ℕ) (key : Key) (v : Verdict) → is_good_at (length w.parts) r key ≡ true → is_whole (of_key (part_at w r).gathered key) (place_in key.members r) (length key.members) ≡ true → IsFree top (view_of (part_at w r) key) v → Kept top w
    → OwnsFor (part_at w r) key v
owns_for top w r key Ready good whole free h = tt
owns_for top w r key Retry good whole free h = tt
owns_for top w r key (Context c) good whole free h = (free_here top w r key c good whole free h).0
owns_for top w r key Exhausted good whole free h = tt

pub kept-decide : (top : ℕ) (w : World) (links : List Flight) (r : ℕ) (key : Key) (i : ℕ) (v : Verdict) → Kept top w → Verdicts top w links r key i v → Kept top (moved (with_links w links) r (decide r (part_at w r) key i v))
unfolding decide
kept-decide top w links r key i v h u =
    let nn : ℕ = length w.parts in
    let good : is_good nn key ≡ true = grind (arith, u.good) in
    let plain : is_share key.kind ≡ false = not_true (is_share key.kind) (grind (arith, good)) in
    let member : has_rank key.members r ≡ true = grind (arith, u.good) in
    let p : ℕ = place_in key.members r in
    let at = member_place key.members r member in
    let a : Agree = part_at w r in
    let n : ℕ = length key.members in
    let m : ℕ → ℕ = member_at key.members in
    let b : Agree = decided a key i v in
    let x : After a b key i v = after a key i v in
    let V : ℕ → View = seat w.parts key in
    let W : ℕ → View = seat (set w.parts r b) key in
    let here : W p ≡ view_of b key = seat_here w.parts key r b u.inside member in
    let old : V p ≡ view_of a key = seat_is w key r member in
    let offers : Offers (stage_of a.opened key) (round_of a.rounds key) (is_key a.owner key) = offers_here top w r key u.good u.whole h in
    let offers' : Offers (stage_of a.opened key) i (is_key a.owner key) = subst (λ z. Offers (stage_of a.opened key) z (is_key a.owner key)) (sym u.was) offers in
    let none : of_key b.gathered key ≡ [] = ap (λ z. of_key z key) x.gathered ∙ of_key-drop a.gathered key key ∙ (rw (same_key-refl key) refl) in
    let round : round_of b.rounds key ≡ next_round i v = x.rounds key ∙ (rw (same_key-refl key) refl) in
    let owns = owns_for top w r key v u.good u.whole u.free h in
    let sent : flights_of r (pass_down key p i v) ≡ downs_of m n p key i v = subst (λ z. flights_of z (pass_down key p i v) ≡ downs_of m n p key i v) at.1 (downs_are key r p i v) in
    let keys : AllOf (λ f. key_of f.packet ≡ key) (downs_of m n p key i v) = downs_key m p (children_of p n) in
    kept-moved top w links r key (record { part = b; sent = pass_down key p i v }) h
    (record {
      inside = u.inside;
      others = λ k e g. decided_other a b key i v k x e owns;
      apart = λ k e g. rw sent
          (of_links-append links (downs_of m n p key i v) k
          ∙ ap (λ z. of_links links k ++ z) (of_links-none (downs_of m n p key i v) k (AllOf_each (λ f. key_of f.packet ≡ key) (λ f. same_key (key_of f.packet) k ≡ false) _ (λ f s. rw s e) keys))
          ∙ nothing (of_links links k) ∙ u.apart k e);
      mine = λ _. rw sent
          (let all = decide_key top n m V W (of_links w.links key) (of_links links key) p i v key (Distinct_of nn key good) (h.each key good)
          (record {
            inside = at.0;
            others = seat_others nn w.parts key r b good member;
            offers = ap (λ (y : View). y.offers) here ∙ none;
            round = ap (λ (y : View). y.round) here ∙ round;
            fits = subst (λ y. Local y p) (sym here) (rw none (decided_fits a b key i v x offers' u.said));
            whole = subst (λ (y : View). is_whole y.offers p n ≡ true) (sym old) u.whole;
            was = u.was ∙ sym (ap (λ (y : View). y.round) old);
            said = u.said;
            free = subst (λ y. IsFree top y v) (sym old) u.free;
            ups = u.ups;
            downs = u.downs;
            flown = u.flown;
            above = u.above;
          }) in
          subst (λ z. KeyKept top n m W z)
          (sym (of_links-append links (downs_of m n p key i v) key
          ∙ ap (λ z. of_links links key ++ z) (of_links-all (downs_of m n p key i v) key (AllOf_each (λ f. key_of f.packet ≡ key) (λ f. same_key (key_of f.packet) key ≡ true) _ (λ f s. rw s (same_key-refl key)) keys))))
          all);
      rows = decided_rows nn r a b key i v x plain (h.rows r);
      offers = decided_offers nn r a b key i v x (h.offers r);
      flights = rw sent (AllOf-append (λ f. PacketFits nn f.packet) links (downs_of m n p key i v) u.flights (downs_fit m p good (children_of p n)));
      owner = λ k e. h.owner r k (owner_was a.owner key k v (subst (λ o. is_key o k ≡ true) x.owner e));
    })
  where
    not_true : (b : Bool) → not b ≡ true → b ≡ false
    not_true true e = absurd (cc)
    not_true false e = refl

    nothing : (xs : List Flight) → xs ++ [] ≡ xs
    nothing [] = refl
    nothing (x ∷ xs) = ap (λ z. x ∷ z) (nothing xs)

    downs_key : (m : ℕ → ℕ) (p : ℕ) (qs : List ℕ) → AllOf (λ (f : Flight). key_of f.packet ≡ key) (map (λ q. record { from = m p; to = m q; packet = Down key i v }) qs)
    downs_key m p [] = tt
    downs_key m p (q ∷ qs) = (refl, downs_key m p qs)

    downs_fit : (m : ℕ → ℕ) (p : ℕ) → is_good (length w.parts) key ≡ true → (qs : List ℕ) → AllOf (λ (f : Flight). PacketFits (length w.parts) f.packet) (map (λ q. record { from = m p; to = m q; packet = Down key i v }) qs)
    downs_fit m p good [] = tt
    downs_fit m p good (q ∷ qs) = (good, downs_fit m p good qs)

-- Settles

find_at : (p : ℕ → Bool) (xs : List ℕ) (c : ℕ) → find p xs ≡ Some c → p c ≡ true
find_at p [] c e = absurd (cc)
find_at p (x ∷ xs) c e = go (p x) refl (find_at p xs c) e
  where
    go : (b : Bool) → p x ≡ b → (find p xs ≡ Some c → p c ≡ true) → (if b then Some x else find p xs) ≡ Some c → p c ≡ true
    go true s ih e = let is : x ≡ c = cc in subst (λ z. p z ≡ true) is s
    go false s ih e = ih e

pub least_at : (top : ℕ) (os : List Offer) (key : Key) (c : ℕ) → least_common top os key ≡ Some c → get_or (common_mask top os key) c false ≡ true
unfolding least_common
least_at top os key c e = find_at (λ z. get_or (common_mask top os key) z false) (range_with_len 1 top) c e

-- what a verdict that is said at the first member rests on
pub said_facts : (top : ℕ) (a : Agree) (key : Key) → (is_said_of (round_of a.rounds key) (verdict_of top a.gathered key (round_of a.rounds key)) ≡ true) × IsFree top (view_of a key) (verdict_of top a.gathered key (round_of a.rounds key))
said_facts top a key = go (round_of a.rounds key == 0) refl (all_own a.gathered key) refl (least_common top a.gathered key) refl
  where
    i : ℕ
    i = round_of a.rounds key

    later : (i : ℕ) → (i == 0) ≡ false → nat_lt 0 i ≡ true
    later i e = grind (arith, nat_tests, e)

    go : (z : Bool) → (round_of a.rounds key == 0) ≡ z → (b : Bool) → all_own a.gathered key ≡ b → (c : Option ℕ) → least_common top a.gathered key ≡ c
        → (is_said_of (round_of a.rounds key) (if z then Ready else (if b then picked c else Retry)) ≡ true) × IsFree top (view_of a key) (if z then Ready else (if b then picked c else Retry))
    go true e b f c g = (e, tt)
    go false e true f None g = (later (round_of a.rounds key) e, tt)
    go false e true f (Some c) g = (later (round_of a.rounds key) e, (sym (all_own_is a.gathered key) ∙ f, ap (λ m. get_or m c false) (sym (common_is top a.gathered key)) ∙ least_at top a.gathered key c g))
    go false e false f c g = (later (round_of a.rounds key) e, tt)

ready_whole : (a : Agree) (key : Key) (p : ℕ) → is_ready a.gathered key p ≡ true → is_whole (of_key a.gathered key) p (length key.members) ≡ true
unfolding is_ready
ready_whole a key p e = sym (is_ready_is a.gathered key p (length key.members)) ∙ e

-- the key of a gather that is whole is good
pub good_of : (n r : ℕ) (os : List Offer) (key : Key) → 1 ≤ tally (λ o. same_key o.key key) os → AllOf (OfferFits n r) os → is_good_at n r key ≡ true
good_of n r [] key e h = absurd (omega arith)
good_of n r (o ∷ os) key e h = go (same_key o.key key) refl (good_of n r os key)
  where
    go : (b : Bool) → same_key o.key key ≡ b → (1 ≤ tally (λ o. same_key o.key key) os → AllOf (OfferFits n r) os → is_good_at n r key ≡ true) → is_good_at n r key ≡ true
    go true s ih = subst (λ k. is_good_at n r k ≡ true) (same_key_is o.key key s) h.0
    go false s ih = ih (grind (arith, e, s)) h.1

of_key_tally : (os : List Offer) (key : Key) (p : ℕ) → 1 ≤ tally (at_place p) (of_key os key) → 1 ≤ tally (λ o. same_key o.key key) os
of_key_tally [] key p e = absurd (omega (arith, e))
of_key_tally (o ∷ os) key p e = go (same_key o.key key) refl (of_key_tally os key p)
  where
    go : (b : Bool) → same_key o.key key ≡ b → (1 ≤ tally (at_place p) (of_key os key) → 1 ≤ tally (λ o. same_key o.key key) os) → 1 ≤ tally (λ o. same_key o.key key) (o ∷ os)
    go true s ih = grind (arith, s)
    go false s ih = (let x : 1 ≤ tally (at_place p) (of_key os key) = grind (arith, e, s) in let y = ih x in grind (arith, s, y))

-- a settle is of a good key whose first member is this rank
pub record Settling (top : ℕ) (w : World) (r : ℕ) (key : Key) : Type 0 where
  pub good : is_good_at (length w.parts) r key ≡ true
  pub first : place_in key.members r ≡ 0
  pub some : 0 < length key.members
  pub whole : is_whole (of_key (part_at w r).gathered key) (place_in key.members r) (length key.members) ≡ true

pub settling : (top : ℕ) (w : World) (r : ℕ) (key : Key) → may_settle_offers r (part_at w r) key ≡ true → Kept top w → Settling top w r key
settling top w r key may h =
    let f = first_place key.members r (grind (arith, may)) in
    let z = f.0 in
    let whole0 = ready_whole (part_at w r) key 0 (grind (arith, may)) in
    let whole : is_whole (of_key (part_at w r).gathered key) (place_in key.members r) (length key.members) ≡ true = rw z whole0 in
    let there = whole_own (of_key (part_at w r).gathered key) 0 (length key.members) whole0 in
    record {
      good = good_of (length w.parts) r (part_at w r).gathered key (of_key_tally (part_at w r).gathered key 0 there) (h.offers r);
      first = z;
      some = f.2;
      whole = whole;
    }

pub kept-settles : (top : ℕ) (w : World) (r : ℕ) (key : Key) → r < length w.parts → may_settle_offers r (part_at w r) key ≡ true → Kept top w → Kept top (moved w r (settle_offers r top (part_at w r) key))
unfolding settle_offers
kept-settles top w r key lt may h =
    let s = settling top w r key may h in
    let good : is_good (length w.parts) key ≡ true = (let g = s.good in grind (arith, g)) in
    let f = said_facts top (part_at w r) key in
    let first = s.first in
    kept-decide top w w.links r key (round_of (part_at w r).rounds key) (verdict_of top (part_at w r).gathered key (round_of (part_at w r).rounds key)) h
    (record {
      inside = lt;
      good = s.good;
      apart = λ k e. refl;
      flights = h.flights;
      whole = s.whole;
      was = refl;
      said = f.0;
      free = f.1;
      ups = λ q l. refl;
      downs = λ q l. (rw first (omega arith));
      flown = (h.each key good).flown;
      above = λ pos. absurd (omega (arith, pos, first));
    })

-- Packets down

-- a packet down comes to a member whose gather is whole
pub record DownThere (top : ℕ) (w : World) (from r : ℕ) (key : Key) (i : ℕ) (v : Verdict) : Type 0 where
  pub good : is_good_at (length w.parts) r key ≡ true
  pub whole : is_whole (of_key (part_at w r).gathered key) (place_in key.members r) (length key.members) ≡ true
  pub was : i ≡ round_of (part_at w r).rounds key
  pub said : is_said_of i v ≡ true
  pub free : IsFree top (view_of (part_at w r) key) v
  pub pos : 0 < place_in key.members r
  pub low : r ≡ member_at key.members (place_in key.members r)
  pub inside : place_in key.members r < length key.members
  pub below : is_below from r key.members ≡ true
  pub above : (seat w.parts key (parent_of (place_in key.members r))).round ≡ next_round i v

record DownAt (top : ℕ) (w : World) (r : ℕ) (key : Key) (i : ℕ) (v : Verdict) (p : ℕ) : Type 0 where
  whole : is_whole (of_key (part_at w r).gathered key) p (length key.members) ≡ true
  was : i ≡ round_of (part_at w r).rounds key
  free : IsFree top (view_of (part_at w r) key) v
  pos : 0 < p
  low : r ≡ member_at key.members p
  inside : p < length key.members
  above : (seat w.parts key (parent_of p)).round ≡ next_round i v

pub down_there : (top : ℕ) (w : World) (from r : ℕ) (key : Key) (i : ℕ) (v : Verdict) → Came top w from r key (Down key i v) → Kept top w → DownThere top w from r key i v
down_there top w from r key i v c h =
    let good = c.good in
    let p = c.flies.0 in
    let e = c.flies.1 in
    let x = ends_of key.members p r from (distinct_of (length w.parts) key good) e in
    let n = length key.members in
    let m = member_at key.members in
    let fs = of_links w.links key in
    let k = h.each key good in
    let t = k.token p e.above e.inside in
    let gone = tally-without (down_to_rank (m p)) fs c.taken.place (flight from r (Down key i v)) c.taken.there in
    let low = e.low in
    let is : (r == m p) ≡ true = grind (arith, nat_tests, low) in
    let one_down : one (r == m p) ≡ 1 = rw is refl in
    let home : one (not (is_whole (seat w.parts key p).offers p n)) ≡ 0 = omega (arith, t, gone, one_down) in
    let here : seat w.parts key p ≡ view_of (part_at w r) key = ap (λ z. view_of (part_at w z) key) (sym e.low) in
    let lp = x.low_place in
    let lm = x.low_member in
    let hm = x.high_member in
    let hp = x.high_place in
    let ch = x.child in
    let all : DownAt top w r key i v p = record {
      whole = subst (λ y. is_whole y.offers p n ≡ true) here (was_whole (is_whole (seat w.parts key p).offers p n) home);
      was = c.flies.2 ∙ ap (λ (y : View). y.round) here;
      free = subst (λ y. IsFree top y v) here c.flies.5;
      pos = e.above;
      low = e.low;
      inside = e.inside;
      above = c.flies.3;
    } in
    let out : DownAt top w r key i v (place_in key.members r) = subst (DownAt top w r key i v) (sym lp) all in
    record {
      good = grind (arith, good, lm);
      whole = out.whole;
      was = out.was;
      said = c.flies.4;
      free = out.free;
      pos = out.pos;
      low = out.low;
      inside = out.inside;
      below = rw (lm, hm, lp, hp) ch;
      above = out.above;
    }
  where
    was_whole : (b : Bool) → one (not b) ≡ 0 → b ≡ true
    was_whole true e = refl
    was_whole false e = absurd (omega (arith, e))

pub down_is_taken : (top : ℕ) (w : World) (from r : ℕ) (key : Key) (i : ℕ) (v : Verdict) → DownThere top w from r key i v → Kept top w → takes_down r (part_at w r) from key i v ≡ true
unfolding takes_down
down_is_taken top w from r key i v d h =
    let good = d.good in
    let plain : not (is_share key.kind) ≡ true = grind (arith, good) in
    let below = d.below in
    let offers = offers_here top w r key good d.whole h in
    let offers' : Offers (stage_of (part_at w r).opened key) i (is_key (part_at w r).owner key) = subst (λ z. Offers (stage_of (part_at w r).opened key) z (is_key (part_at w r).owner key)) (sym d.was) offers in
    let aw : awaits (part_at w r) key i v ≡ true = waits v d.said d.free (stage_of (part_at w r).opened key) refl (is_key (part_at w r).owner key) offers' in
    rw (plain, below, aw) refl
  where
    ready : (i : ℕ) (s : Option Stage) (b : Bool) → Offers s i b → (i == 0) ≡ true → awaits_ready s i ≡ true
    ready i s b Calls e = e
    ready i s b (Owns j own pos) e = absurd (grind (arith, nat_tests, pos, e))

    round : (i : ℕ) (s : Option Stage) (b : Bool) → Offers s i b → nat_lt 0 i ≡ true → awaits_round s i ≡ true
    round i s b Calls e = absurd (grind (arith, nat_tests, e))
    round i s b (Owns j own pos) e = grind (arith, nat_tests, pos)

    waits : (v : Verdict) → is_said_of i v ≡ true → IsFree top (view_of (part_at w r) key) v → (s : Option Stage) → stage_of (part_at w r).opened key ≡ s → (b : Bool) → Offers s i b → awaits (part_at w r) key i v ≡ true
    waits Ready said free s e b o = rw e (ready i s b o said)
    waits Retry said free s e b o = rw e (round i s b o said)
    waits (Context c) said free s e b o = (let f = free_here top w r key c d.good d.whole free h in let f0 = f.0 in let f1 = f.1 in let g = round i s b o said in rw (e, g, f0, f1) refl)
    waits Exhausted said free s e b o = rw e (round i s b o said)

pub kept-down : (top : ℕ) (w : World) (from r : ℕ) (key : Key) (i : ℕ) (v : Verdict) → r < length w.parts → head_of w.links from r ≡ Some (Down key i v) → Kept top w
    → (takes_down r (part_at w r) from key i v ≡ true) × Kept top (moved (with_links w (popped w.links from r)) r (take_down r (part_at w r) from key i v))
unfolding take_down
kept-down top w from r key i v lt head h =
    let c = came top w from r key (Down key i v) head refl (λ e. e) h in
    let d = down_there top w from r key i v c h in
    let t = down_is_taken top w from r key i v d h in
    let good = c.good in
    let low = d.low in
    let n : ℕ = length key.members in
    let m : ℕ → ℕ = member_at key.members in
    let p : ℕ = place_in key.members r in
    let tk = c.taken in
    let y : nat_lt 0 p ≡ true = (let z = d.pos in grind (arith, nat_tests, z)) in (
      t,
      rw t
          (kept-decide top w (popped w.links from r) r key i v h
          (record {
            inside = lt;
            good = d.good;
            apart = λ k e. of_links-other w.links from r (Down key i v) k head e;
            flights = popped_all (λ f. PacketFits (length w.parts) f.packet) w.links from r h.flights;
            whole = d.whole;
            was = d.was;
            said = d.said;
            free = d.free;
            ups = λ q l. (let a = tally-without (up_from_rank (m q)) (of_links w.links key) tk.place (flight from r (Down key i v)) tk.there in let b = ap (λ z. tally (up_from_rank (m q)) z) tk.rest in omega (arith, a, b));
            downs = λ q l. (let a = tally-without (down_to_rank (m q)) (of_links w.links key) tk.place (flight from r (Down key i v)) tk.there in let b = ap (λ z. tally (down_to_rank (m q)) z) tk.rest in
                let g = Distinct_of (length w.parts) key good p q d.inside l in
                let f : (r == m q) ≡ (p == q) = ap (λ z. z == m q) low ∙ g in
                let s = ap one f in
                rw y (omega (arith, a, b, s)));
            flown = subst (λ l. AllOf (FliesAt top n m (seat w.parts key)) l) (sym tk.rest) (AllOf-without (FliesAt top n m (seat w.parts key)) (of_links w.links key) tk.place (h.each key good).flown);
            above = λ _. d.above;
          })),
    )
