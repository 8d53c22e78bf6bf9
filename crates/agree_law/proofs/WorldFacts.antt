-- The facts of every world that holds what is kept.
use Rattle.std.proofs.Common.{◌≡◌, ◌≢◌, ◌⊎◌, ◌≤◌, ◌<◌, ◌+◌, ◌==◌, ◌&&◌, not, ℕ, zero, suc, Bool, true, false, if◌then◌else◌, List, [], ◌∷◌, length, get_or, find, slice_get, Option, Some, None, refl, sym, subst, ap, ◌∙◌, inl, inr, arith, ⊎_elim}
use Rattle.std.specs.Prelude.{nat_lt}
use Rattle.std.specs.List.{range_with_len}
use Rattle.std.proofs.lemmas.Bool.Decides.{nat_tests}
use Rattle.mpi_base.specs.declared.keys.Key.{Key}
use Rattle.mpi_base.specs.Keys.{same_key}
use Rattle.mpi_base.proofs.KeyFacts.{same_key-refl}
use Rattle.agree_law.specs.declared.rows.Stage.{Stage}
use Rattle.agree_law.specs.declared.rows.Stage.TheVariants.{Sharing, Called, Waiting, Offered, Done}
use Rattle.agree_law.specs.declared.rows.Verdict.TheVariants.{Ready, Retry, Context, Exhausted}
use Rattle.agree_law.specs.Tree.{place_in, member_at, parent_of, is_child}
use Rattle.agree_law.specs.Part.{Offer, stage_of, round_of}
use Rattle.agree_law.specs.Packets.{Packet, Up, Down, Share, Shares}
use Rattle.agree_law.specs.Gather.{is_ready, all_own, common_mask, picked, least_common, verdict_of}
use Rattle.agree_law.specs.Verdicts.{may_settle_offers}
use Rattle.agree_law.specs.World.{Flight, World, part_at}
use Rattle.agree_law.specs.Facts.{count, OwnersHaveOffered, is_up_of, is_down_of, is_flown, is_offer, OneToken, is_called, AllHaveCalled, IsAndOf, UpsCarryMasks, GatheredCarryMasks, PicksAreFree, ExhaustedIsTaken, RetriesHaveZero}
use Rattle.agree_law.proofs.Lists.{AllOf, tally, one}
use Rattle.agree_law.proofs.TreeFacts.{parent_below}
use Rattle.agree_law.proofs.RowFacts.{of_key, at_place, is_whole, own_of, mask_of, is_ready_is, all_own_is, common_is}
use Rattle.agree_law.proofs.KeyKept.{View, view_of, owned_mask, up_from_rank, down_to_rank, stage_fits, IsOf, IsFree, Held, Flies, FliesAt, KeyKept}
use Rattle.agree_law.proofs.OnePlace.{Distinct}
use Rattle.agree_law.proofs.Decide.{whole_own, whole_child}
use Rattle.agree_law.proofs.Links.{key_of, of_links}
use Rattle.agree_law.proofs.Kept.{is_good, seat, Kept, Distinct_of}
use Rattle.agree_law.proofs.OwnSteps.{fits_at}
use Rattle.agree_law.proofs.Decided.{Offers, Calls, Owns, offers_of}
use Rattle.agree_law.proofs.DownSteps.{settling, said_facts, seat_is}
use Rattle.agree_law.proofs.Subtrees.{was_whole, under_first, free_under, lacks_under, zero_under}

-- The owner

owns_offered : (s : Option Stage) (g c : ℕ) → stage_fits s g c true ≡ true → (i : ℕ) × (s ≡ Some (Offered i true))
owns_offered None g c e = absurd (let z : (g == 0) && ((c == 0) && false) ≡ true = e in grind (arith, z))
owns_offered (Some (Sharing s)) g c e = absurd (cc)
owns_offered (Some Called) g c e = absurd (let z : (g == 0) && ((c == 1) && false) ≡ true = e in grind (arith, z))
owns_offered (Some (Waiting i)) g c e = absurd (let z : (g == i) && (nat_lt 0 i && ((c == 0) && false)) ≡ true = e in grind (arith, z))
owns_offered (Some (Offered i true)) g c e = (i, refl)
owns_offered (Some (Offered i false)) g c e = absurd (let z : (g == i) && (nat_lt 0 i && ((c == 1) && false)) ≡ true = e in grind (arith, z))
owns_offered (Some (Done x)) g c e = absurd (let z : (g == 0) && ((c == 0) && false) ≡ true = e in grind (arith, z))

pub owners_have_offered : (top : ℕ) (w : World) → Kept top w → OwnersHaveOffered w
owners_have_offered top w h r key owner =
    let good = h.owner r key owner in
    let f = fits_at top w r key good h in
    let x = owns_offered (stage_of (part_at w r).opened key) (round_of (part_at w r).rounds key) (tally (at_place (place_in key.members r)) (of_key (part_at w r).gathered key))
    (subst (λ b. stage_fits (stage_of (part_at w r).opened key) (round_of (part_at w r).rounds key) (tally (at_place (place_in key.members r)) (of_key (part_at w r).gathered key)) b ≡ true) owner f) in
    record { round = x.0; stage = x.1 }

-- Tokens

count_offers : (os : List Offer) (key : Key) (p : ℕ) → count (is_offer key p) os ≡ tally (at_place p) (of_key os key)
count_offers [] key p = refl
count_offers (o ∷ os) key p = let ih = count_offers os key p in grind (arith, ih)

-- an `Up` of the key from a place goes to the place's parent
count_ups : (top n : ℕ) (m : ℕ → ℕ) (V : ℕ → View) (key : Key) (p : ℕ) (fs : List Flight) → Distinct n m → p < n → AllOf (FliesAt top n m V) (of_links fs key) → count (is_flown (is_up_of key) (m p) (m (parent_of p))) fs ≡ tally (up_from_rank (m p)) (of_links fs key)
count_ups top n m V key p [] d lt h = refl
count_ups top n m V key p (f ∷ fs) d lt h = go (same_key (key_of f.packet) key) refl h (count_ups top n m V key p fs d lt)
  where
    ups : ℕ
    ups = count (is_flown (is_up_of key) (m p) (m (parent_of p))) fs

    apart : (q : Packet) → same_key (key_of q) key ≡ false → is_up_of key q ≡ false
    apart (Up k i own mask) e = e
    apart (Down k i v) e = refl
    apart (Share k s) e = refl
    apart (Shares k ss) e = refl

    mine : (from to : ℕ) (q : Packet) → same_key (key_of q) key ≡ true → Flies top n m V from to q → (is_up_of key q && ((from == m p) && (to == m (parent_of p)))) ≡ up_from_rank (m p) (record { from = from; to = to; packet = q })
    mine from to (Up k i own mask) e x =
        let edge = x.1 in
        let low = edge.low in
        let high = edge.high in
        let same = d x.0 p edge.inside lt in
        by (from == m p) refl
      where
        by : (b : Bool) → (from == m p) ≡ b → (same_key k key && ((from == m p) && (to == m (parent_of p)))) ≡ (from == m p)
        by true f =
            let edge = x.1 in
            let low = edge.low in
            let high = edge.high in
            let same = d x.0 p edge.inside lt in
            let is : x.0 ≡ p = grind (arith, nat_tests, same, low, f) in
            let there : to ≡ m (parent_of p) = high ∙ ap (λ z. m (parent_of z)) is in
            grind (arith, nat_tests, e, there)
        by false f = grind (arith, f)
    mine from to (Down k i v) e x = refl
    mine from to (Share k s) e x = refl
    mine from to (Shares k ss) e x = refl

    go : (b : Bool) → same_key (key_of f.packet) key ≡ b → AllOf (FliesAt top n m V) (if b then f ∷ of_links fs key else of_links fs key) → (AllOf (FliesAt top n m V) (of_links fs key) → ups ≡ tally (up_from_rank (m p)) (of_links fs key))
        → (if is_up_of key f.packet && ((f.from == m p) && (f.to == m (parent_of p))) then 1 else 0) + ups ≡ tally (up_from_rank (m p)) (if b then f ∷ of_links fs key else of_links fs key)
    go true e h ih = let x = mine f.from f.to f.packet e h.0 in let y = ih h.1 in rw x (omega (arith, y, ones (up_from_rank (m p) f)))
      where
        ones : (c : Bool) → (if c then 1 else 0) ≡ one c
        ones true = refl
        ones false = refl
    go false e h ih = let x = apart f.packet e in let y = ih h in rw x (omega (arith, y))

-- a `Down` of the key to a place comes from the place's parent
count_downs : (top n : ℕ) (m : ℕ → ℕ) (V : ℕ → View) (key : Key) (p : ℕ) (fs : List Flight) → Distinct n m → p < n → AllOf (FliesAt top n m V) (of_links fs key) → count (is_flown (is_down_of key) (m (parent_of p)) (m p)) fs ≡ tally (down_to_rank (m p)) (of_links fs key)
count_downs top n m V key p [] d lt h = refl
count_downs top n m V key p (f ∷ fs) d lt h = go (same_key (key_of f.packet) key) refl h (count_downs top n m V key p fs d lt)
  where
    downs : ℕ
    downs = count (is_flown (is_down_of key) (m (parent_of p)) (m p)) fs

    apart : (q : Packet) → same_key (key_of q) key ≡ false → is_down_of key q ≡ false
    apart (Up k i own mask) e = refl
    apart (Down k i v) e = e
    apart (Share k s) e = refl
    apart (Shares k ss) e = refl

    mine : (from to : ℕ) (q : Packet) → same_key (key_of q) key ≡ true → Flies top n m V from to q → (is_down_of key q && ((from == m (parent_of p)) && (to == m p))) ≡ down_to_rank (m p) (record { from = from; to = to; packet = q })
    mine from to (Up k i own mask) e x = refl
    mine from to (Down k i v) e x = by (to == m p) refl
      where
        by : (b : Bool) → (to == m p) ≡ b → (same_key k key && ((from == m (parent_of p)) && (to == m p))) ≡ (to == m p)
        by true f =
            let edge = x.1 in
            let low = edge.low in
            let high = edge.high in
            let same = d x.0 p edge.inside lt in
            let is : x.0 ≡ p = grind (arith, nat_tests, same, low, f) in
            let there : from ≡ m (parent_of p) = high ∙ ap (λ z. m (parent_of z)) is in
            grind (arith, nat_tests, e, there, f)
        by false f = grind (arith, f)
    mine from to (Share k s) e x = refl
    mine from to (Shares k ss) e x = refl

    go : (b : Bool) → same_key (key_of f.packet) key ≡ b → AllOf (FliesAt top n m V) (if b then f ∷ of_links fs key else of_links fs key) → (AllOf (FliesAt top n m V) (of_links fs key) → downs ≡ tally (down_to_rank (m p)) (of_links fs key))
        → (if is_down_of key f.packet && ((f.from == m (parent_of p)) && (f.to == m p)) then 1 else 0) + downs ≡ tally (down_to_rank (m p)) (if b then f ∷ of_links fs key else of_links fs key)
    go true e h ih = let x = mine f.from f.to f.packet e h.0 in let y = ih h.1 in rw x (omega (arith, y, ones (down_to_rank (m p) f)))
      where
        ones : (c : Bool) → (if c then 1 else 0) ≡ one c
        ones true = refl
        ones false = refl
    go false e h ih = let x = apart f.packet e in let y = ih h in rw x (omega (arith, y))

ready_is : (os : List Offer) (key : Key) (p : ℕ) → is_ready os key p ≡ is_whole (of_key os key) p (length key.members)
unfolding is_ready
ready_is os key p = is_ready_is os key p (length key.members)

pub one_token : (top : ℕ) (w : World) → Kept top w → OneToken w
one_token top w h key p good pos lt =
    let k = h.each key good in
    let n = length key.members in
    let m = member_at key.members in
    let V = seat w.parts key in
    let d = Distinct_of (length w.parts) key good in
    let t = k.token p pos lt in
    let a = count_ups top n m V key p w.links d lt k.flown in
    let b = count_downs top n m V key p w.links d lt k.flown in
    let c = count_offers (part_at w (m (parent_of p))).gathered key p in
    let r = ready_is (part_at w (m p)).gathered key p in
    rw r (let z = homes (is_whole (of_key (part_at w (m p)).gathered key) p n) in omega (arith, t, a, b, c, z))
  where
    homes : (x : Bool) → (if x then 0 else 1) ≡ one (not x)
    homes true = refl
    homes false = refl

-- All have called

-- a place in a later round, or whose gather is whole
abbrev HasCalled : ℕ → View → ℕ → Type 0
HasCalled n v p = (0 < v.round) ⊎ (is_whole v.offers p n ≡ true)

called_below : (top n : ℕ) (m : ℕ → ℕ) (V : ℕ → View) (fs : List Flight) → KeyKept top n m V fs → (q : ℕ) → 0 < q → q < n → HasCalled n (V (parent_of q)) (parent_of q) → HasCalled n (V q) q
called_below top n m V fs h q pos lt c =
    ⊎_elim
    (λ (e : 0 < (V (parent_of q)).round). go (tally (down_to_rank (m q)) fs == 0) refl e)
    (λ (e : is_whole (V (parent_of q)).offers (parent_of q) n ≡ true).
    let child : is_child (parent_of q) q ≡ true = grind (arith, nat_tests, pos) in
    let there = whole_child (V (parent_of q)).offers (parent_of q) n q e child lt in
    let t = h.token q pos lt in
    inr (was_whole (is_whole (V q).offers q n) (omega (arith, t, there))))
    c
  where
    go : (b : Bool) → (tally (down_to_rank (m q)) fs == 0) ≡ b → 0 < (V (parent_of q)).round → HasCalled n (V q) q
    go true s e = let l = h.level q pos lt (grind (arith, nat_tests, s)) in inl (omega (arith, e, l))
    go false s e =
        let t = h.token q pos lt in
        let ne : tally (down_to_rank (m q)) fs ≢ 0 = grind (arith, nat_tests, s) in
        inr (was_whole (is_whole (V q).offers q n) (omega (arith, t, ne)))

called_stage : (s : Option Stage) (g c : ℕ) (b : Bool) → stage_fits s g c b ≡ true → (0 < g) ⊎ (1 ≤ c) → is_called s ≡ true
called_stage (Some Called) g c b e d = refl
called_stage (Some (Waiting i)) g c b e d = refl
called_stage (Some (Offered i own)) g c b e d = refl
called_stage (Some (Sharing s)) g c b e d = absurd (cc)
called_stage None g c b e d = absurd (⊎_elim (λ (x : 0 < g). (let z : (g == 0) ≡ true = grind (arith, e) in grind (arith, nat_tests, z, x))) (λ (x : 1 ≤ c). (let z : (c == 0) ≡ true = grind (arith, e) in grind (arith, nat_tests, z, x))) d)
called_stage (Some (Done y)) g c b e d = absurd (⊎_elim (λ (x : 0 < g). (let z : (g == 0) ≡ true = grind (arith, e) in grind (arith, nat_tests, z, x))) (λ (x : 1 ≤ c). (let z : (c == 0) ≡ true = grind (arith, e) in grind (arith, nat_tests, z, x))) d)

called_from : (top n : ℕ) (m : ℕ → ℕ) (V : ℕ → View) (fs : List Flight) → KeyKept top n m V fs → HasCalled n (V 0) 0 → (k q : ℕ) → q ≤ k → q < n → HasCalled n (V q) q
called_from top n m V fs h c k zero le lt = c
called_from top n m V fs h c zero (suc q) le lt = absurd (omega arith)
called_from top n m V fs h c (suc k) (suc q) le lt =
    let less = parent_below (suc q) (omega arith) in
    called_below top n m V fs h (suc q) (omega arith) lt (called_from top n m V fs h c k (parent_of (suc q)) (omega (arith, less)) (omega (arith, less, lt)))

pub all_have_called : (top : ℕ) (w : World) → Kept top w → AllHaveCalled w
all_have_called top w h key q good pos lt =
    let k = h.each key good in
    let n = length key.members in
    let V = seat w.parts key in
    let c = called_from top n (member_at key.members) V (of_links w.links key) k (inl pos) q q (omega arith) lt in
    called_stage (V q).stage (V q).round (tally (at_place q) (V q).offers) (V q).owns (k.fits q lt) (⊎_elim (λ (x : 0 < (V q).round). inl x) (λ (x : is_whole (V q).offers q n ≡ true). inr (whole_own (V q).offers q n x)) c)

-- Carried masks

pub in_links : (P : Flight → Type 0) (fs : List Flight) (key : Key) (k : ℕ) (f : Flight) → slice_get fs k ≡ Some f → same_key (key_of f.packet) key ≡ true → AllOf P (of_links fs key) → P f
in_links P [] key k f e s h = absurd (cc)
in_links P (g ∷ fs) key zero f e s h = let is : g ≡ f = cc in (let t : same_key (key_of g.packet) key ≡ true = rw is s in go t h is)
  where
    go : same_key (key_of g.packet) key ≡ true → AllOf P (of_links (g ∷ fs) key) → g ≡ f → P f
    go t h is = subst P is (first (same_key (key_of g.packet) key) t h)
      where
        first : (b : Bool) → b ≡ true → AllOf P (if b then g ∷ of_links fs key else of_links fs key) → P g
        first true t h = h.0
        first false t h = absurd (cc)
in_links P (g ∷ fs) key (suc k) f e s h = in_links P fs key k f e s (go (same_key (key_of g.packet) key) h)
  where
    go : (b : Bool) → AllOf P (if b then g ∷ of_links fs key else of_links fs key) → AllOf P (of_links fs key)
    go true h = h.1
    go false h = h

-- where a place is whole and owns, its mask is the and of those below it
and_of : (top : ℕ) (w : World) (key : Key) (p : ℕ) → Kept top w → is_good (length w.parts) key ≡ true → p < length key.members → is_whole (seat w.parts key p).offers p (length key.members) ≡ true → own_of (seat w.parts key p).offers ≡ true
    → IsAndOf top w key p (mask_of top (seat w.parts key p).offers)
and_of top w key p h good lt whole own =
    let k = h.each key good in
    let n = length key.members in
    let m = member_at key.members in
    let V = seat w.parts key in
    record {
      each = λ c q bit u ltq. let f = free_under top n m V (of_links w.links key) k p q c u ltq whole (own, bit) in let owns = f.0 in record { owner = owns; free = subst (λ b. get_or (owned_mask b (part_at w (m q)).mask) c false ≡ true) owns f.1 };
      all = λ c pos le bit.
          let f = lacks_under top n m V (of_links w.links key) k n p c (omega arith) lt pos le whole own bit in
          let owns = f.owns in
          record { place = f.place; inside = f.inside; under = f.under; owner = owns; lacks = subst (λ b. get_or (owned_mask b (part_at w (m f.place)).mask) c false ≡ false) owns f.lacks };
    }

pub ups_carry_masks : (top : ℕ) (w : World) → Kept top w → UpsCarryMasks top w
ups_carry_masks top w h key p i mask to place good pos lt ipos there =
    let k = h.each key good in
    let n = length key.members in
    let m = member_at key.members in
    let V = seat w.parts key in
    let x = in_links (FliesAt top n m V) w.links key place (record { from = m p; to = to; packet = Up key i true mask }) there (same_key-refl key) k.flown in
    let edge = x.1 in
    let low = edge.low in
    let same = Distinct_of (length w.parts) key good p x.0 lt edge.inside in
    let is : x.0 ≡ p = grind (arith, nat_tests, same, low) in
    let of : IsOf top (V p) true mask = subst (λ z. IsOf top (V z) true mask) is x.3 in
    let ups : 1 ≤ tally (up_from_rank (m p)) (of_links w.links key) = has_up w.links place there in
    let t = k.token p pos lt in
    let whole = was_whole (is_whole (V p).offers p n) (omega (arith, t, ups)) in
    subst (λ y. IsAndOf top w key p y) (sym of.mask) (and_of top w key p h good lt whole (sym of.owns))
  where
    has_up : (fs : List Flight) (k : ℕ) → slice_get fs k ≡ Some (record { from = member_at key.members p; to = to; packet = Up key i true mask }) → 1 ≤ tally (up_from_rank (member_at key.members p)) (of_links fs key)
    has_up [] k e = absurd (cc)
    has_up (g ∷ fs) zero e =
        let is : g ≡ record { from = member_at key.members p; to = to; packet = Up key i true mask } = cc in
        let r = same_key-refl key in
        let s : (member_at key.members p == member_at key.members p) ≡ true = grind (arith, nat_tests) in
        subst (λ y. 1 ≤ tally (up_from_rank (member_at key.members p)) (of_links (y ∷ fs) key)) (sym is) (rw r (rw s (omega arith)))
    has_up (g ∷ fs) (suc k) e = go (same_key (key_of g.packet) key) (has_up fs k e)
      where
        go : (b : Bool) → 1 ≤ tally (up_from_rank (member_at key.members p)) (of_links fs key) → 1 ≤ tally (up_from_rank (member_at key.members p)) (if b then g ∷ of_links fs key else of_links fs key)
        go true ih = omega (arith, ih)
        go false ih = ih

in_offers : (P : Offer → Type 0) (os : List Offer) (key : Key) (k : ℕ) (o : Offer) → slice_get os k ≡ Some o → same_key o.key key ≡ true → AllOf P (of_key os key) → P o × (1 ≤ tally (at_place o.place) (of_key os key))
in_offers P [] key k o e s h = absurd (cc)
in_offers P (g ∷ os) key zero o e s h =
    let is : g ≡ o = cc in
    subst (λ y. P y × (1 ≤ tally (at_place y.place) (of_key (g ∷ os) key))) is (first (same_key g.key key) (rw is s) h)
  where
    first : (b : Bool) → b ≡ true → AllOf P (if b then g ∷ of_key os key else of_key os key) → P g × (1 ≤ tally (at_place g.place) (if b then g ∷ of_key os key else of_key os key))
    first true t h = (h.0, grind (arith, nat_tests))
    first false t h = absurd (cc)
in_offers P (g ∷ os) key (suc k) o e s h = go (same_key g.key key) h (in_offers P os key k o e s)
  where
    go : (b : Bool) → AllOf P (if b then g ∷ of_key os key else of_key os key) → (AllOf P (of_key os key) → P o × (1 ≤ tally (at_place o.place) (of_key os key))) → P o × (1 ≤ tally (at_place o.place) (if b then g ∷ of_key os key else of_key os key))
    go true h ih = let x = ih h.1 in let y = x.1 in (x.0, omega (arith, y))
    go false h ih = ih h

pub gathered_carry_masks : (top : ℕ) (w : World) → Kept top w → GatheredCarryMasks top w
gathered_carry_masks top w h key p mask place good pos lt ipos there =
    let k = h.each key good in
    let n = length key.members in
    let m = member_at key.members in
    let V = seat w.parts key in
    let less = parent_below p pos in
    let x = in_offers (Held top n (V (parent_of p)) (parent_of p) V) (part_at w (m (parent_of p))).gathered key place (record { key = key; place = p; own = true; mask = mask }) there (same_key-refl key) (k.held (parent_of p) (omega (arith, less, lt))) in
    let of = x.0.child (λ e. omega (arith, less, e)) in
    let t = k.token p pos lt in
    let y = x.1 in
    let whole = was_whole (is_whole (V p).offers p n) (omega (arith, t, y)) in
    subst (λ z. IsAndOf top w key p z) (sym of.mask) (and_of top w key p h good lt whole (sym of.owns))

-- Picks

-- what is gathered at the first member at a settle
pub record FirstWhole (w : World) (r : ℕ) (key : Key) : Type 0 where
  pub good : is_good (length w.parts) key ≡ true
  pub some : 0 < length key.members
  pub whole : is_whole (seat w.parts key 0).offers 0 (length key.members) ≡ true
  pub view : seat w.parts key 0 ≡ view_of (part_at w r) key

pub first_whole : (top : ℕ) (w : World) (r : ℕ) (key : Key) → may_settle_offers r (part_at w r) key ≡ true → Kept top w → FirstWhole w r key
first_whole top w r key may h =
    let s = settling top w r key may h in
    let g = s.good in
    let v = seat_is w key r (grind (arith, g)) in
    let z = s.first in
    let view : seat w.parts key 0 ≡ view_of (part_at w r) key = subst (λ p. seat w.parts key p ≡ view_of (part_at w r) key) z v in
    record {
      good = grind (arith, g);
      some = s.some;
      whole = subst (λ y. is_whole y.offers 0 (length key.members) ≡ true) (sym view) (subst (λ p. is_whole (of_key (part_at w r).gathered key) p (length key.members) ≡ true) z s.whole);
      view = view;
    }

pub picks_are_free : (top : ℕ) (w : World) → Kept top w → PicksAreFree top w
picks_are_free top w h r key c q may is lt =
    let f = first_whole top w r key may h in
    let s = said_facts top (part_at w r) key in
    let free : IsFree top (view_of (part_at w r) key) (Context c) = subst (λ v. IsFree top (view_of (part_at w r) key) v) is s.1 in
    let free0 : IsFree top (seat w.parts key 0) (Context c) = subst (λ v. IsFree top v (Context c)) (sym f.view) free in
    let x = free_under top (length key.members) (member_at key.members) (seat w.parts key) (of_links w.links key) (h.each key f.good) 0 q c (under_first q) lt f.whole free0 in
    let owns = x.0 in
    record { owner = owns; free = subst (λ b. get_or (owned_mask b (part_at w (member_at key.members q)).mask) c false ≡ true) owns x.1 }

find_none : (p : ℕ → Bool) (a n c : ℕ) → find p (range_with_len a n) ≡ None → a ≤ c → c < a + n → p c ≡ false
find_none p a zero c e lo hi = absurd (omega arith)
find_none p a (suc n) c e lo hi = go (p a) refl (a == c) refl (find_none p (a + 1) n c) e
  where
    go : (b : Bool) → p a ≡ b → (d : Bool) → (a == c) ≡ d → (find p (range_with_len (a + 1) n) ≡ None → a + 1 ≤ c → c < a + 1 + n → p c ≡ false) → (if b then Some a else find p (range_with_len (a + 1) n)) ≡ None → p c ≡ false
    go true s d t ih e = absurd (cc)
    go false s true t ih e = let is : a ≡ c = grind (arith, nat_tests, t) in subst (λ z. p z ≡ false) is s
    go false s false t ih e = let ne : a ≢ c = grind (arith, nat_tests, t) in ih e (omega (arith, ne)) (omega arith)

none_common : (top : ℕ) (os : List Offer) (key : Key) (c : ℕ) → least_common top os key ≡ None → 0 < c → c ≤ top → get_or (common_mask top os key) c false ≡ false
unfolding least_common
none_common top os key c e pos le = find_none (λ z. get_or (common_mask top os key) z false) 1 top c e (omega arith) (omega arith)

exhausted_facts : (top : ℕ) (os : List Offer) (key : Key) (i : ℕ) → verdict_of top os key i ≡ Exhausted → (all_own os key ≡ true) × (least_common top os key ≡ None)
exhausted_facts top os key i e = go (i == 0) (all_own os key) (least_common top os key) e
  where
    go : (z b : Bool) (l : Option ℕ) → (if z then Ready else (if b then picked l else Retry)) ≡ Exhausted → (b ≡ true) × (l ≡ None)
    go true b l e = absurd (cc)
    go false false l e = absurd (cc)
    go false true None e = (refl, refl)
    go false true (Some d) e = absurd (cc)

pub exhausted_is_taken : (top : ℕ) (w : World) → Kept top w → ExhaustedIsTaken top w
exhausted_is_taken top w h r key c may is pos le =
    let f = first_whole top w r key may h in
    let x = exhausted_facts top (part_at w r).gathered key (round_of (part_at w r).rounds key) is in
    let own : own_of (of_key (part_at w r).gathered key) ≡ true = sym (all_own_is (part_at w r).gathered key) ∙ x.0 in
    let bit : get_or (mask_of top (of_key (part_at w r).gathered key)) c false ≡ false = ap (λ m. get_or m c false) (sym (common_is top (part_at w r).gathered key)) ∙ none_common top (part_at w r).gathered key c x.1 pos le in
    let P : View → Type 0 = λ v. (own_of v.offers ≡ true) × (get_or (mask_of top v.offers) c false ≡ false) in
    let at : P (seat w.parts key 0) = subst P (sym f.view) (own, bit) in
    let l = lacks_under top (length key.members) (member_at key.members) (seat w.parts key) (of_links w.links key) (h.each key f.good) (length key.members) 0 c (omega arith) f.some pos le f.whole at.0 at.1 in
    let owns = l.owns in
    record { place = l.place; inside = l.inside; under = l.under; owner = owns; lacks = subst (λ b. get_or (owned_mask b (part_at w (member_at key.members l.place)).mask) c false ≡ false) owns l.lacks }

pub retry_facts : (top : ℕ) (os : List Offer) (key : Key) (i : ℕ) → verdict_of top os key i ≡ Retry → (all_own os key ≡ false) × (0 < i)
retry_facts top os key i e = go (i == 0) refl (all_own os key) refl (least_common top os key) e
  where
    go : (z : Bool) → (i == 0) ≡ z → (b : Bool) → all_own os key ≡ b → (l : Option ℕ) → (if z then Ready else (if b then picked l else Retry)) ≡ Retry → (all_own os key ≡ false) × (0 < i)
    go true s b f l e = absurd (cc)
    go false s false f l e = (f, grind (arith, nat_tests, s))
    go false s true f None e = absurd (cc)
    go false s true f (Some d) e = absurd (cc)

offered_zero : (s : Option Stage) (g : ℕ) (b : Bool) → Offers s g b → 0 < g → b ≡ false → s ≡ Some (Offered g false)
offered_zero s g b Calls pos e = absurd (omega (arith, pos))
offered_zero s g b (Owns j own p) pos e = ap (λ z. Some (Offered j z)) e

pub retries_have_zero : (top : ℕ) (w : World) → Kept top w → RetriesHaveZero top w
retries_have_zero top w h r key may is =
    let f = first_whole top w r key may h in
    let x = retry_facts top (part_at w r).gathered key (round_of (part_at w r).rounds key) is in
    let own : own_of (of_key (part_at w r).gathered key) ≡ false = sym (all_own_is (part_at w r).gathered key) ∙ x.0 in
    let own0 : own_of (seat w.parts key 0).offers ≡ false = subst (λ v. own_of v.offers ≡ false) (sym f.view) own in
    let k = h.each key f.good in
    let n = length key.members in
    let V = seat w.parts key in
    let z = zero_under top n (member_at key.members) V (of_links w.links key) k n 0 (omega arith) f.some f.whole own0 in
    let o = offers_of (V z.place).stage (V z.place).round (tally (at_place z.place) (V z.place).offers) (V z.place).owns (k.fits z.place z.inside) (whole_own (V z.place).offers z.place n z.whole) in
    let round : (V z.place).round ≡ round_of (part_at w r).rounds key = z.round ∙ ap (λ (v : View). v.round) f.view in
    let pos = x.1 in
    record { place = z.place; inside = z.inside; stage = subst (λ i. stage_of (part_at w (member_at key.members z.place)).opened key ≡ Some (Offered i false)) round (offered_zero (V z.place).stage (V z.place).round (V z.place).owns o (omega (arith, round, pos)) z.owns) }
