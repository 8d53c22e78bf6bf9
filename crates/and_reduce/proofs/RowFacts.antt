-- Rows of offers, and the offers that they stand for.
use Rattle.std.proofs.Common.{◌≡◌, ℕ, ◌+◌, ◌<◌, ◌≤◌, ◌==◌, ◌&&◌, ◌||◌, not, Bool, true, false, List, [], ◌∷◌, ◌++◌, length, map, take, get_or, if◌then◌else◌, refl, sym, ◌∙◌, ap, arith}
use Rattle.std.specs.Prelude.{filter, find, nat_lt, Option, Some, None, IfSome}
use Rattle.std.specs.List.{list_all, list_any, range_with_len}
use Rattle.std.proofs.lemmas.List.Folds.{list_all-map}
use Rattle.std.proofs.lemmas.List.{take_more, map-append, get_or_past}
use Rattle.std.proofs.lemmas.Bool.Decides.{nat_tests}
use Rattle.mpi_base.specs.declared.keys.Key.{Key}
use Rattle.mpi_base.specs.Keys.{same_key}
use Rattle.ctx_mask.specs.Masks.{both, full_of}
use Rattle.ctx_mask.specs.Least.{least_true}
use Rattle.ctx_mask.proofs.MaskFacts.{get_or-both, get_or-full_of, length-full_of}
use Rattle.agree_law.specs.Tree.{is_child, children_of}
use Rattle.agree_law.specs.Part.{Offer, drop_offers}
use Rattle.agree_law.specs.Gather.{has_offer, is_ready, all_own, common_mask, least_common, picked, verdict_of}
use Rattle.and_reduce.specs.declared.offers.OfferRow.{OfferRow}
use Rattle.and_reduce.specs.Fronts.{front}
use Rattle.and_reduce.specs.Rows.{offer_of, has_row}
use Rattle.and_reduce.proofs.FrontFacts.{both_turned, both_grouped, front-both, front-full_of, least_true-front, least-within}

-- a test of some image is the test of what it comes from
list_any-map : {X Y : Type 0} (p : X → Bool) (h : Y → X) (ys : List Y) → list_any p (map h ys) ≡ list_any (λ y. p (h y)) ys
list_any-map p h [] = refl
list_any-map p h (y ∷ ys) = ap (λ b. p (h y) || b) (list_any-map p h ys)

-- a test of all that pass another one
pub list_all-filter : {X : Type 0} (f p : X → Bool) (xs : List X) → list_all f (filter p xs) ≡ list_all (λ x. not (p x) || f x) xs
list_all-filter f p [] = refl
list_all-filter f p (x ∷ xs) = let ih = list_all-filter f p xs in grind (arith, ih)

module _ {w : ℕ} (top : ℕ) (rows : List (OfferRow w)) (key : Key) where
  -- an offer is there where its row is
  pub has_offer-rows : (place : ℕ) → has_row rows key place ≡ has_offer (map (offer_of top) rows) key place
  has_offer-rows place = sym (list_any-map (λ (o : Offer). same_key o.key key && (o.place == place)) (offer_of top) rows)

  -- all offers own where all rows do
  pub all_own-rows : list_all (λ o. not (same_key o.key key) || o.own) rows ≡ all_own (map (offer_of top) rows) key
  unfolding all_own
  all_own-rows = sym (list_all-map (λ (o : Offer). not (same_key o.key key) || o.own) (offer_of top) rows)

-- the place's own offer and that of each child
pub is_ready-each : (offers : List Offer) (key : Key) (place : ℕ)
    → (has_offer offers key place && list_all (λ c. not (is_child place c) || has_offer offers key c) (range_with_len 0 (length key.members))) ≡ is_ready offers key place
unfolding is_ready children_of
is_ready-each offers key place =
    ap (λ (b : Bool). has_offer offers key place && b) (sym (list_all-filter (has_offer offers key) (is_child place) (range_with_len 0 (length key.members))))

-- the and of the masks with one more offer
common_mask-more : (top : ℕ) (os : List Offer) (o : Offer) (key : Key)
    → common_mask top (os ++ o ∷ []) key ≡ (if same_key o.key key then both (common_mask top os key) o.mask else common_mask top os key)
common_mask-more top [] o key = let turned = both_turned o.mask (full_of (top + 1) top) in grind (arith, turned)
common_mask-more top (p ∷ ps) o key =
    let ih = common_mask-more top ps o key in
    let grouped = both_grouped p.mask (common_mask top ps key) o.mask in
    grind (arith, ih, grouped)

-- the and of the masks of the rows with one more
pub common_mask-rows : {w : ℕ} (top : ℕ) (rows : List (OfferRow w)) (key : Key) (i : ℕ) (row : OfferRow w) → i < length rows → row ≡ get_or rows i row
    → common_mask top (map (offer_of top) (take (i + 1) rows)) key
    ≡ (if same_key row.key key then both (common_mask top (map (offer_of top) (take i rows)) key) (front top row.mask) else common_mask top (map (offer_of top) (take i rows)) key)
common_mask-rows {w} top rows key i row inside is =
    let taken : take (i + 1) rows ≡ take i rows ++ row ∷ [] = take_more rows i row inside ∙ ap (λ (x : OfferRow w). take i rows ++ x ∷ []) (sym is) in
    ap (λ (xs : List (OfferRow w)). common_mask top (map (offer_of top) xs) key) taken
    ∙ (ap (λ (os : List Offer). common_mask top os key) (map-append (offer_of top) (take i rows) (row ∷ []))
    ∙ common_mask-more top (map (offer_of top) (take i rows)) (offer_of top row) key)

-- the offers that are left where the rows of a key are dropped
pub drop_offers-rows : {w : ℕ} (top : ℕ) (rows : List (OfferRow w)) (key : Key)
    → map (offer_of top) (filter (λ o. not (same_key o.key key)) rows) ≡ drop_offers (map (offer_of top) rows) key
drop_offers-rows top [] key = refl
drop_offers-rows top (row ∷ rows) key = go (same_key row.key key) refl (drop_offers-rows top rows key)
  where
    go : (b : Bool) → same_key row.key key ≡ b → map (offer_of top) (filter (λ o. not (same_key o.key key)) rows) ≡ drop_offers (map (offer_of top) rows) key
        → map (offer_of top) (filter (λ o. not (same_key o.key key)) (row ∷ rows)) ≡ drop_offers (map (offer_of top) (row ∷ rows)) key
    go true e ih = rw e ih
    go false e ih = rw e (ap (λ (xs : List Offer). offer_of top row ∷ xs) ih)

-- a mask whose front is the and of the masks of the rows, with none above the greatest context
pub record Joins {w : ℕ} (top : ℕ) (rows : List (OfferRow w)) (key : Key) (mask : List Bool) : Type 0 where
  pub value : front top mask ≡ common_mask top (map (offer_of top) rows) key
  pub low : get_or mask 0 false ≡ false
  pub above : (c : ℕ) → top < c → get_or mask c false ≡ false

-- before any row
pub Joins-none : {w : ℕ} (top places : ℕ) (rows : List (OfferRow w)) (key : Key) → top < places → get_or (full_of places top) 0 false ≡ false → Joins top (take 0 rows) key (full_of places top)
Joins-none top places rows key lt low = record { value = front-full_of top places lt; low = low; above = λ c h. (go c h (nat_lt c places) refl) }
  where
    go : (c : ℕ) → top < c → (b : Bool) → nat_lt c places ≡ b → get_or (full_of places top) c false ≡ false
    go c h true e = let at = get_or-full_of places top c (grind (arith, nat_tests, e)) in grind (arith, nat_tests, at, h)
    go c h false e = get_or_past (full_of places top) c false (let long = length-full_of places top in grind (arith, nat_tests, e, long))

module _ {w : ℕ} (top : ℕ) (rows : List (OfferRow w)) (key : Key) (i : ℕ) (row : OfferRow w) (inside : i < length rows) (is : row ≡ get_or rows i row) (mask : List Bool) (j : Joins top (take i rows) key mask) where
  -- with one more row of the key
  pub Joins-same : same_key row.key key ≡ true → length mask ≡ length row.mask → Joins top (take (i + 1) rows) key (both mask row.mask)
  Joins-same same long =
      let more = common_mask-rows top rows key i row inside is in
      record {
        value = front-both top mask row.mask ∙ (ap (λ (xs : List Bool). both xs (front top row.mask)) j.value ∙ sym (rw same at more));
        low = (let at = get_or-both mask row.mask 0 long in let none = j.low in grind (arith, at, none));
        above = λ c h. (let at = get_or-both mask row.mask c long in let none = j.above c h in grind (arith, at, none));
      }

  -- with one more row of another key
  pub Joins-other : same_key row.key key ≡ false → Joins top (take (i + 1) rows) key mask
  Joins-other other =
      let more = common_mask-rows top rows key i row inside is in
      record { value = j.value ∙ sym (rw other at more); low = j.low; above = j.above }

-- the least context of a joined mask
pub least_common-is : (top : ℕ) (offers : List Offer) (key : Key) (mask : List Bool) → front top mask ≡ common_mask top offers key → get_or mask 0 false ≡ false
    → ((c : ℕ) → top < c → get_or mask c false ≡ false) → top < length mask → least_true mask ≡ least_common top offers key
unfolding least_common
least_common-is top offers key mask is low above long =
    least_true-front top mask low above long ∙ ap (λ (m : List Bool). find (λ c. get_or m c false) (range_with_len 1 top)) is

-- what is said after round 0 where all own
pub verdict-own : (top : ℕ) (offers : List Offer) (key : Key) (round : ℕ) (r : Option ℕ) → (round == 0) ≡ false → all_own offers key ≡ true → r ≡ least_common top offers key
    → picked r ≡ verdict_of top offers key round
verdict-own top offers key round r later own is = rw (later, own) (ap picked is)

-- and it is one of those that there are
pub least_common-within : (top : ℕ) (offers : List Offer) (key : Key) (r : Option ℕ) → r ≡ least_common top offers key → IfSome r (λ c. (1 ≤ c) × (c ≤ top))
unfolding least_common
least_common-within top offers key None e = tt
least_common-within top offers key (Some c) e = least-within (λ d. get_or (common_mask top offers key) d false) top c (sym e)
