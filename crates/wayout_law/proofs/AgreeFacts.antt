-- What the way out needs to know of the agreement, from what every step of it keeps.
use Rattle.std.proofs.Common.{◌≡◌, ◌<◌, ◌≤◌, ◌==◌, ◌&&◌, ℕ, zero, suc, Bool, true, false, List, [], ◌∷◌, length, Option, Some, None, refl, sym, ap, subst, ◌∙◌, arith}
use Rattle.std.specs.Prelude.{nat_lt}
use Rattle.std.specs.List.{list_all}
use Rattle.std.proofs.lemmas.Bool.Decides.{nat_tests}
use Rattle.mpi_base.specs.declared.keys.Key.{Key}
use Rattle.mpi_base.specs.Keys.{same_key}
use Rattle.mpi_base.specs.MemberLists.{has_rank}
use Rattle.mpi_base.proofs.KeyFacts.{same_key_is}
use Rattle.agree_law.specs.declared.rows.Stage.{Stage}
use Rattle.agree_law.specs.declared.rows.Stage.TheVariants.{Sharing, Called, Waiting, Offered, Done}
use Rattle.agree_law.specs.declared.rows.Verdict.{Verdict}
use Rattle.agree_law.specs.Tree.{place_in, member_at, is_first}
use Rattle.agree_law.specs.Part.{Offer, Agree, stage_of, round_of}
use Rattle.agree_law.specs.Packets.{Down}
use Rattle.agree_law.specs.Kinds.{is_share}
use Rattle.agree_law.specs.Gather.{has_offer, is_ready}
use Rattle.agree_law.specs.Offers.{may_offer}
use Rattle.agree_law.specs.Moves.{may_settle}
use Rattle.agree_law.specs.World.{Flight, World, part_at, head_of, is_key_of}
use Rattle.agree_law.proofs.Lists.{AllOf, tally, tally_any}
use Rattle.agree_law.proofs.TreeFacts.{member_place}
use Rattle.agree_law.proofs.RowFacts.{of_key, at_place, is_whole, has_offer_is, is_ready_is}
use Rattle.agree_law.proofs.KeyKept.{View, stage_fits, next_round, KeyKept}
use Rattle.agree_law.proofs.Kept.{is_good, is_good_at, stage_is_of, OfferFits, seat, Kept}
use Rattle.agree_law.proofs.Links.{of_links}
use Rattle.agree_law.proofs.OpenRows.{row_at}
use Rattle.agree_law.proofs.OwnSteps.{fits_at}
use Rattle.agree_law.proofs.DownSteps.{seat_is}
use Rattle.agree_law.proofs.UpSteps.{Came, came}
use Rattle.mpi_protocol.specs.Order.{is_offered}
use Rattle.wayout_law.proofs.Decisions.{told_in, OwnAreTold}
use Rattle.wayout_law.proofs.Rounds.{down_round, level_still, round_whole}

-- the round of a key at its first member
abbrev pub round_at_first : World → Key → ℕ
round_at_first w key = round_of (part_at w (member_at key.members 0)).rounds key

-- A rank's own offer

offers_good : (n r : ℕ) (os : List Offer) (key : Key) (p : ℕ) → AllOf (OfferFits n r) os → has_offer os key p ≡ true → is_good_at n r key ≡ true
offers_good n r [] key p h e = absurd (cc)
offers_good n r (o ∷ os) key p h e = go (same_key o.key key) refl (offers_good n r os key p h.1)
  where
    go : (b : Bool) → same_key o.key key ≡ b → (has_offer os key p ≡ true → is_good_at n r key ≡ true) → is_good_at n r key ≡ true
    go true s ih = subst (λ k. is_good_at n r k ≡ true) (same_key_is o.key key s) h.0
    go false s ih = ih (grind (arith, s, e))

told_of : (s : Option Stage) (g c : ℕ) (owns : Bool) → stage_fits s g c owns ≡ true → 1 ≤ c → told_in s g ≡ true
told_of None g c owns e le = absurd (grind (arith, nat_tests, e, le))
told_of (Some (Sharing s)) g c owns e le = absurd (cc)
told_of (Some Called) g c owns e le = grind (arith, e)
told_of (Some (Waiting i)) g c owns e le = absurd (grind (arith, nat_tests, e, le))
told_of (Some (Offered i own)) g c owns e le = grind (arith, e)
told_of (Some (Done o)) g c owns e le = absurd (grind (arith, nat_tests, e, le))

pub kept-told : (top : ℕ) (w : World) → Kept top w → (r : ℕ) → OwnAreTold r (part_at w r)
kept-told top w h r key e =
    let good = offers_good (length w.parts) r (part_at w r).gathered key (place_in key.members r) (h.offers r) e in
    let f = fits_at top w r key good h in
    let a = has_offer_is (part_at w r).gathered key (place_in key.members r) in
    let b = tally_any (at_place (place_in key.members r)) (of_key (part_at w r).gathered key) in
    let le : 1 ≤ tally (at_place (place_in key.members r)) (of_key (part_at w r).gathered key) = grind (arith, nat_tests, a, b, e) in
    told_of (stage_of (part_at w r).opened key) (round_of (part_at w r).rounds key) (tally (at_place (place_in key.members r)) (of_key (part_at w r).gathered key)) _ f le

-- Rounds

-- the verdict at the head of a link leads to the round of the first member
pub kept-down : (top : ℕ) (w : World) (from r : ℕ) (key : Key) (i : ℕ) (v : Verdict) → Kept top w → head_of w.links from r ≡ Some (Down key i v) → round_at_first w key ≡ next_round i v
kept-down top w from r key i v h e =
    let c : Came top w from r key (Down key i v) = came top w from r key (Down key i v) e refl (λ f. f) h in
    down_round top (length key.members) (member_at key.members) (seat w.parts key) (of_links w.links key) (h.each key c.good) c.taken.place from r i key v c.taken.there

-- the round of a stage past the first round
abbrev pub is_in_round : Stage → ℕ → Bool
is_in_round (Sharing s) i = false
is_in_round Called i = false
is_in_round (Waiting j) i = j == i
is_in_round (Offered j own) i = j == i
is_in_round (Done o) i = false

-- an open creation that is in a round
pub record InRound (w : World) (r : ℕ) (key : Key) (i : ℕ) : Type 0 where
  pub good : is_good_at (length w.parts) r key ≡ true
  pub pos : 0 < i
  pub here : (seat w.parts key (place_in key.members r)).round ≡ i

good_row : (n r : ℕ) (key : Key) (i : ℕ) (s : Stage) → is_in_round s i ≡ true → ((is_key_of n key && has_rank key.members r) ≡ true) × (stage_is_of (is_share key.kind) s ≡ true) → is_good_at n r key ≡ true
good_row n r key i (Sharing s) e h = absurd (cc)
good_row n r key i Called e h = absurd (cc)
good_row n r key i (Waiting j) e h = grind (arith, h)
good_row n r key i (Offered j own) e h = grind (arith, h)
good_row n r key i (Done o) e h = absurd (cc)

fits_round : (s : Stage) (g c : ℕ) (owns : Bool) (i : ℕ) → is_in_round s i ≡ true → stage_fits (Some s) g c owns ≡ true → (0 < i) × (g ≡ i)
fits_round (Sharing s) g c owns i e f = absurd (cc)
fits_round Called g c owns i e f = absurd (cc)
fits_round (Waiting j) g c owns i e f = (grind (arith, nat_tests, e, f), grind (arith, nat_tests, e, f))
fits_round (Offered j own) g c owns i e f = (grind (arith, nat_tests, e, f), grind (arith, nat_tests, e, f))
fits_round (Done o) g c owns i e f = absurd (cc)

pub in_round : (top : ℕ) (w : World) (r : ℕ) (key : Key) (s : Stage) (i : ℕ) → Kept top w → stage_of (part_at w r).opened key ≡ Some s → is_in_round s i ≡ true → InRound w r key i
in_round top w r key s i h e at =
    let good = good_row (length w.parts) r key i s at (row_at (length w.parts) r (part_at w r).opened key s e (h.rows r)) in
    let f = fits_at top w r key good h in
    let x = fits_round s (round_of (part_at w r).rounds key) _ _ i at (rw e at f) in
    record { good = good; pos = x.0; here = ap (λ (v : View). v.round) (seat_is w key r (grind (arith, good))) ∙ x.1 }

-- no packet of the tree is on its way
abbrev pub NoneFly : World → Type 0
NoneFly w = (key : Key) → is_good (length w.parts) key ≡ true → of_links w.links key ≡ []

pub still_key : (top : ℕ) (w : World) (key : Key) → Kept top w → NoneFly w → is_good (length w.parts) key ≡ true → KeyKept top (length key.members) (member_at key.members) (seat w.parts key) []
still_key top w key h none good = subst (λ (fs : List Flight). KeyKept top (length key.members) (member_at key.members) (seat w.parts key) fs) (none key good) (h.each key good)

-- with nothing on its way the first member is in the round of each
pub kept-level : (top : ℕ) (w : World) (r : ℕ) (key : Key) (s : Stage) (i : ℕ) → Kept top w → NoneFly w → stage_of (part_at w r).opened key ≡ Some s → is_in_round s i ≡ true → round_at_first w key ≡ i
kept-level top w r key s i h empty e at =
    let x = in_round top w r key s i h e at in
    let good = x.good in
    let k = still_key top w key h empty (grind (arith, good)) in
    let p = member_place key.members r (grind (arith, good)) in
    sym (level_still top (length key.members) (member_at key.members) (seat w.parts key) k (place_in key.members r) (place_in key.members r) (omega arith) p.0) ∙ x.here

-- The heart

-- what holds of a world where the first four kinds of choice find nothing
pub record Still (w : World) : Type 0 where
  pub empty : NoneFly w
  pub settle : (r : ℕ) (key : Key) → r < length w.parts → may_settle r (part_at w r) key ≡ false
  pub join : (q r : ℕ) (key : Key) → is_offered (stage_of (part_at w q).opened key) ≡ true → may_offer (part_at w r) key ≡ false

pub first_is : (ms : List ℕ) → 0 < length ms → is_first (member_at ms 0) ms ≡ true
first_is [] lt = absurd (omega (arith, lt))
first_is (m ∷ ms) lt = grind (arith, nat_tests)

pub all_at : (f : ℕ → Bool) (ms : List ℕ) (p : ℕ) → list_all f ms ≡ true → p < length ms → f (member_at ms p) ≡ true
all_at f [] p e lt = absurd (omega (arith, lt))
all_at f (m ∷ ms) zero e lt = grind (arith, e)
all_at f (m ∷ ms) (suc p) e lt = all_at f ms p (grind (arith, e)) (omega (arith, lt))

pub members_inside : (n : ℕ) (key : Key) → is_good n key ≡ true → list_all (λ m. nat_lt m n) key.members ≡ true
unfolding is_key_of
members_inside n key e = grind (arith, e)

pub settles_first : (r : ℕ) (a : Agree) (key : Key) → is_share key.kind ≡ false → is_first r key.members ≡ true → is_whole (of_key a.gathered key) 0 (length key.members) ≡ true → may_settle r a key ≡ true
unfolding may_settle is_ready
settles_first r a key kind first whole = let z = is_ready_is a.gathered key 0 (length key.members) in grind (arith, kind, first, whole, z)

offered_stage : (o : Option Stage) → is_offered o ≡ true → (i : ℕ) × (s : Stage) × (o ≡ Some s) × (is_in_round s i ≡ true)
offered_stage (Some (Offered i own)) e = (i, Offered i own, refl, grind (arith, nat_tests))
offered_stage o e = absurd (cc)

pub nobody_offered : (top : ℕ) (w : World) → Kept top w → Still w → (r : ℕ) (key : Key) → is_offered (stage_of (part_at w r).opened key) ≡ false
nobody_offered top w h still r key = go (is_offered (stage_of (part_at w r).opened key)) refl
  where
    go : (b : Bool) → is_offered (stage_of (part_at w r).opened key) ≡ b → is_offered (stage_of (part_at w r).opened key) ≡ false
    go false e = e
    go true e =
        let s = offered_stage (stage_of (part_at w r).opened key) e in
        let i : ℕ = s.0 in
        let x = in_round top w r key s.1 i h s.2 s.3 in
        let level = kept-level top w r key s.1 i h still.empty s.2 s.3 in
        let pos = x.pos in
        let good = x.good in
        let g : is_good (length w.parts) key ≡ true = grind (arith, good) in
        let some : 0 < length key.members = (let p = member_place key.members r (grind (arith, good)) in omega (arith, p)) in
        let k = still_key top w key h still.empty g in
        let whole = round_whole top (length key.members) (member_at key.members) (seat w.parts key) k (rw level pos) (λ p lt. still.join r (member_at key.members p) key e) (length key.members) 0 (omega arith) some in
        let inside = all_at (λ m. nat_lt m (length w.parts)) key.members 0 (members_inside (length w.parts) key g) some in
        let yes = settles_first (member_at key.members 0) (part_at w (member_at key.members 0)) key (grind (arith, good)) (first_is key.members some) whole in
        let no = still.settle (member_at key.members 0) key (grind (arith, nat_tests, inside)) in
        absurd (cc)
