-- What the moves of the agreement take from the cost of a rank's creations.
use Rattle.std.proofs.Common.{◌≡◌, ◌<◌, ◌≤◌, ◌+◌, ◌*◌, ◌&&◌, ℕ, Bool, true, false, List, [], ◌∷◌, ◌++◌, map, length, Option, Some, None, refl, arith}
use Rattle.std.specs.Prelude.{if◌then◌else◌, nat_lt}
use Rattle.std.specs.List.{list_all}
use Rattle.std.proofs.lemmas.Bool.Decides.{nat_tests}
use Rattle.mpi_base.specs.declared.keys.Key.{Key}
use Rattle.mpi_base.specs.MemberLists.{has_rank}
use Rattle.agree_law.specs.declared.rows.CreationRow.{CreationRow}
use Rattle.agree_law.specs.declared.rows.Outcome.TheVariants as outcome
use Rattle.agree_law.specs.declared.rows.Stage.{Stage}
use Rattle.agree_law.specs.declared.rows.Stage.TheVariants.{Sharing, Called, Waiting, Offered, Done}
use Rattle.agree_law.specs.declared.rows.Verdict.{Verdict}
use Rattle.agree_law.specs.declared.rows.Verdict.TheVariants.{Ready, Retry, Context, Exhausted}
use Rattle.ctx_mask.specs.Masks.{none_of}
use Rattle.agree_law.specs.Tree.{place_in, member_at, parent_of, is_child, children_of}
use Rattle.agree_law.specs.Part.{Offer, Agree, stage_of, set_stage, open_creation, round_of}
use Rattle.agree_law.specs.Packets.{Up, Down, Sent}
use Rattle.agree_law.specs.Gather.{is_ready, has_offer, all_own, common_mask}
use Rattle.agree_law.specs.Offers.{put_offer, up_from, begin, offer_of, make_offer, takes_up, take_up}
use Rattle.agree_law.specs.Rule.{may_own}
use Rattle.agree_law.specs.Verdicts.{takes, rounds_after, pass_down, decide}
use Rattle.agree_law.proofs.TreeFacts.{child_at, child_above, member_place}
use Rattle.mpi_protocol.specs.Packets.{agreeing}
use Rattle.wayout_law.specs.Potential.{sum_of, More, owed, stage_cost, row_cost, agree_cost, sent_cost}
use Rattle.wayout_law.proofs.Sums.{sum_of-append, sum_of-le}
use Rattle.wayout_law.proofs.Rows.{OneEach, rows-set, rows-less, stage-owed, owed-append, has_offer-append, rows-decided}

abbrev pub agreeing_cost : List Sent → ℕ
agreeing_cost sent = sum_of sent_cost (agreeing sent)

-- Offers

-- the `Up` is sent where it is owed no longer
up_owed : (r top : ℕ) (a : Agree) (key : Key) → agreeing_cost (up_from top a key (place_in key.members r)) + owed a.gathered r key ≤ 1
unfolding up_from
up_owed r top a key = go (nat_lt 0 (place_in key.members r)) (is_ready a.gathered key (place_in key.members r))
  where
    go : (p b : Bool)
        → agreeing_cost (if p && b then record { to = member_at key.members (parent_of (place_in key.members r)); packet = Up key (round_of a.rounds key) (all_own a.gathered key) (common_mask top a.gathered key) } ∷ [] else [])
        + (if b then 0 else 1) ≤ 1
    go true true = omega arith
    go true false = omega arith
    go false true = omega arith
    go false false = omega arith

rows-append : (n : ℕ) (more : More) (gathered : List Offer) (o : Offer) (r : ℕ) (os : List CreationRow) → sum_of (row_cost n more (gathered ++ o ∷ []) r) os ≤ sum_of (row_cost n more gathered r) os
rows-append n more gathered o r os = sum_of-le (row_cost n more (gathered ++ o ∷ []) r) (row_cost n more gathered r) os (λ x. stage-owed n more (gathered ++ o ∷ []) gathered r x.key x.stage (owed-append gathered o r x.key))

-- a creation is called
pub begin-cost : (n : ℕ) (more : More) (r top : ℕ) (a : Agree) (key : Key) → agree_cost n more r (begin r top a key).part + agreeing_cost (begin r top a key).sent ≤ agree_cost n more r a + (n + 3 + 3 * more key 0)
unfolding begin put_offer
begin-cost n more r top a key =
    let o : Offer = record { key = key; place = place_in key.members r; own = false; mask = none_of (top + 1) } in
    let b : Agree = record a { opened = open_creation a.opened key Called; gathered = a.gathered ++ o ∷ [] } in
    let up = up_owed r top b key in
    let rows = rows-append n more a.gathered o r a.opened in
    let s = sum_of-append (row_cost n more (a.gathered ++ o ∷ []) r) a.opened (record { key = key; stage = Called } ∷ []) in
    omega (arith, up, rows, s)

-- an offer is made
pub offer-cost : (n : ℕ) (more : More) (r top : ℕ) (a : Agree) (key : Key) (i : ℕ) → OneEach a.opened → stage_of a.opened key ≡ Some (Waiting i)
    → agree_cost n more r (make_offer r top a key).part + agreeing_cost (make_offer r top a key).sent + 1 ≤ agree_cost n more r a
unfolding make_offer put_offer
offer-cost n more r top a key i one e = rw e (go (may_own a key))
  where
    go : (own : Bool) → agree_cost n more r (offer_of r top a key i own).part + agreeing_cost (offer_of r top a key i own).sent + 1 ≤ agree_cost n more r a
    go own =
        let o : Offer = record { key = key; place = place_in key.members r; own = own; mask = if own then a.mask else none_of (top + 1) } in
        let b : Agree = record a { owner = if own then Some key else a.owner; opened = set_stage a.opened key (Offered i own); gathered = a.gathered ++ o ∷ [] } in
        let up = up_owed r top b key in
        let rows = rows-append n more a.gathered o r a.opened in
        let s = rows-set (stage_cost n more (a.gathered ++ o ∷ []) r) a.opened key (Waiting i) (Offered i own) one e in
        omega (arith, up, rows, s)

-- an `Up` comes

-- the stages in which a member's own offer is gathered
abbrev pub is_told : Option Stage → Bool
is_told None = false
is_told (Some (Sharing s)) = false
is_told (Some Called) = true
is_told (Some (Waiting i)) = false
is_told (Some (Offered i own)) = true
is_told (Some (Done o)) = false

told-stage : (s : Option Stage) → is_told s ≡ true → (t : Stage) × (s ≡ Some t) × (is_told (Some t) ≡ true)
told-stage None e = absurd (cc)
told-stage (Some t) e = (t, refl, e)

told-less : (n : ℕ) (more : More) (new old : List Offer) (r : ℕ) (key : Key) (s : Stage) → is_told (Some s) ≡ true → owed new r key + 1 ≤ owed old r key → stage_cost n more new r key s + 1 ≤ stage_cost n more old r key s
told-less n more new old r key (Sharing s) e le = absurd (cc)
told-less n more new old r key Called e le = omega (arith, le)
told-less n more new old r key (Waiting i) e le = absurd (cc)
told-less n more new old r key (Offered i own) e le = omega (arith, le)
told-less n more new old r key (Done o) e le = absurd (cc)

-- who lacks the offer of a child is not ready
not_ready : (gathered : List Offer) (key : Key) (p q : ℕ) → is_child p q ≡ true → q < length key.members → has_offer gathered key q ≡ false → is_ready gathered key p ≡ false
unfolding is_ready
not_ready gathered key p q child lt lacks = go (has_offer gathered key p) (list_all (has_offer gathered key) (children_of p (length key.members))) refl
  where
    go : (a b : Bool) → list_all (has_offer gathered key) (children_of p (length key.members)) ≡ b → (a && b) ≡ false
    go a true e = let h = child_at (has_offer gathered key) p (length key.members) q e child lt in absurd (grind (arith, h, lacks))
    go true false e = refl
    go false false e = refl

abbrev UpBelow : ℕ → Agree → ℕ → Key → Type 0
UpBelow r a from key = (is_child (place_in key.members r) (place_in key.members from) ≡ true) × (has_rank key.members from ≡ true) × (has_offer a.gathered key (place_in key.members from) ≡ false)

up_below : (r : ℕ) (a : Agree) (from : ℕ) (key : Key) (i : ℕ) → takes_up r a from key i ≡ true → UpBelow r a from key
unfolding takes_up
up_below r a from key i taken = (grind (arith, taken), grind (arith, taken), grind (arith, taken))

-- an offer from below leaves the place's own as it was
own_there : (gathered : List Offer) (o : Offer) (key : Key) (p : ℕ) → p < o.place → is_ready (gathered ++ o ∷ []) key p ≡ true → has_offer gathered key p ≡ true
unfolding is_ready
own_there gathered o key p lt e =
    let here : has_offer (gathered ++ o ∷ []) key p ≡ true = first (has_offer (gathered ++ o ∷ []) key p) _ e in
    let split = has_offer-append gathered o key p in
    grind (arith, nat_tests, here, split, lt)
  where
    first : (a b : Bool) → (a && b) ≡ true → a ≡ true
    first true b e = refl
    first false b e = absurd (cc)

pub up-cost : (n : ℕ) (more : More) (r top : ℕ) (a : Agree) (from : ℕ) (key : Key) (i : ℕ) (own : Bool) (mask : List Bool) → takes_up r a from key i ≡ true
    → (has_offer a.gathered key (place_in key.members r) ≡ true → is_told (stage_of a.opened key) ≡ true)
    → agree_cost n more r (take_up r top a from key i own mask).part + agreeing_cost (take_up r top a from key i own mask).sent ≤ agree_cost n more r a
unfolding take_up put_offer
up-cost n more r top a from key i own mask taken told =
    rw taken
    (go (is_ready (a.gathered ++ o ∷ []) key p) refl (up_owed r top (record a { gathered = a.gathered ++ o ∷ [] }) key) (rows-append n more a.gathered o r a.opened))
  where
    p : ℕ
    p = place_in key.members r

    o : Offer
    o = record { key = key; place = place_in key.members from; own = own; mask = mask }

    child : UpBelow r a from key
    child = up_below r a from key i taken

    go : (b : Bool) → is_ready (a.gathered ++ o ∷ []) key p ≡ b
        → agreeing_cost (up_from top (record a { gathered = a.gathered ++ o ∷ [] }) key p) + owed (a.gathered ++ o ∷ []) r key ≤ 1
        → sum_of (row_cost n more (a.gathered ++ o ∷ []) r) a.opened ≤ sum_of (row_cost n more a.gathered r) a.opened
        → sum_of (row_cost n more (a.gathered ++ o ∷ []) r) a.opened + agreeing_cost (up_from top (record a { gathered = a.gathered ++ o ∷ [] }) key p) ≤ sum_of (row_cost n more a.gathered r) a.opened
    go false e up rows = let z : owed (a.gathered ++ o ∷ []) r key ≡ 1 = rw e refl in omega (arith, up, rows, z)
    go true e up rows =
        let was = not_ready a.gathered key p (place_in key.members from) child.0 (member_place key.members from child.1).0 child.2 in
        let z : owed (a.gathered ++ o ∷ []) r key ≡ 0 = rw e refl in
        let y : owed a.gathered r key ≡ 1 = rw was refl in
        let t = told-stage (stage_of a.opened key) (told (own_there a.gathered o key p (child_above p (place_in key.members from) child.0).0 e)) in
        let less = rows-less (stage_cost n more (a.gathered ++ o ∷ []) r) (stage_cost n more a.gathered r) a.opened key t.0 t.1 (λ k s. stage-owed n more (a.gathered ++ o ∷ []) a.gathered r k s (owed-append a.gathered o r k)) (told-less n more (a.gathered ++ o ∷ []) a.gathered r key t.0 t.2 (omega (arith, z, y))) in
        omega (arith, up, less, z)

-- A verdict is taken

abbrev pub verdict_cost : ℕ → Verdict → ℕ
verdict_cost n Ready = 0
verdict_cost n Retry = 0
verdict_cost n (Context c) = n + 1
verdict_cost n Exhausted = 0

-- a round more comes only where one is still charged
abbrev pub Falls : More → Key → ℕ → Verdict → Type 0
Falls more key i Ready = more key 1 + 1 ≤ more key i
Falls more key i Retry = more key (i + 1) + 1 ≤ more key i
Falls more key i (Context c) = Unit {0}
Falls more key i Exhausted = Unit {0}

downs-free : (key : Key) (i : ℕ) (v : Verdict) (ps : List ℕ) → agreeing_cost (map (λ q. record { to = member_at key.members q; packet = Down key i v }) ps) ≡ 0
downs-free key i v [] = refl
downs-free key i v (p ∷ ps) = let ih = downs-free key i v ps in omega (arith, ih)

pub decide-sends : (r : ℕ) (a : Agree) (key : Key) (i : ℕ) (v : Verdict) → agreeing_cost (decide r a key i v).sent ≡ 0
unfolding decide pass_down
decide-sends r a key i v = downs-free key i v (children_of (place_in key.members r) (length key.members))

pub decide-cost : (n : ℕ) (more : More) (r : ℕ) (a : Agree) (key : Key) (i : ℕ) (v : Verdict) (s : Stage) → OneEach a.opened → stage_of a.opened key ≡ Some s
    → n + 2 + 3 * more key i ≤ stage_cost n more a.gathered r key s → Falls more key i v
    → agree_cost n more r (decide r a key i v).part + verdict_cost n v + 1 ≤ agree_cost n more r a
unfolding decide takes rounds_after
decide-cost n more r a key i Ready s one e dear f =
    let x = rows-set (stage_cost n more a.gathered r) a.opened key s (Waiting 1) one e in
    let y = rows-decided n more a.gathered r a.opened key (Waiting 1) (λ k. omega arith) in
    omega (arith, x, y, dear, f)
decide-cost n more r a key i Retry s one e dear f =
    let x = rows-set (stage_cost n more a.gathered r) a.opened key s (Waiting (i + 1)) one e in
    let y = rows-decided n more a.gathered r a.opened key (Waiting (i + 1)) (λ k. omega arith) in
    omega (arith, x, y, dear, f)
decide-cost n more r a key i (Context c) s one e dear f =
    let x = rows-set (stage_cost n more a.gathered r) a.opened key s (Done (outcome.Context c)) one e in
    let y = rows-decided n more a.gathered r a.opened key (Done (outcome.Context c)) (λ k. omega arith) in
    omega (arith, x, y, dear)
decide-cost n more r a key i Exhausted s one e dear f =
    let x = rows-set (stage_cost n more a.gathered r) a.opened key s (Done outcome.Exhausted) one e in
    let y = rows-decided n more a.gathered r a.opened key (Done outcome.Exhausted) (λ k. omega arith) in
    omega (arith, x, y, dear)
