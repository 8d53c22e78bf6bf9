-- Moves of the agreement, step by step.
use Rattle.std.proofs.Common.{◌≡◌, ℕ, zero, suc, ◌+◌, ◌<◌, ◌≤◌, ◌&&◌, not, length, get_or, Bool, true, false, List, [], ◌∷◌, ◌++◌, filter, map, set, if◌then◌else◌, refl, sym, subst, ◌∙◌, ap, arith, Option, Some, None}
use Rattle.std.specs.Prelude.{nat_le, nat_lt}
use Rattle.std.specs.List.{range_with_len}
use Rattle.std.proofs.lemmas.Bool.Decides.{nat_tests}
use Rattle.std.proofs.lemmas.List.{append-nil, append_assoc, get_or_past, length-take, map-append}
use Rattle.mpi_base.specs.declared.keys.Key.{Key}
use Rattle.ctx_mask.specs.Masks.{none_of}
use Rattle.agree_law.specs.declared.rows.Stage.{Stage}
use Rattle.agree_law.specs.declared.rows.Stage.TheVariants.{Sharing, Called, Waiting, Offered, Done}
use Rattle.agree_law.specs.declared.rows.Outcome.TheVariants as outcome
use Rattle.agree_law.specs.declared.rows.Verdict.{Verdict}
use Rattle.agree_law.specs.declared.rows.Verdict.TheVariants.{Ready, Retry, Context, Exhausted}
use Rattle.agree_law.specs.Tree.{children_of, is_child, member_at, parent_of, place_in, is_below}
use Rattle.agree_law.specs.Part.{Agree, drop_offers, drop_round, open_creation, round_of, set_round, set_stage, stage_of}
use Rattle.agree_law.specs.Packets.{Sent as Sent_seen, Up as up, Down as down}
use Rattle.agree_law.specs.Kinds.{is_share}
use Rattle.agree_law.specs.Rule.{is_key, let_go, may_own}
use Rattle.agree_law.specs.Gather.{all_own, common_mask, is_ready, verdict_of}
use Rattle.agree_law.specs.Offers.{begin, is_due, make_offer, put_offer, take_up, takes_up, up_from}
use Rattle.agree_law.specs.Verdicts.{awaits_round, decide, pass_down, rounds_after, settle_offers, take_down, takes, takes_down}
use Rattle.agree_law.specs.Moves.{give_back}
use Rattle.and_reduce.specs.declared.packets.Sent.{Sent}
use Rattle.and_reduce.specs.Fronts.{front}
use Rattle.and_reduce.specs.Rows.{IsPick, sent_of}
use Rattle.and_reduce.proofs.FrontFacts.{get_or-front}
use Rattle.agree_core.specs.Held.{Becomes, Held, Makes, round_due}

-- The `Up` of a place

-- a gather that is whole
pub sent-up : {w : ℕ} (top : ℕ) (a : Agree) (key : Key) (place : ℕ) (xs : List (Sent w)) (x : Sent w) → 0 < place → is_ready a.gathered key place ≡ true
    → sent_of top x ≡ record { to = member_at key.members (parent_of place); packet = up key (round_of a.rounds key) (all_own a.gathered key) (common_mask top a.gathered key) }
    → map (sent_of top) (xs ++ x ∷ []) ≡ map (sent_of top) xs ++ up_from top a key place
unfolding up_from
sent-up top a key place xs x above ready is =
    let some : (nat_lt 0 place && is_ready a.gathered key place) ≡ true = grind (arith, nat_tests, above, ready) in
    map-append (sent_of top) xs (x ∷ []) ∙ rw some (ap (λ (s : Sent_seen). map (sent_of top) xs ++ s ∷ []) is)

-- place 0, or a gather that is not whole
pub sent-none : {w : ℕ} (top : ℕ) (a : Agree) (key : Key) (place : ℕ) (xs : List (Sent w)) → (nat_lt 0 place && is_ready a.gathered key place) ≡ false
    → map (sent_of top) xs ≡ map (sent_of top) xs ++ up_from top a key place
unfolding up_from
sent-none top a key place xs none = rw none (sym (append-nil (map (sent_of top) xs)))

-- An offer is put into a gather

-- the offer stands in the gather, and the `Up` is sent
made-put : {w : ℕ} (h new : Held) (a : Agree) (key : Key) (place : ℕ) (own : Bool) (mask : List Bool) (before after : List (Sent w)) → new.rank ≡ h.rank → new.top ≡ h.top
    → new.part ≡ record a { gathered = a.gathered ++ record { key = key; place = place; own = own; mask = mask } ∷ [] }
    → map (sent_of new.top) after ≡ map (sent_of new.top) before ++ up_from new.top new.part key (place_in key.members new.rank)
    → Makes (put_offer h.rank h.top a key place own mask) h new before after
unfolding put_offer
made-put h new a key place own mask before after rank top part sent =
    record { becomes = record { part = part; rank = rank; top = top }; sent = rw (top, rank, part) at sent }

-- Calls and offers

pub made-begin : {w : ℕ} (h old new : Held) (key : Key) (place : ℕ) (mask : List Bool) (before after : List (Sent w)) → h ≡ old → new.rank ≡ h.rank → new.top ≡ h.top
    → new.part ≡ record h.part { opened = open_creation h.part.opened key Called; gathered = h.part.gathered ++ record { key = key; place = place; own = false; mask = mask } ∷ [] }
    → place ≡ place_in key.members h.rank → mask ≡ none_of (h.top + 1)
    → map (sent_of new.top) after ≡ map (sent_of new.top) before ++ up_from new.top new.part key (place_in key.members new.rank)
    → Makes (begin old.rank old.top old.part key) old new before after
unfolding begin
made-begin h old new key place mask before after is rank top part at none sent =
    subst (λ (o : Held). Makes (begin o.rank o.top o.part key) o new before after) is
    (rw (← at, ← none) (made-put h new (record h.part { opened = open_creation h.part.opened key Called }) key place false mask before after rank top part sent))

-- where a round is due, the creation waits in it
pub round_due-some : (s : Option Stage) (i : ℕ) → round_due s ≡ Some i → s ≡ Some (Waiting i)
round_due-some None i e = absurd (cc)
round_due-some (Some (Sharing s)) i e = absurd (cc)
round_due-some (Some Called) i e = absurd (cc)
round_due-some (Some (Waiting j)) i e = cc
round_due-some (Some (Offered j own)) i e = absurd (cc)
round_due-some (Some (Done c)) i e = absurd (cc)

-- an offer that is due has a round
pub due-round : (s : Option Stage) → is_due s ≡ true → round_due s ≡ None → ⊥
due-round None d e = absurd (cc)
due-round (Some (Sharing s)) d e = absurd (cc)
due-round (Some Called) d e = absurd (cc)
due-round (Some (Waiting j)) d e = absurd (cc)
due-round (Some (Offered j own)) d e = absurd (cc)
due-round (Some (Done c)) d e = absurd (cc)

pub made-offer : {w : ℕ} (h old new : Held) (key : Key) (i place : ℕ) (own : Bool) (mask : List Bool) (before after : List (Sent w)) → h ≡ old → new.rank ≡ h.rank → new.top ≡ h.top
    → stage_of h.part.opened key ≡ Some (Waiting i) → own ≡ may_own h.part key
    → new.part
    ≡ record h.part {
      owner = if own then Some key else h.part.owner;
      opened = set_stage h.part.opened key (Offered i own);
      gathered = h.part.gathered ++ record { key = key; place = place; own = own; mask = mask } ∷ [];
    }
    → place ≡ place_in key.members h.rank → mask ≡ (if own then h.part.mask else none_of (h.top + 1))
    → map (sent_of new.top) after ≡ map (sent_of new.top) before ++ up_from new.top new.part key (place_in key.members new.rank)
    → Makes (make_offer old.rank old.top old.part key) old new before after
unfolding make_offer
made-offer h old new key i place own mask before after is rank top stage owns part at offered sent =
    subst (λ (o : Held). Makes (make_offer o.rank o.top o.part key) o new before after) is
    (rw (stage, ← owns, ← at, ← offered)
    (made-put h new (record h.part { owner = if own then Some key else h.part.owner; opened = set_stage h.part.opened key (Offered i own) }) key place own mask before after rank top part sent))

pub made-take_up : {w : ℕ} (h old new : Held) (from : ℕ) (key : Key) (i place : ℕ) (own : Bool) (mask seen : List Bool) (before after : List (Sent w)) → h ≡ old → new.rank ≡ h.rank
    → new.top ≡ h.top → takes_up old.rank old.part from key i ≡ true → new.part ≡ record h.part { gathered = h.part.gathered ++ record { key = key; place = place; own = own; mask = mask } ∷ [] }
    → place ≡ place_in key.members from → mask ≡ seen
    → map (sent_of new.top) after ≡ map (sent_of new.top) before ++ up_from new.top new.part key (place_in key.members new.rank)
    → Makes (take_up old.rank old.top old.part from key i own seen) old new before after
unfolding take_up
made-take_up h old new from key i place own mask seen before after is rank top taken part at same sent =
    rw taken (subst (λ (o : Held). Makes (put_offer o.rank o.top o.part key (place_in key.members from) own seen) o new before after) is
    (rw (← at, ← same) (made-put h new h.part key place own mask before after rank top part sent)))

-- Other moves

pub became-back : (h old new : Held) (ctx : ℕ) → h ≡ old → new.rank ≡ h.rank → new.top ≡ h.top → new.part ≡ record h.part { mask = set h.part.mask ctx true }
    → Becomes old new (give_back old.part ctx)
unfolding give_back
became-back h old new ctx is rank top part = subst (λ (o : Held). Becomes o new (give_back o.part ctx)) is (record { part = part; rank = rank; top = top })

-- Verdicts

free-above : (top : ℕ) (mask : List Bool) (c : ℕ) → get_or mask 0 false ≡ false → get_or (front top mask) c false ≡ true → 1 ≤ c
free-above top mask zero low free = let at = get_or-front top 0 mask (omega arith) in absurd (cc (at, low, free))
free-above top mask (suc c) low free = omega arith

free-below : (top : ℕ) (mask : List Bool) (c : ℕ) → get_or (front top mask) c false ≡ true → c ≤ top
free-below top mask c free = go (nat_le c top) refl
  where
    go : (b : Bool) → nat_le c top ≡ b → c ≤ top
    go true e = grind (arith, nat_tests, e)
    go false e =
        let few = length-take (top + 1) mask in
        let beyond : top < c = grind (arith, nat_tests, e) in
        let none = get_or_past (front top mask) c false (omega (arith, few, beyond)) in
        absurd (cc (none, free))

last_of : (a b c d e : Bool) → (a && (b && (c && (d && e)))) ≡ true → e ≡ true
last_of a b c d e t = grind (arith, t)

-- the context of a verdict that is taken is one of those that there are
pub taken-pick : (r top : ℕ) (mask : List Bool) (a : Agree) (from : ℕ) (key : Key) (i : ℕ) (v : Verdict) → a.mask ≡ front top mask → get_or mask 0 false ≡ false
    → takes_down r a from key i v ≡ true → IsPick top v
unfolding takes_down
taken-pick r top mask a from key i Ready is low t = tt
taken-pick r top mask a from key i Retry is low t = tt
taken-pick r top mask a from key i (Context c) is low t =
    let free : get_or a.mask c false ≡ true = last_of (not (is_share key.kind)) (is_below from r key.members) (awaits_round (stage_of a.opened key) i) (is_key a.owner key) (get_or a.mask c false) t in
    (free-above top mask c low (rw is at free), free-below top mask c (rw is at free))
taken-pick r top mask a from key i Exhausted is low t = tt

-- a verdict to the member at a place
abbrev pub down_to : Key → ℕ → Verdict → ℕ → Sent_seen
down_to key i v q = record { to = member_at key.members q; packet = down key i v }

-- with one more place
range-suc : (a n : ℕ) → range_with_len a (suc n) ≡ range_with_len a n ++ (a + n) ∷ []
range-suc a zero = let same : a ≡ a + 0 = omega arith in ap (λ (x : ℕ). x ∷ []) same
range-suc a (suc n) =
    let same : (a + 1) + n ≡ a + suc n = omega arith in
    ap (λ (xs : List ℕ). a ∷ xs) (range-suc (a + 1) n ∙ ap (λ (x : ℕ). range_with_len (a + 1) n ++ x ∷ []) same)

range-more : (n : ℕ) → range_with_len 0 (n + 1) ≡ range_with_len 0 n ++ n ∷ []
range-more n =
    let more : n + 1 ≡ suc n = omega arith in
    let same : 0 + n ≡ n = omega arith in
    ap (λ (m : ℕ). range_with_len 0 m) more ∙ (range-suc 0 n ∙ ap (λ (x : ℕ). range_with_len 0 n ++ x ∷ []) same)

filter-append : {X : Type 0} (p : X → Bool) (xs ys : List X) → filter p (xs ++ ys) ≡ filter p xs ++ filter p ys
filter-append p [] ys = refl
filter-append p (x ∷ xs) ys = let ih = filter-append p xs ys in grind (arith, ih)

filter-more : (p : ℕ → Bool) (n : ℕ) → filter p (range_with_len 0 (n + 1)) ≡ filter p (range_with_len 0 n) ++ (if p n then n ∷ [] else [])
filter-more p n = ap (filter p) (range-more n) ∙ filter-append p (range_with_len 0 n) (n ∷ [])

module _ {w : ℕ} (top : ℕ) (key : Key) (parent i n : ℕ) (v : Verdict) (start xs : List (Sent w))
    (so_far : map (sent_of top) xs ≡ map (sent_of top) start ++ map (down_to key i v) (filter (is_child parent) (range_with_len 0 n))) where
  -- the next place is a child
  pub down-child : (x : Sent w) → is_child parent n ≡ true → sent_of top x ≡ down_to key i v n
      → map (sent_of top) (xs ++ x ∷ []) ≡ map (sent_of top) start ++ map (down_to key i v) (filter (is_child parent) (range_with_len 0 (n + 1)))
  down-child x child is =
      let more : filter (is_child parent) (range_with_len 0 (n + 1)) ≡ filter (is_child parent) (range_with_len 0 n) ++ n ∷ [] = filter-more (is_child parent) n ∙ rw child refl in
      map-append (sent_of top) xs (x ∷ [])
      ∙ (ap (λ (ys : List Sent_seen). ys ++ sent_of top x ∷ []) so_far
      ∙ (append_assoc (map (sent_of top) start) (map (down_to key i v) (filter (is_child parent) (range_with_len 0 n))) (sent_of top x ∷ [])
      ∙ ap (λ (ys : List Sent_seen). map (sent_of top) start ++ ys)
      (ap (λ (s : Sent_seen). map (down_to key i v) (filter (is_child parent) (range_with_len 0 n)) ++ s ∷ []) is
      ∙ sym (ap (map (down_to key i v)) more ∙ map-append (down_to key i v) (filter (is_child parent) (range_with_len 0 n)) (n ∷ [])))))

  -- the next place is no child
  pub down-other : is_child parent n ≡ false → map (sent_of top) xs ≡ map (sent_of top) start ++ map (down_to key i v) (filter (is_child parent) (range_with_len 0 (n + 1)))
  down-other other =
      let more : filter (is_child parent) (range_with_len 0 (n + 1)) ≡ filter (is_child parent) (range_with_len 0 n) =
      filter-more (is_child parent) n ∙ (rw other refl ∙ append-nil (filter (is_child parent) (range_with_len 0 n))) in
      rw more so_far

-- all places
pub down-all : (key : Key) (parent i n : ℕ) (v : Verdict) → n ≡ length key.members → map (down_to key i v) (filter (is_child parent) (range_with_len 0 n)) ≡ pass_down key parent i v
unfolding pass_down children_of
down-all key parent i n v is = rw is refl

module _ (h old new : Held) (key : Key) (i : ℕ) (is : h ≡ old) (rank : new.rank ≡ h.rank) (top : new.top ≡ h.top) where
  became : (v : Verdict) → new.part ≡ takes (rounds_after h.part key i v) key i v → Becomes old new (takes (rounds_after old.part key i v) key i v)
  became v part = subst (λ (o : Held). Becomes o new (takes (rounds_after o.part key i v) key i v)) is (record { part = part; rank = rank; top = top })

  pub became-ready : new.part
      ≡ record h.part { gathered = drop_offers h.part.gathered key; rounds = set_round h.part.rounds key 1; opened = set_stage h.part.opened key (Waiting 1) }
      → Becomes old new (takes (rounds_after old.part key i Ready) key i Ready)
  unfolding takes rounds_after
  became-ready part = became Ready part

  pub became-retry : new.part
      ≡ record h.part {
        owner = let_go h.part.owner key;
        gathered = drop_offers h.part.gathered key;
        rounds = set_round h.part.rounds key (i + 1);
        opened = set_stage h.part.opened key (Waiting (i + 1));
      }
      → Becomes old new (takes (rounds_after old.part key i Retry) key i Retry)
  unfolding takes rounds_after
  became-retry part = became Retry part

  pub became-context : (c : ℕ) → new.part
      ≡ record h.part {
        mask = set h.part.mask c false;
        owner = let_go h.part.owner key;
        gathered = drop_offers h.part.gathered key;
        rounds = drop_round h.part.rounds key;
        opened = set_stage h.part.opened key (Done (outcome.Context c));
      }
      → Becomes old new (takes (rounds_after old.part key i (Context c)) key i (Context c))
  unfolding takes rounds_after
  became-context c part = became (Context c) part

  pub became-exhausted : new.part
      ≡ record h.part {
        owner = let_go h.part.owner key;
        gathered = drop_offers h.part.gathered key;
        rounds = drop_round h.part.rounds key;
        opened = set_stage h.part.opened key (Done outcome.Exhausted);
      }
      → Becomes old new (takes (rounds_after old.part key i Exhausted) key i Exhausted)
  unfolding takes rounds_after
  became-exhausted part = became Exhausted part

module _ {w : ℕ} (old new : Held) (key : Key) (i : ℕ) (v : Verdict) (before after : List (Sent w)) where
  pub made-decide : (place : ℕ) → Becomes old new (takes (rounds_after old.part key i v) key i v) → place ≡ place_in key.members old.rank
      → map (sent_of old.top) after ≡ map (sent_of old.top) before ++ pass_down key place i v → Makes (decide old.rank old.part key i v) old new before after
  unfolding decide
  made-decide place becomes at sent = record { becomes = becomes; sent = rw at at sent }

  pub made-settle : i ≡ round_of old.part.rounds key → v ≡ verdict_of old.top old.part.gathered key (round_of old.part.rounds key)
      → Makes (decide old.rank old.part key i v) old new before after → Makes (settle_offers old.rank old.top old.part key) old new before after
  unfolding settle_offers
  made-settle round verdict made = rw (← verdict, ← round) made

  pub made-take_down : (from : ℕ) → takes_down old.rank old.part from key i v ≡ true → Makes (decide old.rank old.part key i v) old new before after
      → Makes (take_down old.rank old.part from key i v) old new before after
  unfolding take_down
  made-take_down from taken made = rw taken made
