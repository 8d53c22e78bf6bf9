-- The places of the creations that are not picked yet, as creations change.
use Rattle.std.proofs.Common.{◌≡◌, ℕ, zero, suc, ◌+◌, ◌<◌, ◌==◌, ◌&&◌, ◌||◌, not, Bool, true, false, if◌then◌else◌, List, [], ◌∷◌, ◌++◌, filter, find, get_or, set, length, position, refl, sym, ap, subst, ◌∙◌, arith}
use Rattle.std.specs.List.{list_all}
use Rattle.std.proofs.lemmas.List.{get_or_default}
use Rattle.std.proofs.lemmas.List.Folds.{list_any-append}
use Rattle.mpi_law.specs.Registry.State.{Caller, Creation, CreationName, Pick, Group_and_tag, Nth_dup, Nth_split, Group_on, blank_creation}
use Rattle.mpi_law.specs.Registry.Creations.{all_called, has_called, is_joinable, is_nil, is_pickable, is_picked, is_split, place_where, same_name, with_answer, with_caller, with_pick}
use Rattle.central_comms.specs.Places.{places_from, places_where}
use Rattle.central_comms.proofs.PlaceFacts.{find_at_places, places-push, places_kept_set}
use Rattle.central_creations.specs.Waiting.{is_waiting}

-- What is picked stays picked

more_called : (c : Creation) (k : Caller) (ms : List ℕ) → list_all (has_called c) ms ≡ true → list_all (has_called (with_caller c k)) ms ≡ true
more_called c k [] all = refl
more_called c k (m ∷ ms) all =
    let here = list_any-append (λ j. j.rank == m) c.callers (k ∷ []) in
    let later = more_called c k ms (grind (arith, all)) in
    grind (arith, all, here, later)

not_waiting : (c : Creation) → is_waiting c ≡ false → is_picked c ≡ true
not_waiting c done = grind (arith, done)

pub picked_call : (k : Caller) (c : Creation) → is_waiting c ≡ false → is_waiting (with_caller c k) ≡ false
picked_call k c done = go (is_split c.name) (not_waiting c done)
  where
    go : (b : Bool) → (if b then all_called c else not (is_nil c.picks)) ≡ true → not (if b then all_called (with_caller c k) else not (is_nil c.picks)) ≡ false
    go true all = let more = more_called c k c.group all in grind (arith, more)
    go false some = grind (arith, some)

some_picks : (ks : List Pick) (k : Pick) → is_nil (ks ++ k ∷ []) ≡ false
some_picks [] k = refl
some_picks (j ∷ js) k = refl

pub picked_pick : (k : Pick) (c : Creation) → is_waiting c ≡ false → is_waiting (with_pick c k) ≡ false
picked_pick k c done = go (is_split c.name) (not_waiting c done)
  where
    go : (b : Bool) → (if b then all_called c else not (is_nil c.picks)) ≡ true → not (if b then all_called c else not (is_nil (c.picks ++ k ∷ []))) ≡ false
    go true all = grind (arith, all)
    go false some = let more = some_picks c.picks k in grind (arith, more)

-- The places that are left

module _ (f : Creation → Creation) (down : (c : Creation) → is_waiting c ≡ false → is_waiting (f c) ≡ false) (old : List Creation) (waiting left : List ℕ) (p : ℕ) where
  places_left : (cs : List Creation) → cs ≡ set old p (f (get_or old p blank_creation)) → waiting ≡ places_where is_waiting old
      → left ≡ filter (λ k. is_waiting (get_or cs k blank_creation)) waiting → left ≡ places_where is_waiting cs
  places_left cs becomes was is =
      is ∙ ap (λ ps. filter (λ k. is_waiting (get_or cs k blank_creation)) ps) was
      ∙ subst (λ ds. filter (λ k. is_waiting (get_or ds k blank_creation)) (places_where is_waiting old) ≡ places_where is_waiting ds) (sym becomes)
      (places_kept_set blank_creation is_waiting old f down p)

  pub set_left : (before after d : Creation) → p < length old → before ≡ get_or old p d → after ≡ f before → waiting ≡ places_where is_waiting old
      → left ≡ filter (λ k. is_waiting (get_or (set old p after) k blank_creation)) waiting → left ≡ places_where is_waiting (set old p after)
  set_left before after d within was becomes = places_left (set old p after) (ap (λ c. set old p c) (becomes ∙ ap f (was ∙ get_or_default old p d blank_creation within)))

-- an answer leaves all places
answered_from : (n : ℕ) (cs : List Creation) (p : ℕ) (d : Creation) (r : ℕ) → places_from is_waiting n (set cs p (with_answer (get_or cs p d) r)) ≡ places_from is_waiting n cs
answered_from n [] p d r = refl
answered_from n (c ∷ cs) zero d r = refl
answered_from n (c ∷ cs) (suc p) d r = let later = answered_from (n + 1) cs p d r in grind (arith, later)

pub answered_waiting : (cs : List Creation) (p r : ℕ) (old new d : Creation) → old ≡ get_or cs p d → new ≡ with_answer old r → places_where is_waiting (set cs p new) ≡ places_where is_waiting cs
answered_waiting cs p r old new d was becomes =
    ap (λ c. places_where is_waiting (set cs p c)) (becomes ∙ ap (λ (c : Creation). with_answer c r) was) ∙ answered_from 0 cs p d r

-- Lookups

not_joinable : (name : CreationName) (c : Creation) → is_waiting c ≡ false → is_joinable name c ≡ false
not_joinable name c done = let is = not_waiting c done in grind (arith, is)

pub joinable_found : (name : CreationName) (cs : List Creation) → find (λ k. is_joinable name (get_or cs k blank_creation)) (places_where is_waiting cs) ≡ position (is_joinable name) cs
joinable_found name cs = find_at_places blank_creation is_waiting (is_joinable name) (λ c done. not_joinable name c done) cs

-- a name that is no split's is joined where it is picked
same_split : (a b : CreationName) → same_name a b ≡ true → is_split b ≡ false → is_split a ≡ false
same_split (Group_and_tag g t) b same plain = refl
same_split (Nth_dup p n) b same plain = refl
same_split (Nth_split p n) (Group_and_tag h u) same plain = absurd (cc (same))
same_split (Nth_split p n) (Nth_dup q m) same plain = absurd (cc (same))
same_split (Nth_split p n) (Nth_split q m) same plain = absurd (cc (plain))
same_split (Nth_split p n) (Group_on q u h) same plain = absurd (cc (same))
same_split (Group_on p t g) b same plain = refl

pickable_is : (name : CreationName) → is_split name ≡ false → (c : Creation) → is_joinable name c ≡ is_pickable name c
pickable_is name plain c = go (same_name c.name name) refl
  where
    go : (b : Bool) → same_name c.name name ≡ b → (b && not (is_picked c)) ≡ (b && (is_split c.name || is_nil c.picks))
    go true same = let kind = same_split c.name name same plain in grind (arith, kind)
    go false same = refl

pub place_pickable_is : (name : CreationName) → is_split name ≡ false → (cs : List Creation) → place_where (is_joinable name) cs ≡ place_where (is_pickable name) cs
place_pickable_is name plain [] = refl
place_pickable_is name plain (c ∷ cs) = let here = pickable_is name plain c in let later = place_pickable_is name plain cs in grind (arith, here, later)

-- A creation more

pub opened_waiting : (cs : List Creation) (c : Creation) (waiting left : List ℕ) → waiting ≡ places_where is_waiting cs → left ≡ waiting ++ (if is_waiting c then length cs ∷ [] else [])
    → left ≡ places_where is_waiting (cs ++ c ∷ [])
opened_waiting cs c waiting left was is = is ∙ ap (λ ps. ps ++ (if is_waiting c then length cs ∷ [] else [])) was ∙ sym (places-push is_waiting cs c)
