-- What a communicator that all members have freed and given back is to a rank, and what changes of one keep of that.
use Rattle.std.proofs.Common.{◌≡◌, ℕ, zero, suc, ◌+◌, ◌≤◌, ◌==◌, ◌&&◌, Bool, true, false, if◌then◌else◌, List, [], ◌∷◌, ◌++◌, length, filter, take, get_or, set, slice_get, Some, None, add-one, inl, inr, refl, sym, ap, subst, ◌∙◌, arith}
use Rattle.std.specs.List.{list_all, fold}
use Rattle.std.proofs.lemmas.Bool.{cases_eq}
use Rattle.std.proofs.lemmas.Bool.Decides.{nat_tests}
use Rattle.std.proofs.lemmas.List.Folds.{list_any-append}
use Rattle.mpi_base.specs.MemberLists.{has_rank}
use Rattle.mpi_law.specs.Registry.State.{Communicator, blank_comm}
use Rattle.mpi_law.specs.Registry.Contexts.{is_live_at}
use Rattle.mpi_law.specs.Registry.Calls.{with_freed, is_kept, freed_all}
use Rattle.mpi_law.specs.Registry.Events.{with_returned}
use Rattle.mpi_law.specs.Registry.Replies.{is_left_of}
use Rattle.central_comms.specs.Places.{places_where}
use Rattle.central_comms.specs.Rows.{is_held, freed_if_kept, with_freed_at}
use Rattle.central_comms.proofs.PlaceFacts.{places_kept_set, places_kept_map, fold_at_places}

-- All of a list, by its places

pub one_fails : {X : Type 0} (test : X → Bool) (xs : List X) (i : ℕ) (x : X) → Some x ≡ slice_get xs i → test x ≡ false → list_all test xs ≡ false
one_fails test [] i x at fails = absurd (cc (at))
one_fails test (y ∷ ys) zero x at fails = grind (arith, at, fails)
one_fails test (y ∷ ys) (suc i) x at fails = let later = one_fails test ys i x at fails in grind (arith, later)

next_passes : {X : Type 0} (test : X → Bool) (xs : List X) (i : ℕ) (x : X) → Some x ≡ slice_get xs i → test x ≡ true → list_all test (take i xs) ≡ true
    → list_all test (take (suc i) xs) ≡ true
next_passes test [] i x at pass all = absurd (cc (at))
next_passes test (y ∷ ys) zero x at pass all = grind (arith, at, pass)
next_passes test (y ∷ ys) (suc i) x at pass all =
    let later = next_passes test ys i x at pass (grind (arith, all)) in
    grind (arith, later, all)

pub one_more_passes : {X : Type 0} (test : X → Bool) (xs : List X) (i : ℕ) (x : X) → Some x ≡ slice_get xs i → test x ≡ true → list_all test (take i xs) ≡ true
    → list_all test (take (i + 1) xs) ≡ true
one_more_passes test xs i x at pass all = rw (add-one i) (next_passes test xs i x at pass all)

pub none_below : {X : Type 0} (xs : List X) (i : ℕ) → None ≡ slice_get xs i → length xs ≤ i
none_below [] i at = omega arith
none_below (x ∷ xs) zero at = absurd (cc (at))
none_below (x ∷ xs) (suc i) at = omega (arith, none_below xs i at)

-- Ranks among ranks

has_there : (ranks members : List ℕ) (r : ℕ) → list_all (has_rank ranks) members ≡ true → has_rank members r ≡ true → has_rank ranks r ≡ true
has_there ranks [] r all here = absurd (cc)
has_there ranks (m ∷ ms) r all here = elim (cases_eq m r) [
  | inl same ↦ let first : has_rank ranks m ≡ true = grind (arith, all) in subst (λ k. has_rank ranks k ≡ true) same first
  | inr apart ↦ has_there ranks ms r (grind (arith, all)) (grind (arith, nat_tests, here, apart))
]

has_more : (ranks more : List ℕ) (r : ℕ) → has_rank ranks r ≡ true → has_rank (ranks ++ more) r ≡ true
has_more ranks more r here = let both = list_any-append (λ k. k == r) ranks more in grind (arith, both, here)

all_have_more : (ranks more members : List ℕ) → list_all (has_rank ranks) members ≡ true → list_all (has_rank (ranks ++ more)) members ≡ true
all_have_more ranks more [] all = refl
all_have_more ranks more (m ∷ ms) all =
    let here = has_more ranks more m (grind (arith, all)) in
    let later = all_have_more ranks more ms (grind (arith, all)) in
    grind (arith, here, later)

-- A communicator that all members have freed and given back

module _ (m : Communicator) (done : is_held m ≡ false) where
  all_freed : list_all (has_rank m.freed) m.members ≡ true
  all_freed = grind (arith, done)

  all_returned : list_all (has_rank m.returned) m.members ≡ true
  all_returned = grind (arith, done)

  pub done_not_live : (r : ℕ) → is_live_at m r ≡ false
  done_not_live r = let there = has_there m.returned m.members r all_returned in grind (arith, there)

  pub done_not_here : (r c : ℕ) → ((m.ctx == c) && is_live_at m r) ≡ false
  done_not_here r c = let none = done_not_live r in grind (arith, none)

  pub done_not_left : (r s : ℕ) → is_left_of r s m ≡ false
  done_not_left r s = let none = done_not_live r in grind (arith, none)

  done_not_kept : (r s : ℕ) → is_kept r s m ≡ false
  done_not_kept r s = let there = has_there m.freed m.members r all_freed in grind (arith, there)

  pub done_stays : (r s : ℕ) → freed_if_kept r s m ≡ m
  done_stays r s = rw (done_not_kept r s) refl

  still_done_freed : (r : ℕ) → is_held (with_freed r m) ≡ false
  still_done_freed r = let more = all_have_more m.freed (r ∷ []) m.members all_freed in grind (arith, more, all_returned)

  still_done_returned : (r : ℕ) → is_held (with_returned r m) ≡ false
  still_done_returned r = let more = all_have_more m.returned (r ∷ []) m.members all_returned in grind (arith, more, all_freed)

-- A rank frees the communicators of a session

module _ (r s : ℕ) where
  pub freed_at_places : (comms : List Communicator) → fold (with_freed_at r s) comms (places_where is_held comms) ≡ freed_all comms r s
  freed_at_places comms = fold_at_places blank_comm is_held (freed_if_kept r s) (λ m done. done_stays m done r s) comms

  -- a rank that has freed a communicator does not keep it
  freed_not_kept : (m : Communicator) → is_kept r s (with_freed r m) ≡ false
  freed_not_kept m =
      let both = list_any-append (λ k. k == r) m.freed (r ∷ []) in
      let last : (r == r) ≡ true = grind (arith, nat_tests) in
      grind (arith, both, last)

  pub never_kept : (m : Communicator) → is_kept r s (freed_if_kept r s m) ≡ false
  never_kept m = go (is_kept r s m) refl
    where
      go : (b : Bool) → is_kept r s m ≡ b → is_kept r s (if b then with_freed r m else m) ≡ false
      go true is = freed_not_kept m
      go false is = is

-- The places that are left

-- what is left of the places of the old communicators is the places of the new ones
places_left : (old new changed : List Communicator) (held left : List ℕ) → new ≡ changed
    → filter (λ k. is_held (get_or changed k blank_comm)) (places_where is_held old) ≡ places_where is_held changed
    → held ≡ places_where is_held old → left ≡ filter (λ k. is_held (get_or new k blank_comm)) held → left ≡ places_where is_held new
places_left old new changed held left becomes step was is =
    is ∙ ap (λ ps. filter (λ k. is_held (get_or new k blank_comm)) ps) was
    ∙ subst (λ cs. filter (λ k. is_held (get_or cs k blank_comm)) (places_where is_held old) ≡ places_where is_held cs) (sym becomes) step

module _ (old new : List Communicator) (held left : List ℕ) (r : ℕ) where
  pub left_after_free : (p : ℕ) → new ≡ set old p (with_freed r (get_or old p blank_comm))
      → held ≡ places_where is_held old → left ≡ filter (λ k. is_held (get_or new k blank_comm)) held → left ≡ places_where is_held new
  left_after_free p becomes = places_left old new (set old p (with_freed r (get_or old p blank_comm))) held left becomes (places_kept_set blank_comm is_held old (with_freed r) (λ m done. still_done_freed m done r) p)

  pub left_after_return : (p : ℕ) → new ≡ set old p (with_returned r (get_or old p blank_comm))
      → held ≡ places_where is_held old → left ≡ filter (λ k. is_held (get_or new k blank_comm)) held → left ≡ places_where is_held new
  left_after_return p becomes = places_left old new (set old p (with_returned r (get_or old p blank_comm))) held left becomes (places_kept_set blank_comm is_held old (with_returned r) (λ m done. still_done_returned m done r) p)

  pub left_after_session : (s : ℕ) → new ≡ freed_all old r s
      → held ≡ places_where is_held old → left ≡ filter (λ k. is_held (get_or new k blank_comm)) held → left ≡ places_where is_held new
  left_after_session s becomes =
      places_left old new (freed_all old r s) held left becomes
      (places_kept_map blank_comm is_held old (freed_if_kept r s) (λ m done. ap is_held (done_stays m done r s) ∙ done))
