-- A message that is matched or dropped stays so and matches nothing, and so does a receive that has taken a message.
use Rattle.std.proofs.Common.{◌≡◌, ℕ, Bool, true, false, if◌then◌else◌, List, filter, map, get_or, Some, refl, ap, ◌∙◌, arith}
use Rattle.std.specs.List.{list_any}
use Rattle.mpi_law.specs.Registry.State.{Registry, Message, Receive, Matched, Dropped}
use Rattle.mpi_law.specs.Registry.Messages.{is_unmatched, is_waiting, is_message, is_receive, is_left_on, is_overtaken, is_preceded, may_match, with_fate, taking}
use Rattle.central_comms.specs.Places.{places_where}
use Rattle.central_comms.proofs.PlaceFacts.{places_kept_map}
use Rattle.central_mail.specs.Rows.{blank_message, blank_receive, matched_if, dropped_if, taking_if, waits_on}
use Rattle.central_mail.proofs.Registries.{may_match_is}
use Rattle.central_mail.proofs.Walks.{none_passes}

module _ (m : Message) (done : is_unmatched m ≡ false) where
  pub not_left : (p r : ℕ) → is_left_on p r m ≡ false
  not_left p r = grind (arith, done)

  pub not_overtaking : (g : Registry) (x : Receive) (n : Message) → is_overtaken g x n m ≡ false
  not_overtaking g x n = grind (arith, done)

  pub not_to_match : (g : Registry) (x : Receive) → may_match g x m ≡ false
  not_to_match g x = let is = may_match_is g x m in grind (arith, is, done)

  pub not_dropped : (p r : ℕ) → dropped_if p r m ≡ m
  not_dropped p r = let none = not_left p r in grind (arith, none)

  pub still_matched : (from number : ℕ) → is_unmatched (matched_if from number m) ≡ false
  still_matched from number = go (is_message from number m)
    where
      go : (b : Bool) → is_unmatched (if b then with_fate Matched m else m) ≡ false
      go true = refl
      go false = done

module _ (x : Receive) (done : is_waiting x ≡ false) where
  pub not_waiting_on : (p r : ℕ) → waits_on p r x ≡ false
  not_waiting_on p r = grind (arith, done)

  pub not_preceding : (g : Registry) (y : Receive) (m : Message) → is_preceded g y m x ≡ false
  not_preceding g y m = grind (arith, done)

  not_to_take : (g : Registry) (m : Message) → may_match g x m ≡ false
  not_to_take g m = let is = may_match_is g x m in grind (arith, is, done)

  pub takes_none : (g : Registry) (ms : List Message) → list_any (may_match g x) ms ≡ false
  takes_none g ms = none_passes (may_match g x) ms (not_to_take g)

  pub still_taken : (r number : ℕ) (m : Message) → is_waiting (taking_if r number m x) ≡ false
  still_taken r number m = go (is_receive r number x)
    where
      go : (b : Bool) → is_waiting (if b then taking (Some m) x else x) ≡ false
      go true = refl
      go false = done

-- What keeps its numbers

module _ (a b : ℕ) (m : Message) where
  pub matched_numbers : (from number : ℕ) → is_message a b (matched_if from number m) ≡ is_message a b m
  matched_numbers from number = go (is_message from number m)
    where
      go : (t : Bool) → is_message a b (if t then with_fate Matched m else m) ≡ is_message a b m
      go true = refl
      go false = refl

  pub dropped_numbers : (p r : ℕ) → is_message a b (dropped_if p r m) ≡ is_message a b m
  dropped_numbers p r = go (is_left_on p r m)
    where
      go : (t : Bool) → is_message a b (if t then with_fate Dropped m else m) ≡ is_message a b m
      go true = refl
      go false = refl

pub taken_numbers : (a b : ℕ) (x : Receive) (r number : ℕ) (m : Message) → is_receive a b (taking_if r number m x) ≡ is_receive a b x
taken_numbers a b x r number m = go (is_receive r number x)
  where
    go : (t : Bool) → is_receive a b (if t then taking (Some m) x else x) ≡ is_receive a b x
    go true = refl
    go false = refl

-- What has other numbers stays

pub not_matched : (from number : ℕ) (m : Message) → is_message from number m ≡ false → matched_if from number m ≡ m
not_matched from number m other = ap (λ t. if t then with_fate Matched m else m) other

pub not_taking : (r number : ℕ) (m : Message) (x : Receive) → is_receive r number x ≡ false → taking_if r number m x ≡ x
not_taking r number m x other = ap (λ t. if t then taking (Some m) x else x) other

-- The places that are left

pub open_once_matched : (ms : List Message) (from number : ℕ)
    → filter (λ k. is_unmatched (get_or (map (matched_if from number) ms) k blank_message)) (places_where is_unmatched ms) ≡ places_where is_unmatched (map (matched_if from number) ms)
open_once_matched ms from number = places_kept_map blank_message is_unmatched ms (matched_if from number) (λ m done. still_matched m done from number)

pub open_once_dropped : (ms : List Message) (p r : ℕ)
    → filter (λ k. is_unmatched (get_or (map (dropped_if p r) ms) k blank_message)) (places_where is_unmatched ms) ≡ places_where is_unmatched (map (dropped_if p r) ms)
open_once_dropped ms p r = places_kept_map blank_message is_unmatched ms (dropped_if p r) (λ m done. ap is_unmatched (not_dropped m done p r) ∙ done)

pub waiting_once_taken : (xs : List Receive) (r number : ℕ) (m : Message)
    → filter (λ k. is_waiting (get_or (map (taking_if r number m) xs) k blank_receive)) (places_where is_waiting xs) ≡ places_where is_waiting (map (taking_if r number m) xs)
waiting_once_taken xs r number m = places_kept_map blank_receive is_waiting xs (taking_if r number m) (λ x done. still_taken x done r number m)
