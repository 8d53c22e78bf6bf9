-- What a match within a call finds and sees, told by the registry before the call and by one message or one receive more.
use Rattle.std.proofs.Common.{◌≡◌, ℕ, ◌&&◌, ◌||◌, not, Bool, true, false, if◌then◌else◌, List, [], ◌∷◌, ◌++◌, find, Option, Some, None, refl, ap, ◌∙◌}
use Rattle.std.specs.Option.{option_or}
use Rattle.std.specs.List.{list_any}
use Rattle.mpi_law.specs.declared.effects.Effect.{Effect}
use Rattle.mpi_law.specs.Registry.State.{Registry, Message, Receive}
use Rattle.mpi_law.specs.Registry.Messages.{fits, is_unmatched, is_waiting, is_overtaken, is_preceded, is_receive, is_message, receive_of, message_of, may_match}
use Rattle.central_law.specs.Within.{sent_within, posted_within, with_last, last_passes, last_if, posted_state}

found_last : {A : Type 0} (p : A → Bool) (xs : List A) (y : A) → find p (xs ++ y ∷ []) ≡ option_or (find p xs) (if p y then Some y else None)
found_last p [] y = refl
found_last {A = A} p (x ∷ xs) y = go (p x) (found_last p xs y)
  where
    go : (b : Bool) → find p (xs ++ y ∷ []) ≡ option_or (find p xs) (if p y then Some y else None) → (if b then Some x else find p (xs ++ y ∷ [])) ≡ option_or (if b then Some x else find p xs) (if p y then Some y else None)
    go true ih = refl
    go false ih = ih

nothing_more : {A : Type 0} (o : Option A) → o ≡ option_or o None
nothing_more None = refl
nothing_more (Some x) = refl

find_more : {A : Type 0} (p : A → Bool) (xs : List A) (o : Option A) → find p (with_last xs o) ≡ option_or (find p xs) (last_if p o)
find_more p xs None = nothing_more (find p xs)
find_more p xs (Some y) = found_last p xs y

or_false : (b : Bool) → b ≡ (b || false)
or_false true = refl
or_false false = refl

any_last : {A : Type 0} (p : A → Bool) (xs : List A) (y : A) → list_any p (xs ++ y ∷ []) ≡ (list_any p xs || p y)
any_last p [] y = go (p y)
  where
    go : (b : Bool) → (b || false) ≡ b
    go true = refl
    go false = refl
any_last p (x ∷ xs) y = go (p x) (any_last p xs y)
  where
    go : (b : Bool) → list_any p (xs ++ y ∷ []) ≡ (list_any p xs || p y) → (b || list_any p (xs ++ y ∷ [])) ≡ ((b || list_any p xs) || p y)
    go true ih = refl
    go false ih = ih

any_more : {A : Type 0} (p : A → Bool) (xs : List A) (o : Option A) → list_any p (with_last xs o) ≡ (list_any p xs || last_passes p o)
any_more p xs None = or_false (list_any p xs)
any_more p xs (Some y) = any_last p xs y

-- the new message, or the new receive, hinders by itself
apart : (a b c d o e q : Bool) → (a && (b && (c && (not (d || o) && not (e || q))))) ≡ ((a && (b && (c && (not d && not e)))) && (not o && not q))
apart false b c d o e q = refl
apart true false c d o e q = refl
apart true true false d o e q = refl
apart true true true true o e q = refl
apart true true true false true true q = refl
apart true true true false true false q = refl
apart true true true false false true q = refl
apart true true true false false false q = refl

module _ (g : Registry) (r : ℕ) (e : Effect ℕ) where
  pub receives_more : (q number : ℕ) → receive_of (posted_state g r e) q number ≡ option_or (receive_of g q number) (last_if (is_receive q number) (posted_within g r e))
  receives_more q number = find_more (is_receive q number) g.receives (posted_within g r e)

  pub messages_more : (from number : ℕ) → message_of (posted_state g r e) from number ≡ option_or (message_of g from number) (last_if (is_message from number) (sent_within g r e))
  messages_more from number = find_more (is_message from number) g.messages (sent_within g r e)

  pub matches_more : (x : Receive) (m : Message)
      → may_match (posted_state g r e) x m ≡ (may_match g x m && (not (last_passes (is_overtaken g x m) (sent_within g r e)) && not (last_passes (is_preceded g x m) (posted_within g r e))))
  unfolding may_match
  matches_more x m =
      ap (λ (b : Bool). is_waiting x && (is_unmatched m && (fits g x m && (not b && not (list_any (is_preceded g x m) (with_last g.receives (posted_within g r e))))))) (any_more (is_overtaken g x m) g.messages (sent_within g r e))
      ∙ ap (λ (b : Bool). is_waiting x && (is_unmatched m && (fits g x m && (not (list_any (is_overtaken g x m) g.messages || last_passes (is_overtaken g x m) (sent_within g r e)) && not b)))) (any_more (is_preceded g x m) g.receives (posted_within g r e))
      ∙ apart (is_waiting x) (is_unmatched m) (fits g x m) (list_any (is_overtaken g x m) g.messages) (last_passes (is_overtaken g x m) (sent_within g r e)) (list_any (is_preceded g x m) g.receives) (last_passes (is_preceded g x m) (posted_within g r e))
