-- What a match sees is not changed by what a call changes of communicators and creations.
use Rattle.std.proofs.Common.{◌≡◌, ℕ, zero, suc, ◌⊎◌, ◌≢◌, Bool, true, false, if◌then◌else◌, List, [], ◌∷◌, get_or, set, Option, Some, None, inl, inr, refl, sym, ap, subst, arith}
use Rattle.std.proofs.lemmas.Bool.{cases_eq}
use Rattle.std.proofs.lemmas.List.{get_or-set_other}
use Rattle.std.specs.List.{list_any}
use Rattle.mpi_base.specs.declared.messages.Matched.{Matched}
use Rattle.mpi_law.specs.declared.effects.Effect.{Effect}
use Rattle.mpi_law.specs.declared.effects.Effect.TheVariants as effect
use Rattle.mpi_law.specs.Registry.State.{Registry, Communicator, Message, Receive, blank_comm}
use Rattle.mpi_law.specs.Registry.Messages.{fits, is_overtaken, is_preceded, may_match, receive_of, message_of}
use Rattle.mpi_law.specs.Registry.Calls.{with_freed, is_kept, freed_all}
use Rattle.central_law.specs.After.{comms_after, creations_after}
use Rattle.central_law.specs.Tests.{match_test}
use Rattle.mpi_law.specs.Registry.Tests.{can_take}

-- the registry with the communicators and creations as the call leaves them
abbrev pub changed_state : Registry → ℕ → ℕ → Effect ℕ → Registry
changed_state g r t e = record g { comms = comms_after g r e; creations = creations_after g r t e }

-- Members are the same at each place

record SameMembers (xs ys : List Communicator) : Type 0 where
  each : (p : ℕ) → (get_or ys p blank_comm).members ≡ (get_or xs p blank_comm).members

all_same : (xs : List Communicator) → SameMembers xs xs
all_same xs = record { each = λ p. refl }

freed_one : (xs : List Communicator) (r p : ℕ) → SameMembers xs (set xs p (with_freed r (get_or xs p blank_comm)))
freed_one xs r p = record { each = λ q. at q (cases_eq q p) }
  where
    inside : (q : ℕ) → q ≡ p → (get_or (set xs p (with_freed r (get_or xs p blank_comm))) q blank_comm).members ≡ (get_or xs q blank_comm).members
    inside q same = subst (λ k. (get_or (set xs p (with_freed r (get_or xs p blank_comm))) k blank_comm).members ≡ (get_or xs k blank_comm).members) (sym same) (here xs p)
      where
        here : (ys : List Communicator) (k : ℕ) → (get_or (set ys k (with_freed r (get_or ys k blank_comm))) k blank_comm).members ≡ (get_or ys k blank_comm).members
        here [] k = refl
        here (y ∷ ys) zero = refl
        here (y ∷ ys) (suc k) = here ys k

    at : (q : ℕ) → (q ≡ p) ⊎ (q ≢ p) → (get_or (set xs p (with_freed r (get_or xs p blank_comm))) q blank_comm).members ≡ (get_or xs q blank_comm).members
    at q (inl same) = inside q same
    at q (inr apart) = ap (λ (m : Communicator). m.members) (get_or-set_other xs p q (with_freed r (get_or xs p blank_comm)) blank_comm apart)

freed_many : (xs : List Communicator) (r s p : ℕ) → (get_or (freed_all xs r s) p blank_comm).members ≡ (get_or xs p blank_comm).members
freed_many [] r s p = refl
freed_many (x ∷ xs) r s zero = go (is_kept r s x)
  where
    go : (b : Bool) → (if b then with_freed r x else x).members ≡ x.members
    go true = refl
    go false = refl
freed_many (x ∷ xs) r s (suc p) = freed_many xs r s p

same_after : (g : Registry) (r : ℕ) (e : Effect ℕ) → SameMembers g.comms (comms_after g r e)
same_after g r (effect.Says said) = all_same g.comms
same_after g r (effect.Opens target) = all_same g.comms
same_after g r (effect.Groups target members session) = all_same g.comms
same_after g r (effect.Ungroups name) = all_same g.comms
same_after g r (effect.Joins a) = all_same g.comms
same_after g r (effect.Frees name p) = freed_one g.comms r p
same_after g r (effect.Ends name session) = record { each = λ p. freed_many g.comms r session p }
same_after g r (effect.Sends m) = all_same g.comms
same_after g r (effect.Receives x) = all_same g.comms
same_after g r (effect.Posts target x) = all_same g.comms
same_after g r (effect.NullPosts target) = all_same g.comms
same_after g r (effect.Completes name number) = all_same g.comms
same_after g r (effect.Awaits name) = all_same g.comms

-- Tests of every element that are the same

any_same : {A : Type 0} (p q : A → Bool) (xs : List A) → ((x : A) → q x ≡ p x) → list_any q xs ≡ list_any p xs
any_same p q [] same = refl
any_same p q (x ∷ xs) same = let here = same x in let later = any_same p q xs same in grind (arith, here, later)

module _ (g : Registry) (r t : ℕ) (e : Effect ℕ) where
  abbrev new : Registry
  new = changed_state g r t e

  fits_same : (x : Receive) (m : Message) → fits new x m ≡ fits g x m
  fits_same x m = let here = (same_after g r e).each m.comm in rw here refl

  overtaken_same : (x : Receive) (m n : Message) → is_overtaken new x m n ≡ is_overtaken g x m n
  overtaken_same x m n = rw (fits_same x n) refl

  preceded_same : (x : Receive) (m : Message) (y : Receive) → is_preceded new x m y ≡ is_preceded g x m y
  preceded_same x m y = rw (fits_same y m) refl

  match_same : (x : Receive) (m : Message) → may_match new x m ≡ may_match g x m
  unfolding may_match
  match_same x m =
      let over = any_same (is_overtaken g x m) (is_overtaken new x m) g.messages (λ n. overtaken_same x m n) in
      let before = any_same (is_preceded g x m) (is_preceded new x m) g.receives (λ y. preceded_same x m y) in
      let fit = fits_same x m in
      rw (fit, over, before) refl

  taken_same : (x : Option Receive) (m : Option Message) → can_take new x m ≡ can_take g x m
  taken_same None m = refl
  taken_same (Some x) None = refl
  taken_same (Some x) (Some m) = match_same x m

  pub match_kept : (m : Option Matched) → match_test new r m ≡ match_test g r m
  match_kept None = refl
  match_kept (Some m) = taken_same (receive_of g r m.receive) (message_of g m.from m.number)
