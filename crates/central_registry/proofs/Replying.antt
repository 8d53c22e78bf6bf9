-- What a reply does to the registry, part by part.
use Rattle.std.proofs.Common.{◌≡◌, ◌≢◌, ℕ, zero, suc, ◌==◌, Bool, true, List, [], ◌∷◌, find, get_or, set, Option, Some, None, refl, ap, sym, subst, ◌∙◌, arith}
use Rattle.std.specs.List.{list_any}
use Rattle.mpi_base.specs.declared.replies.Reply.{Reply}
use Rattle.mpi_law.specs.Registry.State as reg
use Rattle.mpi_law.specs.Registry.State.{Registry, RankPart, Creation, Caller, Pick, Wait, Idle, Creating, Freeing, Ending, Receiving, Awaiting, blank_creation, blank_part, part_of, thread_of, creation_at, created_by, with_wait}
use Rattle.mpi_law.specs.Registry.Creations.{caller_of, has_called, outcome_for, with_answer}
use Rattle.mpi_law.specs.Registry.Replies.{bind_outcome, owed, with_local}
use Rattle.central_law.specs.After.{answered_state, replied_state}
use Rattle.central_law.specs.Fits.{ReplyFits}
use Rattle.central_registry.specs.Moves.{Moves}

module _ {A : Type 0} where
  -- where a list's element at a place passes a test, one is found
  pub found : (p : A → Bool) (xs : List A) → list_any p xs ≡ true → find p xs ≢ None
  found p [] h e = absurd (cc (h))
  found p (x ∷ xs) h e = let ih = found p xs in grind (arith, ih, h, e)

  -- what a new element leaves as it was at a place
  pub kept_field : {B : Type 0} (f : A → B) (xs : List A) (n : ℕ) (x d : A) → f x ≡ f (get_or xs n d) → f (get_or (set xs n x) n d) ≡ f (get_or xs n d)
  kept_field f [] n x d h = refl
  kept_field f (y ∷ ys) zero x d h = h
  kept_field f (y ∷ ys) (suc n) x d h = kept_field f ys n x d h

  -- an element set twice, the second from the first
  pub set_again : (f : A → A) (xs : List A) (n : ℕ) (x d : A) → set (set xs n x) n (f (get_or (set xs n x) n d)) ≡ set xs n (f x)
  set_again f [] n x d = refl
  set_again f (y ∷ ys) zero x d = refl
  set_again f (y ∷ ys) (suc n) x d = ap (λ zs. y ∷ zs) (set_again f ys n x d)

-- a wait for a creation
pub creating_is : (w : Wait) (n : ℕ) → created_by w ≡ Some n → w ≡ Creating n
creating_is Idle n h = absurd (cc (h))
creating_is (reg.Reply_now x) n h = absurd (cc (h))
creating_is (reg.Sending m) n h = absurd (cc (h))
creating_is (reg.Posting x) n h = absurd (cc (h))
creating_is (reg.Requesting x) n h = absurd (cc (h))
creating_is (Creating m) n h = cc (h)
creating_is (Freeing p) n h = absurd (cc (h))
creating_is (Ending s) n h = absurd (cc (h))
creating_is (Receiving m) n h = absurd (cc (h))
creating_is (Awaiting name) n h = absurd (cc (h))

-- a thread waits for nothing
abbrev pub idled : Registry → ℕ → ℕ → Registry
idled g r t = record g { ranks = set g.ranks r (with_wait (part_of g r) t Idle) }

module _ (g : Registry) (r t : ℕ) where
  -- the reply that is owed is given
  pub given : (reply : Option Reply) (said : Reply) → reply ≡ Some said → owed g r t ≡ Some said → (new : Registry) → new ≡ answered_state g r t (thread_of g r t).wait
      → Moves (ReplyFits g r t reply) g (replied_state g r t reply) true new
  given None said is same new to = absurd (cc (is))
  given (Some other) said is same new to = record { may = λ h. same ∙ sym is; when = λ h. refl; moves = λ h. to; stays = λ h. absurd (cc (h)) }

  -- where the thread waits for no creation
  idle_now : (w : Wait) → created_by w ≡ None → idled g r t ≡ answered_state g r t w
  idle_now Idle h = refl
  idle_now (reg.Reply_now x) h = refl
  idle_now (reg.Sending m) h = refl
  idle_now (reg.Posting x) h = refl
  idle_now (reg.Requesting x) h = refl
  idle_now (Creating m) h = absurd (cc (h))
  idle_now (Freeing p) h = refl
  idle_now (Ending s) h = refl
  idle_now (Receiving m) h = refl
  idle_now (Awaiting name) h = refl

  pub answered_else : created_by (thread_of g r t).wait ≡ None → idled g r t ≡ answered_state g r t (thread_of g r t).wait
  answered_else h = idle_now (thread_of g r t).wait h

  module _ (n : ℕ) where
    -- the registry once the creation is answered at the rank
    abbrev pub told : Registry
    told = record g { creations = set g.creations n (with_answer (creation_at g n) r) }

    pub told_callers : (creation_at told n).callers ≡ (creation_at g n).callers
    told_callers = kept_field (λ c. c.callers) g.creations n (with_answer (creation_at g n) r) blank_creation refl

    told_picks : (creation_at told n).picks ≡ (creation_at g n).picks
    told_picks = kept_field (λ c. c.picks) g.creations n (with_answer (creation_at g n) r) blank_creation refl

    pub told_called : has_called (creation_at g n) r ≡ true → has_called (creation_at told n) r ≡ true
    told_called h = ap (λ (ks : List Caller). list_any (λ k. k.rank == r) ks) told_callers ∙ h

    -- what the rank's target is bound to
    abbrev pub bound_at : Registry → RankPart
    bound_at h = with_local (part_of h r) (bind_outcome (part_of h r).local (caller_of (creation_at h n).callers r) (outcome_for (creation_at h n) r))

    told_bound : bound_at told ≡ bound_at g
    told_bound = rw (told_callers, told_picks) refl

    -- the creation is answered, then the target bound, then the thread waits for nothing
    bound_and_idle : (h : Registry) → h ≡ record told { ranks = set g.ranks r (bound_at told) } → idled h r t ≡ answered_state g r t (Creating n)
    bound_and_idle h is =
        ap (λ (x : Registry). idled x r t) (is ∙ ap (λ (p : RankPart). record told { ranks = set g.ranks r p }) told_bound)
        ∙ ap (λ (ps : List RankPart). record told { ranks = ps }) (set_again (λ p. with_wait p t Idle) g.ranks r (bound_at g) blank_part)

    pub answered_creation : (cs : List Creation) → cs ≡ set g.creations n (with_answer (creation_at g n) r)
        → (h : Registry) → h ≡ record g { creations = cs; ranks = set g.ranks r (bound_at (record g { creations = cs })) } → idled h r t ≡ answered_state g r t (Creating n)
    answered_creation cs all h is = bound_and_idle h (subst (λ (ks : List Creation). h ≡ record g { creations = ks; ranks = set g.ranks r (bound_at (record g { creations = ks })) }) all is)
