-- Communicators from one event to the next: they grow, and none that was there is more live; so those that are live at one rank
-- have different contexts.
use Rattle.std.proofs.Common.{◌≡◌, ◌≢◌, ◌⊎◌, ℕ, ◌<◌, ◌≤◌, ◌==◌, ◌&&◌, if◌then◌else◌, nat_lt, Bool, true, false, List, [], ◌∷◌, ◌++◌, length, get_or, set, refl, sym, ap, ◌∙◌, inl, inr, arith, length-set}
use Rattle.std.proofs.lemmas.Bool.Decides.{nat_tests}
use Rattle.std.specs.List.{list_any}
use Rattle.mpi_law.specs.Registry.State.{Communicator, blank_comm}
use Rattle.mpi_law.specs.Registry.Contexts.{is_live_at, in_use}
use Rattle.mpi_law.specs.Registry.Calls.{is_kept, with_freed, freed_all}
use Rattle.answer_law.proofs.Lists.{set_place, at_map, at_front, at_last, length-snoc, length-map, none_at, none_of_members}

abbrev pub at : List Communicator → ℕ → Communicator
at comms p = get_or comms p blank_comm

-- those that were there keep their context and members
pub record Grows (old new : List Communicator) : Type 0 where
  pub longer : length old ≤ length new
  pub ctx : (p : ℕ) → p < length old → (at new p).ctx ≡ (at old p).ctx
  pub members : (p : ℕ) → p < length old → (at new p).members ≡ (at old p).members

-- none is new, and none is more live
pub record Keeps (old new : List Communicator) : Type 0 where
  pub count : length new ≡ length old
  pub ctx : (p : ℕ) → (at new p).ctx ≡ (at old p).ctx
  pub members : (p : ℕ) → (at new p).members ≡ (at old p).members
  pub live : (p r : ℕ) → is_live_at (at new p) r ≡ true → is_live_at (at old p) r ≡ true

pub grows_same : (comms : List Communicator) → Grows comms comms
grows_same comms = record { longer = omega arith; ctx = λ p lt. refl; members = λ p lt. refl }

pub grows_on : (a b c : List Communicator) → Grows a b → Grows b c → Grows a c
grows_on a b c g h =
    let l = g.longer in
    let k = h.longer in
    record {
      longer = omega (arith, l, k);
      ctx = λ p lt. h.ctx p (omega (arith, l, lt)) ∙ g.ctx p lt;
      members = λ p lt. h.members p (omega (arith, l, lt)) ∙ g.members p lt;
    }

pub keeps_grow : (old new : List Communicator) → Keeps old new → Grows old new
keeps_grow old new k = let c = k.count in record { longer = omega (arith, c); ctx = λ p lt. k.ctx p; members = λ p lt. k.members p }

pub keeps_same : (comms : List Communicator) → Keeps comms comms
keeps_same comms = record { count = refl; ctx = λ p. refl; members = λ p. refl; live = λ p r e. e }

abbrev Place : List Communicator → ℕ → Communicator → ℕ → Type 0
Place comms p c q = ((q ≡ p) × (p < length comms) × (at (set comms p c) q ≡ c)) ⊎ (((q ≢ p) ⊎ (length comms ≤ p)) × (at (set comms p c) q ≡ at comms q))

-- one changes, and is no more live
pub keeps_set : (comms : List Communicator) (p : ℕ) (c : Communicator) → c.ctx ≡ (at comms p).ctx → c.members ≡ (at comms p).members → ((r : ℕ) → is_live_at c r ≡ true → is_live_at (at comms p) r ≡ true) → Keeps comms (set comms p c)
keeps_set comms p c e f l = record {
  count = length-set comms p c;
  ctx = λ q. ctx q (set_place comms p c blank_comm q);
  members = λ q. members q (set_place comms p c blank_comm q);
  live = λ q r. live q r (set_place comms p c blank_comm q);
}
  where
    ctx : (q : ℕ) → Place comms p c q → (at (set comms p c) q).ctx ≡ (at comms q).ctx
    ctx q (inl a) = rw (a.2, a.0) e
    ctx q (inr a) = rw a.1 refl

    members : (q : ℕ) → Place comms p c q → (at (set comms p c) q).members ≡ (at comms q).members
    members q (inl a) = rw (a.2, a.0) f
    members q (inr a) = rw a.1 refl

    live : (q r : ℕ) → Place comms p c q → is_live_at (at (set comms p c) q) r ≡ true → is_live_at (at comms q) r ≡ true
    live q r (inl a) = rw (a.2, a.0) (l r)
    live q r (inr a) = rw a.1 (λ h. h)

abbrev free : ℕ → ℕ → Communicator → Communicator
free r s m = if is_kept r s m then with_freed r m else m

pub keeps_freed : (comms : List Communicator) (r s : ℕ) → Keeps comms (freed_all comms r s)
keeps_freed comms r s = record {
  count = length-map (free r s) comms;
  ctx = λ p. ap (λ (m : Communicator). m.ctx) (at_map (free r s) comms blank_comm p) ∙ ctx (at comms p);
  members = λ p. ap (λ (m : Communicator). m.members) (at_map (free r s) comms blank_comm p) ∙ members (at comms p);
  live = λ p q. rw (at_map (free r s) comms blank_comm p) (live (at comms p) q);
}
  where
    ctx : (m : Communicator) → (free r s m).ctx ≡ m.ctx
    ctx m = go (is_kept r s m)
      where
        go : (b : Bool) → (if b then with_freed r m else m).ctx ≡ m.ctx
        go true = refl
        go false = refl

    members : (m : Communicator) → (free r s m).members ≡ m.members
    members m = go (is_kept r s m)
      where
        go : (b : Bool) → (if b then with_freed r m else m).members ≡ m.members
        go true = refl
        go false = refl

    live : (m : Communicator) (q : ℕ) → is_live_at (free r s m) q ≡ true → is_live_at m q ≡ true
    live m q = go (is_kept r s m)
      where
        go : (b : Bool) → is_live_at (if b then with_freed r m else m) q ≡ true → is_live_at m q ≡ true
        go true h = h
        go false h = h

pub grows_more : (comms : List Communicator) (m : Communicator) → Grows comms (comms ++ m ∷ [])
grows_more comms m =
    let l = length-snoc comms m in
    record {
      longer = omega (arith, l);
      ctx = λ p lt. ap (λ (c : Communicator). c.ctx) (at_front comms m blank_comm p lt);
      members = λ p lt. ap (λ (c : Communicator). c.members) (at_front comms m blank_comm p lt);
    }

-- Contexts

abbrev pub Apart : List Communicator → Type 0
Apart comms = (p q r : ℕ) → p < length comms → q < length comms → is_live_at (at comms p) r ≡ true → is_live_at (at comms q) r ≡ true → (at comms p).ctx ≡ (at comms q).ctx → p ≡ q

pub apart_keeps : (old new : List Communicator) → Keeps old new → Apart old → Apart new
apart_keeps old new k h p q r lp lq a b e =
    let c = k.count in
    h p q r (omega (arith, c, lp)) (omega (arith, c, lq)) (k.live p r a) (k.live q r b) (sym (k.ctx p) ∙ e ∙ k.ctx q)

-- one more whose context is in use at none of its members
pub apart_more : (comms : List Communicator) (m : Communicator) → list_any (λ q. in_use comms q m.ctx) m.members ≡ false → Apart comms → Apart (comms ++ m ∷ [])
apart_more comms m unused h p q r lp lq a b e = go (nat_lt p (length comms)) refl (nat_lt q (length comms)) refl
  where
    front : (i : ℕ) → nat_lt i (length comms) ≡ true → at (comms ++ m ∷ []) i ≡ at comms i
    front i t = at_front comms m blank_comm i (grind (arith, nat_tests, t))

    last : (i : ℕ) → i < length (comms ++ m ∷ []) → nat_lt i (length comms) ≡ false → i ≡ length comms
    last i lt t = let l = length-snoc comms m in grind (arith, nat_tests, l, lt, t)

    -- one that was there, and the new one
    clash : (i : ℕ) → nat_lt i (length comms) ≡ true → is_live_at (at (comms ++ m ∷ []) i) r ≡ true → (at (comms ++ m ∷ []) i).ctx ≡ m.ctx → is_live_at m r ≡ true → ⊥
    clash i t live same new =
        let place = front i t in
        let old : is_live_at (at comms i) r ≡ true = rw place at live in
        let ctx : (at comms i).ctx ≡ m.ctx = rw place at same in
        let none = none_of_members (λ z. in_use comms z m.ctx) m.members r unused (grind (arith, new)) in
        let no = none_at (λ c. (c.ctx == m.ctx) && is_live_at c r) comms blank_comm i none (grind (arith, nat_tests, t)) in
        grind (arith, nat_tests, old, ctx, no)

    new_is : (i : ℕ) → i ≡ length comms → at (comms ++ m ∷ []) i ≡ m
    new_is i is = rw is (at_last comms m blank_comm)

    go : (x : Bool) → nat_lt p (length comms) ≡ x → (y : Bool) → nat_lt q (length comms) ≡ y → p ≡ q
    go true t true u = h p q r (grind (arith, nat_tests, t)) (grind (arith, nat_tests, u)) (rw (front p t) at a) (rw (front q u) at b) (rw (front p t, front q u) at e)
    go true t false u =
        let is = new_is q (last q lq u) in
        absurd (clash p t a (rw is at e) (rw is at b))
    go false t true u =
        let is = new_is p (last p lp t) in
        absurd (clash q u b (sym (rw is at e)) (rw is at a))
    go false t false u = last p lp t ∙ sym (last q lq u)
