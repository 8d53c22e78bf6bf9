-- What the events of a call that sends or posts do in the registry.
use Rattle.std.proofs.Common.{◌≡◌, ◌≢◌, ◌⊎◌, ◌<◌, ◌≤◌, ◌+◌, ◌==◌, ℕ, Bool, true, false, List, [], ◌∷◌, ◌++◌, length, get_or, set, Option, Some, None, refl, sym, ap, ◌∙◌, subst, inl, inr, arith, append_assoc, if◌then◌else◌}
use Rattle.std.proofs.lemmas.Bool.Decides.{nat_tests}
use Rattle.mpi_base.specs.declared.ops.Op.{Op}
use Rattle.mpi_base.specs.declared.messages.Matched.{Matched}
use Rattle.mpi_base.specs.declared.replies.Reply.{Reply}
use Rattle.mpi_base.specs.declared.replies.Reply.TheVariants as reply
use Rattle.mpi_law.specs.declared.setting.Setting.{Setting}
use Rattle.mpi_law.specs.declared.effects.Sending.{Sending}
use Rattle.mpi_law.specs.declared.effects.Effect.TheVariants as effect
use Rattle.mpi_law.specs.Registry.State as state
use Rattle.mpi_law.specs.Registry.State.{Registry, RankPart, ThreadPart, Reply_now, blank_part, idle_thread, part_of, thread_of, with_part, with_call, with_wait}
use Rattle.mpi_law.specs.Registry.Calls.{effect_at, message_of_call, with_send}
use Rattle.mpi_law.specs.Registry.Replies.{owed, idles}
use Rattle.mpi_law.specs.Registry.Events.{Event, Calls, Sends, Replies, registry_next}
use Rattle.mpi_law.specs.Registry.Runs.{Allowed, IsRegistryRun, registry_after}
use Rattle.mpi_protocol.specs.Run.{match_events}
use Rattle.mpi_protocol.specs.World.{World}
use Rattle.agree_law.proofs.Lists.{set_place, length-set}
use Rattle.message_law.proofs.MarkerSteps.{same_comms}
use Rattle.message_law.proofs.Worlds.{Fits, steady_fits}
use Rattle.message_law.proofs.Sends.{with_message, IsOneMore}
use Rattle.message_law.proofs.CallSteps.{IsAsBefore}
use Rattle.message_law.proofs.Deliveries.{GoesOn}

-- a part that is set, and those of the other ranks
pub set_there : {A : Type 0} (xs : List A) (i : ℕ) (y d : A) → i < length xs → get_or (set xs i y) i d ≡ y
set_there xs i y d l = go (set_place xs i y d i)
  where
    go : ((i ≡ i) × (i < length xs) × (get_or (set xs i y) i d ≡ y)) ⊎ (((i ≢ i) ⊎ (length xs ≤ i)) × (get_or (set xs i y) i d ≡ get_or xs i d)) → get_or (set xs i y) i d ≡ y
    go (inl a) = a.2
    go (inr a) = absurd (let e = a.0 in grind (arith, e, l))

pub count_set : (f : RankPart → ℕ) (xs : List RankPart) (r : ℕ) (p : RankPart) (a : ℕ) → r < length xs → f (get_or (set xs r p) a blank_part) ≡ (if a == r then f p else f (get_or xs a blank_part))
count_set f xs r p a l = go (set_place xs r p blank_part a)
  where
    go : ((a ≡ r) × (r < length xs) × (get_or (set xs r p) a blank_part ≡ p)) ⊎ (((a ≢ r) ⊎ (length xs ≤ r)) × (get_or (set xs r p) a blank_part ≡ get_or xs a blank_part)) → f (get_or (set xs r p) a blank_part) ≡ (if a == r then f p else f (get_or xs a blank_part))
    go (inl x) = let e : (a == r) ≡ true = let z = x.0 in grind (arith, nat_tests, z) in rw (e, x.2) refl
    go (inr x) = by x.0
      where
        by : (a ≢ r) ⊎ (length xs ≤ r) → f (get_or (set xs r p) a blank_part) ≡ (if a == r then f p else f (get_or xs a blank_part))
        by (inl ne) = let e : (a == r) ≡ false = grind (arith, nat_tests, ne) in rw (e, x.1) refl
        by (inr le) = absurd (omega (arith, le, l))

-- set twice at a rank
pub count_twice : (f : RankPart → ℕ) (g : Registry) (r : ℕ) (p q : RankPart) (a : ℕ) → r < length g.ranks → f (get_or (set (set g.ranks r p) r q) a blank_part) ≡ (if a == r then f q else f (part_of g a))
count_twice f g r p q a l =
    count_set f (set g.ranks r p) r q a (let e = length-set g.ranks r p in rw e l)
    ∙ by (a == r) refl
  where
    by : (b : Bool) → (a == r) ≡ b → (if b then f q else f (get_or (set g.ranks r p) a blank_part)) ≡ (if b then f q else f (part_of g a))
    by true e = refl
    by false e = count_set f g.ranks r p a l ∙ rw e refl

-- a rank's part within its call, and after its message is sent
abbrev pub part1 : Registry → ℕ → ℕ → Sending ℕ → RankPart
part1 g r t m = with_send (with_call (part_of g r) t (part_of g r).local (state.Sending (message_of_call g r m)))

abbrev pub sent_parts : Registry → ℕ → ℕ → Sending ℕ → List RankPart
sent_parts g r t m = set (set g.ranks r (part1 g r t m)) r (with_wait (part1 g r t m) t (Reply_now reply.Fine))

module _ (s : Setting) (g : Registry) (r t : ℕ) (op : Op) (now : Bool) (lr : r < length g.ranks) (lt : t < length (part_of g r).threads) where
  -- A call that sends

  module _ (m : Sending ℕ) (is : effect_at s g r op ≡ effect.Sends m) where
    called_is : registry_next s g (Calls r t op now) ≡ with_part g r (part1 g r t m)
    unfolding registry_next
    called_is = rw is refl

    wait_here : (get_or (part1 g r t m).threads t idle_thread).wait ≡ state.Sending (message_of_call g r m)
    wait_here = ap (λ (z : ThreadPart). z.wait) (set_there (part_of g r).threads t (record { calls = (get_or (part_of g r).threads t idle_thread).calls + 1; wait = state.Sending (message_of_call g r m) }) idle_thread lt)

    wait_is : (thread_of (with_part g r (part1 g r t m)) r t).wait ≡ state.Sending (message_of_call g r m)
    wait_is =
        let e = set_there g.ranks r (part1 g r t m) blank_part lr in
        ap (λ (p : RankPart). (get_or p.threads t idle_thread).wait) e ∙ wait_here

    pub may_send : Allowed s (registry_next s g (Calls r t op now)) (Sends r t)
    may_send = rw called_is (record { message = message_of_call g r m; due = rw wait_is refl })

    sent_next : registry_next s (with_part g r (part1 g r t m)) (Sends r t) ≡ with_message g (message_of_call g r m) (sent_parts g r t m)
    unfolding registry_next
    sent_next = let e = set_there g.ranks r (part1 g r t m) blank_part lr in rw (wait_is, e, wait_here) refl

    pub send_is : registry_next s (registry_next s g (Calls r t op now)) (Sends r t) ≡ with_message g (message_of_call g r m) (sent_parts g r t m)
    send_is = rw called_is sent_next

    pub one_send_more : IsOneMore (λ z. z.sends) g (sent_parts g r t m) r
    one_send_more a = count_twice (λ z. z.sends) g r (part1 g r t m) (with_wait (part1 g r t m) t (Reply_now reply.Fine)) a lr

    pub receives_as_before : (n : ℕ) → IsAsBefore (λ z. z.receives) n g (sent_parts g r t m)
    receives_as_before n a la = count_twice (λ z. z.receives) g r (part1 g r t m) (with_wait (part1 g r t m) t (Reply_now reply.Fine)) a lr ∙ by (a == r) refl
      where
        by : (b : Bool) → (a == r) ≡ b → (if b then (part_of g r).receives else (part_of g a).receives) ≡ (part_of g a).receives
        by true e = let z : a ≡ r = grind (arith, nat_tests, e) in rw z refl
        by false e = refl

-- The reply in the call's own entry

match_ranks : (s : Setting) (g : Registry) (r : ℕ) (o : Option Matched) → (registry_after s g (match_events r o)).ranks ≡ g.ranks
unfolding registry_next
match_ranks s g r None = refl
match_ranks s g r (Some m) = refl

pub registry_after-append : (s : Setting) (g : Registry) (xs ys : List Event) → registry_after s g (xs ++ ys) ≡ registry_after s (registry_after s g xs) ys
registry_after-append s g [] ys = refl
registry_after-append s g (x ∷ xs) ys = registry_after-append s (registry_next s g x) xs ys

-- the thread waits for nothing more
pub idles_fits : (w : World) (g : Registry) (r t : ℕ) → r < length g.ranks → Fits w g → Fits w (idles g r t)
idles_fits w g r t lr h = steady_fits w g (idles g r t) (same_comms _ _ refl) refl refl (λ q lq. (same (λ z. z.sends) q refl, same (λ z. z.receives) q refl)) h
  where
    same : (f : RankPart → ℕ) (q : ℕ) → f (with_wait (part_of g r) t state.Idle) ≡ f (part_of g r) → f (part_of (idles g r t) q) ≡ f (part_of g q)
    same f q e = count_set f g.ranks r (with_wait (part_of g r) t state.Idle) q lr ∙ by (q == r) refl
      where
        by : (b : Bool) → (q == r) ≡ b → (if b then f (with_wait (part_of g r) t state.Idle) else f (part_of g q)) ≡ f (part_of g q)
        by true k = let z : q ≡ r = grind (arith, nat_tests, k) in rw z e
        by false k = refl

reply_fits : (s : Setting) (w : World) (g : Registry) (r t : ℕ) (said : Reply) → r < length g.ranks → (thread_of g r t).wait ≡ Reply_now said → Fits w g → Fits w (registry_next s g (Replies r t said))
unfolding registry_next
reply_fits s w g r t said lr wait h = rw wait (idles_fits w g r t lr h)

-- from a registry whose thread has its reply there: after the match, if there is one, the reply
pub replied : (s : Setting) (g : Registry) (r t : ℕ) (said : Reply) (o : Option Matched) (w : World) → r < length g.ranks → (thread_of g r t).wait ≡ Reply_now said → GoesOn s g (match_events r o) w → GoesOn s g (match_events r o ++ Replies r t said ∷ []) w
replied s g r t said o w lr wait h = record {
  allowed = λ rest run. subst (λ (es : List Event). IsRegistryRun s g es) (sym (append_assoc (match_events r o) (Replies r t said ∷ []) rest)) (h.allowed (Replies r t said ∷ rest) (owes, rw (registry_after-append s g (match_events r o) (Replies r t said ∷ [])) at run));
  fits = rw (registry_after-append s g (match_events r o) (Replies r t said ∷ [])) last;
}
  where
    wait_then : (thread_of (registry_after s g (match_events r o)) r t).wait ≡ Reply_now said
    wait_then = let e = match_ranks s g r o in ap (λ (ps : List RankPart). (get_or (get_or ps r blank_part).threads t idle_thread).wait) e ∙ wait

    owes : owed (registry_after s g (match_events r o)) r t ≡ Some said
    owes = rw wait_then refl

    last : Fits w (registry_next s (registry_after s g (match_events r o)) (Replies r t said))
    last = reply_fits s w (registry_after s g (match_events r o)) r t said (let e = match_ranks s g r o in rw e lr) wait_then h.fits
