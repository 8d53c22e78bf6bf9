-- What calls that neither send nor post, and replies, do in the registry: it goes on without news of messages and receives.
use Rattle.std.proofs.Common.{◌≡◌, ◌<◌, ◌==◌, ℕ, zero, suc, Bool, true, false, List, [], ◌∷◌, length, get_or, set, Option, Some, None, refl, ◌∙◌, arith, if◌then◌else◌}
use Rattle.std.proofs.lemmas.Bool.Decides.{nat_tests}
use Rattle.mpi_base.specs.declared.replies.Reply.{Reply}
use Rattle.mpi_base.specs.declared.replies.Reply.TheVariants as reply
use Rattle.mpi_law.specs.declared.setting.Setting.{Setting}
use Rattle.mpi_law.specs.declared.effects.Effect.{Effect}
use Rattle.mpi_law.specs.declared.effects.Effect.TheVariants.{Says, Opens, Groups, Ungroups, Joins, Frees, Ends, Sends, Receives, Posts, NullPosts, Completes, Awaits}
use Rattle.mpi_law.specs.Local.Objects.{Local}
use Rattle.mpi_law.specs.Local.Effects.{local_after}
use Rattle.mpi_law.specs.Registry.State as state
use Rattle.mpi_law.specs.Registry.State.{Registry, RankPart, Communicator, Creation, Wait, blank_part, blank_comm, comm_at, part_of, thread_of, with_call}
use Rattle.mpi_law.specs.Registry.Calls.{waits, carried_out, after_effect, with_freed, is_kept, freed_all}
use Rattle.mpi_law.specs.Registry.Replies.{answers as answers_in}
use Rattle.mpi_law.specs.Registry.Events.{registry_next}
use Rattle.mpi_law.specs.Registry.Runs.{registry_after}
use Rattle.mpi_protocol.specs.Run.{reply_events}
use Rattle.mpi_protocol.specs.World.{World}
use Rattle.agree_law.proofs.Lists.{length-set}
use Rattle.message_law.proofs.MarkerSteps.{Steady, same_comms}
use Rattle.message_law.proofs.Worlds.{Fits, steady_fits}
use Rattle.message_law.proofs.RegistryCalls.{count_set, idles_fits}

-- a communicator seen without who has freed it
abbrev SameButFreed : Communicator → Communicator → Type 0
SameButFreed a b = (b.ctx ≡ a.ctx) × (b.members ≡ a.members) × (b.returned ≡ a.returned)

set_same : (xs : List Communicator) (p r d : ℕ) → SameButFreed (get_or xs d blank_comm) (get_or (set xs p (with_freed r (get_or xs p blank_comm))) d blank_comm)
set_same [] p r d = (refl, refl, refl)
set_same (x ∷ xs) zero r zero = (refl, refl, refl)
set_same (x ∷ xs) zero r (suc d) = (refl, refl, refl)
set_same (x ∷ xs) (suc p) r zero = (refl, refl, refl)
set_same (x ∷ xs) (suc p) r (suc d) = set_same xs p r d

map_freed : (xs : List Communicator) (r s d : ℕ) → SameButFreed (get_or xs d blank_comm) (get_or (freed_all xs r s) d blank_comm)
map_freed [] r s d = (refl, refl, refl)
map_freed (x ∷ xs) r s (suc d) = map_freed xs r s d
map_freed (x ∷ xs) r s zero = by (is_kept r s x)
  where
    by : (b : Bool) → SameButFreed x (if b then with_freed r x else x)
    by true = (refl, refl, refl)
    by false = (refl, refl, refl)

length-freed : (xs : List Communicator) (r s : ℕ) → length (freed_all xs r s) ≡ length xs
length-freed [] r s = refl
length-freed (x ∷ xs) r s = let ih = length-freed xs r s in omega (arith, ih)

-- the registry goes on without news of messages and receives
pub record GoesQuietly (n : ℕ) (g new : Registry) : Type 0 where
  pub steady : Steady g new
  pub messages : new.messages ≡ g.messages
  pub receives : new.receives ≡ g.receives
  pub ranks : length new.ranks ≡ length g.ranks
  pub counts : (q : ℕ) → q < n → ((part_of new q).sends ≡ (part_of g q).sends) × ((part_of new q).receives ≡ (part_of g q).receives)

pub quietly_fits : (w : World) (g new : Registry) → GoesQuietly (length w.ranks) g new → Fits w g → Fits w new
quietly_fits w g new q h = steady_fits w g new q.steady q.messages q.receives q.counts h

part_same : (g : Registry) (f : RankPart → ℕ) (r q : ℕ) (p : RankPart) → r < length g.ranks → f p ≡ f (part_of g r) → f (get_or (set g.ranks r p) q blank_part) ≡ f (part_of g q)
part_same g f r q p lr e = count_set f g.ranks r p q lr ∙ by (q == r) refl
  where
    by : (b : Bool) → (q == r) ≡ b → (if b then f p else f (part_of g q)) ≡ f (part_of g q)
    by true k = let z : q ≡ r = grind (arith, nat_tests, k) in rw z e
    by false k = refl

-- the part of a rank changes, but for its counts, and so do creations, and communicators as far as they are freed
part_quietly : (n : ℕ) (g : Registry) (r : ℕ) (p : RankPart) (comms : List Communicator) (creations : List Creation) → r < length g.ranks → p.sends ≡ (part_of g r).sends → p.receives ≡ (part_of g r).receives
    → length comms ≡ length g.comms → ((d : ℕ) → SameButFreed (comm_at g d) (get_or comms d blank_comm)) → GoesQuietly n g (record g { comms = comms; creations = creations; ranks = set g.ranks r p })
part_quietly n g r p comms creations lr sends receives size same = record {
  steady = record { size = size; ctx = λ d. (same d).0; members = λ d. (same d).1; returned = λ d. (same d).2 };
  messages = refl;
  receives = refl;
  ranks = length-set g.ranks r p;
  counts = λ a la. (part_same g (λ z. z.sends) r a p lr sends, part_same g (λ z. z.receives) r a p lr receives);
}

-- Calls

-- those that neither send nor post
abbrev pub IsQuietEffect : Effect ℕ → Type 0
IsQuietEffect (Says said) = Unit {0}
IsQuietEffect (Opens target) = Unit {0}
IsQuietEffect (Groups target members session) = Unit {0}
IsQuietEffect (Ungroups name) = Unit {0}
IsQuietEffect (Joins a) = Unit {0}
IsQuietEffect (Frees name p) = Unit {0}
IsQuietEffect (Ends name s) = Unit {0}
IsQuietEffect (Sends m) = ⊥
IsQuietEffect (Receives x) = ⊥
IsQuietEffect (Posts target x) = ⊥
IsQuietEffect (NullPosts target) = Unit {0}
IsQuietEffect (Completes name k) = Unit {0}
IsQuietEffect (Awaits name) = Unit {0}

-- the call of a thread is noted
waits_quietly : (n : ℕ) (g : Registry) (r t : ℕ) (l : Local) (wait : Wait) → r < length g.ranks → GoesQuietly n g (waits g r t l wait)
waits_quietly n g r t l wait lr = part_quietly n g r (with_call (part_of g r) t l wait) g.comms g.creations lr refl refl refl (λ d. (refl, refl, refl))

carried_out_quietly : (n : ℕ) (g : Registry) (r t : ℕ) (l : Local) (e : Effect ℕ) → r < length g.ranks → IsQuietEffect e → GoesQuietly n g (carried_out g r t l e)
carried_out_quietly n g r t l (Says said) lr q = waits_quietly n g r t l (state.Reply_now said) lr
carried_out_quietly n g r t l (Opens target) lr q = waits_quietly n g r t l (state.Reply_now reply.Fine) lr
carried_out_quietly n g r t l (Groups target members session) lr q = waits_quietly n g r t l (state.Reply_now (reply.Group members)) lr
carried_out_quietly n g r t l (Ungroups name) lr q = waits_quietly n g r t l (state.Reply_now reply.Fine) lr
carried_out_quietly n g r t l (Joins a) lr q = part_quietly n g r _ g.comms _ lr refl refl refl (λ d. (refl, refl, refl))
carried_out_quietly n g r t l (Frees name p) lr q = part_quietly n g r (with_call (part_of g r) t l (state.Freeing p)) (set g.comms p (with_freed r (comm_at g p))) g.creations lr refl refl (length-set g.comms p (with_freed r (comm_at g p))) (set_same g.comms p r)
carried_out_quietly n g r t l (Ends name s) lr q = part_quietly n g r (with_call (part_of g r) t l (state.Ending s)) (freed_all g.comms r s) g.creations lr refl refl (length-freed g.comms r s) (map_freed g.comms r s)
carried_out_quietly n g r t l (Sends m) lr q = absurd q
carried_out_quietly n g r t l (Receives x) lr q = absurd q
carried_out_quietly n g r t l (Posts target x) lr q = absurd q
carried_out_quietly n g r t l (NullPosts target) lr q = waits_quietly n g r t l (state.Reply_now reply.Fine) lr
carried_out_quietly n g r t l (Completes name k) lr q = waits_quietly n g r t l (state.Receiving k) lr
carried_out_quietly n g r t l (Awaits name) lr q = waits_quietly n g r t l (state.Awaiting name) lr

pub calls_go_quietly : (n : ℕ) (g : Registry) (r t : ℕ) (e : Effect ℕ) → r < length g.ranks → IsQuietEffect e → GoesQuietly n g (after_effect g r t e)
calls_go_quietly n g r t e lr q = carried_out_quietly n g r t (local_after (part_of g r).receives (part_of g r).local e) e lr q

-- Replies

same : (n : ℕ) (g : Registry) → GoesQuietly n g g
same n g = record { steady = same_comms _ _ refl; messages = refl; receives = refl; ranks = refl; counts = λ a la. (refl, refl) }

answers_go_quietly : (n : ℕ) (g : Registry) (r : ℕ) (wait : Wait) → r < length g.ranks → GoesQuietly n g (answers_in g r wait)
answers_go_quietly n g r (state.Creating k) lr = part_quietly n g r _ g.comms _ lr refl refl refl (λ d. (refl, refl, refl))
answers_go_quietly n g r state.Idle lr = same n g
answers_go_quietly n g r (state.Reply_now x) lr = same n g
answers_go_quietly n g r (state.Sending m) lr = same n g
answers_go_quietly n g r (state.Posting x) lr = same n g
answers_go_quietly n g r (state.Requesting x) lr = same n g
answers_go_quietly n g r (state.Freeing p) lr = same n g
answers_go_quietly n g r (state.Ending s) lr = same n g
answers_go_quietly n g r (state.Receiving k) lr = same n g
answers_go_quietly n g r (state.Awaiting name) lr = same n g

-- the reply of an entry, if it has one
pub replies_fit : (s : Setting) (w : World) (g : Registry) (r t : ℕ) (o : Option Reply) → r < length g.ranks → Fits w g → Fits w (registry_after s g (reply_events r t o))
unfolding registry_next
replies_fit s w g r t None lr h = h
replies_fit s w g r t (Some said) lr h =
    let q = answers_go_quietly (length w.ranks) g r (thread_of g r t).wait lr in
    idles_fits w (answers_in g r (thread_of g r t).wait) r t (rw q.ranks lr) (quietly_fits w g (answers_in g r (thread_of g r t).wait) q h)
