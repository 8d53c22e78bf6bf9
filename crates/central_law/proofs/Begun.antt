-- A call as its events go: the call, then its message or its receive.
use Rattle.std.proofs.Common.{◌≡◌, ℕ, ◌+◌, ◌<◌, List, [], ◌∷◌, ◌++◌, length, get_or, set, Option, Some, None, refl, sym, ap, ◌∙◌, subst}
use Rattle.mpi_base.specs.declared.replies.Reply.{Reply}
use Rattle.mpi_base.specs.declared.replies.Reply.TheVariants as reply
use Rattle.mpi_law.specs.declared.setting.Setting.{Setting}
use Rattle.mpi_law.specs.declared.setting.TheConstants.{THREADS}
use Rattle.mpi_law.specs.declared.effects.Effect.{Effect}
use Rattle.mpi_law.specs.declared.effects.Effect.TheVariants as effect
use Rattle.mpi_law.specs.Local.Effects.{local_after, said_at_once}
use Rattle.mpi_law.specs.Registry.State as reg
use Rattle.mpi_law.specs.Registry.State.{Registry, RankPart, ThreadPart, Message, Receive, Wait, blank_part, idle_thread, part_of, thread_of, with_wait}
use Rattle.mpi_law.specs.Registry.Creations.{name_of, place_where, is_joinable}
use Rattle.mpi_law.specs.Registry.Calls.{message_of_call, receive_of_call, after_effect, to_send, to_post, once_sent}
use Rattle.mpi_law.specs.Registry.Events.{Sends, Posts, registry_next, after_send, after_post}
use Rattle.mpi_law.specs.Registry.Runs.{IsRegistryRun, registry_after}
use Rattle.central_law.specs.Rest.{AtRest}
use Rattle.central_law.specs.Within.{within, sent_within, posted_within, with_last}
use Rattle.central_law.specs.After.{wait_after, comms_after, creations_after, sends_after, posts_after, part_waiting}
use Rattle.central_law.proofs.Threads.{thread_there, waits_on}

-- what the thread waits for when it has called
abbrev pub wait_within : Registry → ℕ → Effect ℕ → Wait
wait_within g r (effect.Says said) = reg.Reply_now said
wait_within g r (effect.Opens target) = reg.Reply_now reply.Fine
wait_within g r (effect.Groups target members session) = reg.Reply_now (reply.Group members)
wait_within g r (effect.Ungroups name) = reg.Reply_now reply.Fine
wait_within g r (effect.Joins a) = reg.Creating (place_where (is_joinable (name_of g.creations r a.origin)) g.creations)
wait_within g r (effect.Frees name p) = reg.Freeing p
wait_within g r (effect.Ends name session) = reg.Ending session
wait_within g r (effect.Sends m) = reg.Sending (message_of_call g r m)
wait_within g r (effect.Receives x) = reg.Posting (receive_of_call g r x)
wait_within g r (effect.Posts target x) = reg.Requesting (receive_of_call g r x)
wait_within g r (effect.NullPosts target) = reg.Reply_now reply.Fine
wait_within g r (effect.Completes name number) = reg.Receiving number
wait_within g r (effect.Awaits name) = reg.Awaiting name

-- the reply, where there is one
abbrev pub reply_or : Option Reply → Wait → Wait
reply_or None wait = wait
reply_or (Some said) wait = reg.Reply_now said

abbrev pub row_with : Registry → ℕ → ℕ → Wait → ThreadPart
row_with g r t wait = record { calls = (thread_of g r t).calls + 1; wait = wait }

-- the registry after the call itself, and once its message is sent or its receive is posted
abbrev pub begun : Registry → ℕ → ℕ → Effect ℕ → Registry
begun g r t e =
    record {
      comms = comms_after g r e;
      creations = creations_after g r t e;
      receives = g.receives;
      messages = g.messages;
      ranks = set g.ranks r (part_waiting g r t e (wait_within g r e));
    }

abbrev pub posted : Registry → ℕ → ℕ → Effect ℕ → Wait → Registry
posted g r t e wait =
    record {
      comms = comms_after g r e;
      creations = creations_after g r t e;
      receives = with_last g.receives (posted_within g r e);
      messages = with_last g.messages (sent_within g r e);
      ranks = set g.ranks r (part_waiting g r t e wait);
    }

pub called_is : (g : Registry) (r t : ℕ) (e : Effect ℕ) → after_effect g r t e ≡ begun g r t e
called_is g r t (effect.Says said) = refl
called_is g r t (effect.Opens target) = refl
called_is g r t (effect.Groups target members session) = refl
called_is g r t (effect.Ungroups name) = refl
called_is g r t (effect.Joins a) = refl
called_is g r t (effect.Frees name p) = refl
called_is g r t (effect.Ends name session) = refl
called_is g r t (effect.Sends m) = refl
called_is g r t (effect.Receives x) = refl
called_is g r t (effect.Posts target x) = refl
called_is g r t (effect.NullPosts target) = refl
called_is g r t (effect.Completes name number) = refl
called_is g r t (effect.Awaits name) = refl

module _ (s : Setting) (g : Registry) (r t : ℕ) (rest : AtRest s g) (rank : r < s.ranks) (thread : t < THREADS) where
  here : r < length g.ranks
  here = subst (λ (n : ℕ). r < n) (sym rest.ranks) rank

  there : t < length (part_of g r).threads
  there = subst (λ (n : ℕ). t < n) (sym (rest.threads r)) thread

  -- the thread waits for this, and then for something else
  pub thread_is : (e : Effect ℕ) (wait : Wait) → get_or (get_or (set g.ranks r (part_waiting g r t e wait)) r blank_part).threads t idle_thread ≡ row_with g r t wait
  thread_is e wait =
      thread_there g.ranks r here (local_after (part_of g r).receives (part_of g r).local e) (part_of g r).threads t there (sends_after (part_of g r).sends e) (posts_after (part_of g r).receives e) (row_with g r t wait)

  pub goes_on : (e : Effect ℕ) (old new : Wait) → set (set g.ranks r (part_waiting g r t e old)) r (with_wait (get_or (set g.ranks r (part_waiting g r t e old)) r blank_part) t new) ≡ set g.ranks r (part_waiting g r t e new)
  goes_on e old new =
      waits_on g.ranks r here (local_after (part_of g r).receives (part_of g r).local e) (part_of g r).threads t there (sends_after (part_of g r).sends e) (posts_after (part_of g r).receives e) (row_with g r t old) new

  module _ (e : Effect ℕ) where
    abbrev pub first : Registry
    first = begun g r t e

    abbrev pub calling : Wait
    calling = wait_within g r e

    pub sent_is : (m : Message) → to_send (wait_within g r e) ≡ Some m → registry_next s (begun g r t e) (Sends r t) ≡ record (begun g r t e) { messages = g.messages ++ m ∷ []; ranks = set g.ranks r (part_waiting g r t e (once_sent (wait_within g r e))) }
    unfolding registry_next
    sent_is m due =
        ap (λ (x : ThreadPart). after_send first r t (to_send x.wait)) (thread_is e calling)
        ∙ ap (λ (o : Option Message). after_send first r t o) due
        ∙ ap (λ (x : ThreadPart). record first { messages = g.messages ++ m ∷ []; ranks = set first.ranks r (with_wait (part_of first r) t (once_sent x.wait)) }) (thread_is e calling)
        ∙ ap (λ (ranks : List RankPart). record first { messages = g.messages ++ m ∷ []; ranks = ranks }) (goes_on e calling (once_sent calling))

    pub posted_as : (x : Receive) → to_post (wait_within g r e) ≡ Some x → registry_next s (begun g r t e) (Posts r t) ≡ record (begun g r t e) { receives = g.receives ++ x ∷ []; ranks = set g.ranks r (part_waiting g r t e (once_sent (wait_within g r e))) }
    unfolding registry_next
    posted_as x due =
        ap (λ (y : ThreadPart). after_post first r t (to_post y.wait)) (thread_is e calling)
        ∙ ap (λ (o : Option Receive). after_post first r t o) due
        ∙ ap (λ (y : ThreadPart). record first { receives = g.receives ++ x ∷ []; ranks = set first.ranks r (with_wait (part_of first r) t (once_sent y.wait)) }) (thread_is e calling)
        ∙ ap (λ (ranks : List RankPart). record first { receives = g.receives ++ x ∷ []; ranks = ranks }) (goes_on e calling (once_sent calling))

  -- what is sent or posted within the call may be, and leaves this
  pub within_runs : (e : Effect ℕ) → IsRegistryRun s (begun g r t e) (within r t e)
  within_runs (effect.Says said) = tt
  within_runs (effect.Opens target) = tt
  within_runs (effect.Groups target members session) = tt
  within_runs (effect.Ungroups name) = tt
  within_runs (effect.Joins a) = tt
  within_runs (effect.Frees name p) = tt
  within_runs (effect.Ends name session) = tt
  within_runs (effect.Sends m) = (record { message = message_of_call g r m; due = ap (λ (x : ThreadPart). to_send x.wait) (thread_is (effect.Sends m) _) }, tt)
  within_runs (effect.Receives x) = (record { receive = receive_of_call g r x; due = ap (λ (y : ThreadPart). to_post y.wait) (thread_is (effect.Receives x) _) }, tt)
  within_runs (effect.Posts target x) = (record { receive = receive_of_call g r x; due = ap (λ (y : ThreadPart). to_post y.wait) (thread_is (effect.Posts target x) _) }, tt)
  within_runs (effect.NullPosts target) = tt
  within_runs (effect.Completes name number) = tt
  within_runs (effect.Awaits name) = tt

  pub within_leads : (e : Effect ℕ) → registry_after s (begun g r t e) (within r t e) ≡ posted g r t e (reply_or (said_at_once e) (wait_after g r e))
  within_leads (effect.Says said) = refl
  within_leads (effect.Opens target) = refl
  within_leads (effect.Groups target members session) = refl
  within_leads (effect.Ungroups name) = refl
  within_leads (effect.Joins a) = refl
  within_leads (effect.Frees name p) = refl
  within_leads (effect.Ends name session) = refl
  within_leads (effect.Sends m) = sent_is (effect.Sends m) (message_of_call g r m) refl
  within_leads (effect.Receives x) = posted_as (effect.Receives x) (receive_of_call g r x) refl
  within_leads (effect.Posts target x) = posted_as (effect.Posts target x) (receive_of_call g r x) refl
  within_leads (effect.NullPosts target) = refl
  within_leads (effect.Completes name number) = refl
  within_leads (effect.Awaits name) = refl

-- where a reply comes at once, the thread waits for nothing then
pub said_leaves_idle : (g : Registry) (r : ℕ) (e : Effect ℕ) (x : Reply) → said_at_once e ≡ Some x → wait_after g r e ≡ reg.Idle
said_leaves_idle g r (effect.Says said) x h = refl
said_leaves_idle g r (effect.Opens target) x h = refl
said_leaves_idle g r (effect.Groups target members session) x h = refl
said_leaves_idle g r (effect.Ungroups name) x h = refl
said_leaves_idle g r (effect.Joins a) x h = absurd (cc (h))
said_leaves_idle g r (effect.Frees name p) x h = absurd (cc (h))
said_leaves_idle g r (effect.Ends name session) x h = absurd (cc (h))
said_leaves_idle g r (effect.Sends m) x h = refl
said_leaves_idle g r (effect.Receives y) x h = absurd (cc (h))
said_leaves_idle g r (effect.Posts target y) x h = refl
said_leaves_idle g r (effect.NullPosts target) x h = refl
said_leaves_idle g r (effect.Completes name number) x h = absurd (cc (h))
said_leaves_idle g r (effect.Awaits name) x h = absurd (cc (h))
