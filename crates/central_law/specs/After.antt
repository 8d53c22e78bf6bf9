-- The registry after an entry, from the registry before it. Sections are those of MPI 4.0.
use Rattle.std.specs.Prelude.{ℕ, ◌+◌, List, set, Option, Some, None}
use Rattle.mpi_base.specs.declared.keys.Key.{Key}
use Rattle.mpi_base.specs.declared.messages.Matched.{Matched}
use Rattle.mpi_base.specs.declared.replies.Reply.{Reply}
use Rattle.mpi_base.specs.declared.entries.Said.{Said}
use Rattle.mpi_base.specs.declared.entries.Said.TheVariants as said
use Rattle.mpi_law.specs.declared.effects.Effect.{Effect}
use Rattle.mpi_law.specs.declared.effects.Effect.TheVariants as effect
use Rattle.mpi_law.specs.Local.Objects.{Local}
use Rattle.mpi_law.specs.Local.Effects.{local_after}
use Rattle.mpi_law.specs.Registry.State as reg
use Rattle.mpi_law.specs.Registry.State.{Registry, RankPart, Communicator, Creation, Wait, Idle, Creating, Freeing, Ending, Receiving, Awaiting, part_of, thread_of, comm_at, creation_at}
use Rattle.mpi_law.specs.Registry.Creations.{caller_of, outcome_for, with_answer, name_of, group_of, share_in, join, place_where, is_joinable}
use Rattle.mpi_law.specs.Registry.Contexts.{comm_of, key_place}
use Rattle.mpi_law.specs.Registry.Messages.{after_match}
use Rattle.mpi_law.specs.Registry.Calls.{with_freed, freed_all}
use Rattle.mpi_law.specs.Registry.Replies.{bind_outcome}
use Rattle.mpi_law.specs.Registry.Events.{after_pick, give_back}
use Rattle.central_law.specs.Within.{posted_state}

-- What a call leaves

-- what its thread waits for: nothing where the reply comes at once
abbrev pub wait_after : Registry → ℕ → Effect ℕ → Wait
wait_after g r (effect.Says said) = Idle
wait_after g r (effect.Opens target) = Idle
wait_after g r (effect.Groups target members session) = Idle
wait_after g r (effect.Ungroups name) = Idle
wait_after g r (effect.Joins a) = Creating (place_where (is_joinable (name_of g.creations r a.origin)) g.creations)
wait_after g r (effect.Frees name p) = Freeing p
wait_after g r (effect.Ends name session) = Ending session
wait_after g r (effect.Sends m) = Idle
wait_after g r (effect.Receives x) = Receiving ((part_of g r).receives + 1)
wait_after g r (effect.Posts target x) = Idle
wait_after g r (effect.NullPosts target) = Idle
wait_after g r (effect.Completes name number) = Receiving number
wait_after g r (effect.Awaits name) = Awaiting name

-- the communicators: one is freed at the rank (7.4.3), or those of a session that the rank has not freed yet (11.3.1)
abbrev pub comms_after : Registry → ℕ → Effect ℕ → List Communicator
comms_after g r (effect.Says said) = g.comms
comms_after g r (effect.Opens target) = g.comms
comms_after g r (effect.Groups target members session) = g.comms
comms_after g r (effect.Ungroups name) = g.comms
comms_after g r (effect.Joins a) = g.comms
comms_after g r (effect.Frees name p) = set g.comms p (with_freed r (comm_at g p))
comms_after g r (effect.Ends name session) = freed_all g.comms r session
comms_after g r (effect.Sends m) = g.comms
comms_after g r (effect.Receives x) = g.comms
comms_after g r (effect.Posts target x) = g.comms
comms_after g r (effect.NullPosts target) = g.comms
comms_after g r (effect.Completes name number) = g.comms
comms_after g r (effect.Awaits name) = g.comms

-- the creations: the call joins one, or opens it (7.4.2)
abbrev pub creations_after : Registry → ℕ → ℕ → Effect ℕ → List Creation
creations_after g r t (effect.Says said) = g.creations
creations_after g r t (effect.Opens target) = g.creations
creations_after g r t (effect.Groups target members session) = g.creations
creations_after g r t (effect.Ungroups name) = g.creations
creations_after g r t (effect.Joins a) = join g.creations (name_of g.creations r a.origin) (group_of g a.origin) (record { rank = r; thread = t; target = a.target; session = a.session; share = share_in a.origin })
creations_after g r t (effect.Frees name p) = g.creations
creations_after g r t (effect.Ends name session) = g.creations
creations_after g r t (effect.Sends m) = g.creations
creations_after g r t (effect.Receives x) = g.creations
creations_after g r t (effect.Posts target x) = g.creations
creations_after g r t (effect.NullPosts target) = g.creations
creations_after g r t (effect.Completes name number) = g.creations
creations_after g r t (effect.Awaits name) = g.creations

-- how many messages the rank has sent and how many receives it has posted, from how many before
abbrev pub sends_after : ℕ → Effect ℕ → ℕ
sends_after n (effect.Says said) = n
sends_after n (effect.Opens target) = n
sends_after n (effect.Groups target members session) = n
sends_after n (effect.Ungroups name) = n
sends_after n (effect.Joins a) = n
sends_after n (effect.Frees name p) = n
sends_after n (effect.Ends name session) = n
sends_after n (effect.Sends m) = n + 1
sends_after n (effect.Receives x) = n
sends_after n (effect.Posts target x) = n
sends_after n (effect.NullPosts target) = n
sends_after n (effect.Completes name number) = n
sends_after n (effect.Awaits name) = n

abbrev pub posts_after : ℕ → Effect ℕ → ℕ
posts_after n (effect.Says said) = n
posts_after n (effect.Opens target) = n
posts_after n (effect.Groups target members session) = n
posts_after n (effect.Ungroups name) = n
posts_after n (effect.Joins a) = n
posts_after n (effect.Frees name p) = n
posts_after n (effect.Ends name session) = n
posts_after n (effect.Sends m) = n
posts_after n (effect.Receives x) = n + 1
posts_after n (effect.Posts target x) = n + 1
posts_after n (effect.NullPosts target) = n
posts_after n (effect.Completes name number) = n
posts_after n (effect.Awaits name) = n

-- the rank's part, where the thread waits for this: its names and sessions, one call more of the thread, and the counts
abbrev pub part_waiting : Registry → ℕ → ℕ → Effect ℕ → Wait → RankPart
part_waiting g r t e wait =
    record {
      local = local_after (part_of g r).receives (part_of g r).local e;
      threads = set (part_of g r).threads t (record { calls = (thread_of g r t).calls + 1; wait = wait });
      sends = sends_after (part_of g r).sends e;
      receives = posts_after (part_of g r).receives e;
    }

abbrev pub part_after : Registry → ℕ → ℕ → Effect ℕ → RankPart
part_after g r t e = part_waiting g r t e (wait_after g r e)

-- What the parts of an entry leave, where the entry has them

abbrev pub matched_state : Registry → ℕ → Option Matched → Registry
matched_state g r None = g
matched_state g r (Some m) = after_match g r m.receive m.from m.number

abbrev pub picked_state : Registry → ℕ → Key → Option Said → Registry
picked_state g r key None = g
picked_state g r key (Some said.Own) = g
picked_state g r key (Some said.Zero) = g
picked_state g r key (Some said.Ready) = g
picked_state g r key (Some said.Retry) = g
picked_state g r key (Some (said.Picked c)) = after_pick g (key_place g r key) key (Some c)
picked_state g r key (Some said.Exhausted) = after_pick g (key_place g r key) key None
picked_state g r key (Some said.Shared) = g

abbrev pub returned_state : Registry → ℕ → ℕ → Option ℕ → Registry
returned_state g r c None = g
returned_state g r c (Some dropped) = give_back g r (comm_of g.comms r c)

-- A reply to a thread that waits for this: a creation is answered at the rank, which binds its target or frees it again
-- (7.4.2), and all other waits leave the rank's names as they are
abbrev pub creations_answered : Registry → ℕ → Wait → List Creation
creations_answered g r Idle = g.creations
creations_answered g r (reg.Reply_now x) = g.creations
creations_answered g r (reg.Sending m) = g.creations
creations_answered g r (reg.Posting x) = g.creations
creations_answered g r (reg.Requesting x) = g.creations
creations_answered g r (Creating n) = set g.creations n (with_answer (creation_at g n) r)
creations_answered g r (Freeing p) = g.creations
creations_answered g r (Ending session) = g.creations
creations_answered g r (Receiving number) = g.creations
creations_answered g r (Awaiting name) = g.creations

abbrev pub local_answered : Registry → ℕ → Wait → Local
local_answered g r Idle = (part_of g r).local
local_answered g r (reg.Reply_now x) = (part_of g r).local
local_answered g r (reg.Sending m) = (part_of g r).local
local_answered g r (reg.Posting x) = (part_of g r).local
local_answered g r (reg.Requesting x) = (part_of g r).local
local_answered g r (Creating n) = bind_outcome (part_of g r).local (caller_of (creation_at g n).callers r) (outcome_for (creation_at g n) r)
local_answered g r (Freeing p) = (part_of g r).local
local_answered g r (Ending session) = (part_of g r).local
local_answered g r (Receiving number) = (part_of g r).local
local_answered g r (Awaiting name) = (part_of g r).local

-- the thread waits for nothing then
abbrev pub part_answered : Registry → ℕ → ℕ → Wait → RankPart
part_answered g r t wait =
    record (part_of g r) {
      local = local_answered g r wait;
      threads = set (part_of g r).threads t (record { calls = (thread_of g r t).calls; wait = Idle });
    }

abbrev pub answered_state : Registry → ℕ → ℕ → Wait → Registry
answered_state g r t wait = record g { creations = creations_answered g r wait; ranks = set g.ranks r (part_answered g r t wait) }

abbrev pub replied_state : Registry → ℕ → ℕ → Option Reply → Registry
replied_state g r t None = g
replied_state g r t (Some said) = answered_state g r t (thread_of g r t).wait

-- a call that does this, with the match of its entry: all other ranks are as they were
abbrev pub called_state : Registry → ℕ → ℕ → Effect ℕ → Option Matched → Registry
called_state g r t e matched =
    record (matched_state (posted_state g r e) r matched) {
      comms = comms_after g r e;
      creations = creations_after g r t e;
      ranks = set g.ranks r (part_after g r t e);
    }
