-- The event of the agreement that a choice of the protocol is: one, or none.
use Rattle.std.specs.Prelude.{ℕ, List, [], ◌∷◌, ◌++◌, Option, Some, None}
use Rattle.mpi_base.specs.declared.keys.Key.{Key}
use Rattle.mpi_base.specs.declared.keys.Kind.TheVariants as kind
use Rattle.mpi_base.specs.declared.entries.Act.{Act}
use Rattle.mpi_base.specs.declared.entries.Act.TheVariants.{Call, Answer, Deliver, Offer as MakeOffer, Settle, Leave, Back}
use Rattle.mpi_base.specs.declared.entries.Entry.{Entry}
use Rattle.mpi_law.specs.Local.{effect_of}
use Rattle.mpi_law.specs.declared.effects.Origin.{Origin}
use Rattle.mpi_law.specs.declared.effects.Origin.TheVariants.{Grouped, Duplicated, Divided, GroupedOn}
use Rattle.mpi_law.specs.declared.effects.Effect.{Effect}
use Rattle.mpi_law.specs.declared.effects.Effect.TheVariants.{Says, Opens, Groups, Ungroups, Joins, Frees, Ends, Sends, Receives, Posts, NullPosts, Completes, Awaits}
use Rattle.agree_law.specs.declared.rows.Outcome.{Outcome}
use Rattle.agree_law.specs.Part.{stage_of}
use Rattle.agree_law.specs.World as agree
use Rattle.agree_law.specs.World.{Event}
use Rattle.mpi_protocol.specs.declared.rows.Waits.{Waits}
use Rattle.mpi_protocol.specs.declared.rows.Waits.TheVariants.{Nothing, Creation, Uncoloured, Freeing, Ending, Receiving, Awaiting}
use Rattle.mpi_protocol.specs.Packets.{Packet, Agreeing, Message, Marker}
use Rattle.mpi_protocol.specs.Rank.{Rank, thread_at}
use Rattle.mpi_protocol.specs.Calls.{key_from, key_on, key_under, around_here}
use Rattle.mpi_protocol.specs.Answers.{outcome_of}
use Rattle.mpi_protocol.specs.World.{World, rank_at, head_for, moved}

-- the call of a creation begins it; that of a split begins the exchange of its shares
abbrev pub opening_events : ℕ → Rank → Origin ℕ → List Event
opening_events r x (Grouped group tag) = agree.Begin r (key_from group tag) ∷ []
opening_events r x (Duplicated c) = agree.Begin r (key_on x.comms c kind.Dup) ∷ []
opening_events r x (Divided c share) = agree.Begin_share r (key_on x.comms c kind.Share) share ∷ []
opening_events r x (GroupedOn c tag group) = agree.Begin r (key_under c tag group) ∷ []

-- a call that does not ask for a creation is nothing in the agreement
abbrev pub call_events : ℕ → Rank → Effect ℕ → List Event
call_events r x (Says said) = []
call_events r x (Opens target) = []
call_events r x (Groups target members session) = []
call_events r x (Ungroups name) = []
call_events r x (Joins a) = opening_events r x a.origin
call_events r x (Frees name c) = []
call_events r x (Ends name s) = []
call_events r x (Sends m) = []
call_events r x (Receives a) = []
call_events r x (Posts target a) = []
call_events r x (NullPosts target) = []
call_events r x (Completes name n) = []
call_events r x (Awaits name) = []

-- a creation that is decided is closed
abbrev pub decided_events : ℕ → Key → Option Outcome → List Event
decided_events r key None = []
decided_events r key (Some o) = agree.Close r key ∷ []

-- the answer to a creation closes it, any other answer is nothing in the agreement
abbrev pub answer_events : ℕ → Rank → Waits → List Event
answer_events r x Nothing = []
answer_events r x (Creation key target session) = decided_events r key (outcome_of (stage_of x.agree.opened key))
answer_events r x (Uncoloured key target session) = []
answer_events r x (Freeing serial) = []
answer_events r x (Ending session) = []
answer_events r x (Receiving n) = []
answer_events r x (Awaiting name) = []

-- the delivery of a packet of the agreement is one there, that of a message or a marker is nothing in it
abbrev pub packet_events : ℕ → ℕ → Option Packet → List Event
packet_events r from None = []
packet_events r from (Some (Agreeing p)) = agree.Deliver r from ∷ []
packet_events r from (Some (Message m)) = []
packet_events r from (Some (Marker c)) = []

-- the event of an act at a rank, with the packet that a delivery takes; to leave a communicator is nothing in the agreement
abbrev pub act_events : ℕ → Rank → Act → Option Packet → List Event
act_events r x (Call t op) p = call_events r x (effect_of x.setting x.rank (around_here x) x.local op)
act_events r x (Answer t) p = answer_events r x (thread_at x t).waits
act_events r x (Deliver from) p = packet_events r from p
act_events r x (MakeOffer key) p = agree.Offer r key ∷ []
act_events r x (Settle key) p = agree.Settle r key ∷ []
act_events r x (Leave c) p = []
act_events r x (Back c) p = agree.Back r c ∷ []

-- the event of a choice in a world
abbrev pub events_at : World → ℕ → Act → List Event
events_at w r act = act_events r (rank_at w r) act (head_for w r act)

-- the events of the agreement that a journal is, from a world
abbrev pub agreement_events : World → List Entry → List Event
agreement_events w [] = []
agreement_events w (e ∷ es) = events_at w e.choice.rank e.choice.act ++ agreement_events (moved w e.choice) es
