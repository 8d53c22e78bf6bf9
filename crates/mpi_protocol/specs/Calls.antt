-- What a call does at a rank. This project's own.
use Rattle.std.specs.Prelude.{ℕ, ◌+◌, ◌==◌, if◌then◌else◌, List, [], ◌∷◌, Option, Some, None}
use Rattle.mpi_base.specs.declared.keys.Key.{Key}
use Rattle.mpi_base.specs.declared.keys.Kind.{Kind}
use Rattle.mpi_base.specs.declared.keys.Kind.TheVariants as kind
use Rattle.mpi_base.specs.declared.messages.Msg.{Msg}
use Rattle.mpi_base.specs.declared.ops.Op.{Op}
use Rattle.mpi_base.specs.declared.replies.Reply.{Reply}
use Rattle.mpi_base.specs.declared.replies.Reply.TheVariants as reply
use Rattle.mpi_base.specs.Keys.{same_key}
use Rattle.mpi_law.specs.Local.{effect_of}
use Rattle.mpi_law.specs.Local.Objects.{Local}
use Rattle.mpi_law.specs.declared.effects.TheConstants.{MESSAGE_LANE}
use Rattle.mpi_law.specs.declared.effects.Origin.{Origin}
use Rattle.mpi_law.specs.declared.effects.Origin.TheVariants.{Grouped, Duplicated, Divided, GroupedOn}
use Rattle.mpi_law.specs.declared.effects.Asked.{Asked}
use Rattle.mpi_law.specs.declared.effects.Sending.{Sending}
use Rattle.mpi_law.specs.declared.effects.Receiving.{Receiving as ReceiveAsked}
use Rattle.mpi_law.specs.declared.effects.Effect.{Effect}
use Rattle.mpi_law.specs.declared.effects.Effect.TheVariants.{Says, Opens, Groups, Ungroups, Joins, Frees, Ends, Sends, Receives, Posts, NullPosts, Completes, Awaits}
use Rattle.mpi_law.specs.Local.Effects.{Around, local_after}
use Rattle.agree_law.specs.Tree.{place_in, member_at}
use Rattle.agree_law.specs.Packets as agree
use Rattle.agree_law.specs.Offers.{begin}
use Rattle.agree_law.specs.Shares.{begin_share}
use Rattle.comm_law.specs.Comms.{Comms, comm_at, count_call, mark_free, free_session}
use Rattle.match_law.specs.declared.rows.Posted.{Posted}
use Rattle.mpi_protocol.specs.declared.rows.Waits.{Waits}
use Rattle.mpi_protocol.specs.declared.rows.Waits.TheVariants.{Nothing, Creation, Freeing, Ending, Receiving, Awaiting}
use Rattle.mpi_protocol.specs.declared.rows.ThreadRow.{ThreadRow}
use Rattle.mpi_protocol.specs.Packets.{Message, Sent, agreeing}
use Rattle.mpi_protocol.specs.Rank.{Rank, with_call, has_open, with_receive}
use Rattle.mpi_protocol.specs.Moves.{Move, moves, Taking, arrives, posts}

-- Keys

-- the key of a creation from a group
abbrev pub key_from : List ℕ → List ℕ → Key
key_from group tag = record { parent = 0; kind = kind.From; number = 0; tag = tag; members = group }

-- the key of a duplicate, or of the exchange of a split: it counts the calls of both that the rank has made before
abbrev pub key_on : Comms → ℕ → Kind → Key
key_on comms c k = record { parent = c; kind = k; number = (comm_at comms c).calls; tag = []; members = (comm_at comms c).members }

-- the key of a creation of a group under a communicator
abbrev pub key_under : ℕ → ℕ → List ℕ → Key
key_under c tag group = record { parent = c; kind = kind.Group; number = tag; tag = []; members = group }

abbrev pub key_of : Comms → Origin ℕ → Key
key_of comms (Grouped group tag) = key_from group tag
key_of comms (Duplicated c) = key_on comms c kind.Dup
key_of comms (Divided c share) = key_on comms c kind.Share
key_of comms (GroupedOn c tag group) = key_under c tag group

-- what a call looks at besides the rank's own objects: the communicators and the threads of the rank
abbrev pub around_of : Comms → List ThreadRow → Around
around_of comms threads =
    record {
      members = λ c. (comm_at comms c).members;
      busy = λ origin. has_open threads (λ k session. same_key k (key_of comms origin));
      engaged = λ s. has_open threads (λ k session. session == s);
    }

abbrev pub around_here : Rank → Around
around_here x = around_of x.comms x.threads

-- Creations

-- calls of dup and split are counted at their communicator
abbrev pub counted : Comms → Origin ℕ → Comms
counted comms (Grouped group tag) = comms
counted comms (Duplicated c) = count_call comms c
counted comms (Divided c share) = count_call comms c
counted comms (GroupedOn c tag group) = comms

-- the creation is called; a split begins with the exchange of its shares
abbrev pub opens : Rank → Origin ℕ → agree.Moved
opens x (Grouped group tag) = begin x.rank x.setting.contexts x.agree (key_from group tag)
opens x (Duplicated c) = begin x.rank x.setting.contexts x.agree (key_on x.comms c kind.Dup)
opens x (Divided c share) = begin_share x.rank x.agree (key_on x.comms c kind.Share) share
opens x (GroupedOn c tag group) = begin x.rank x.setting.contexts x.agree (key_under c tag group)

abbrev pub joins : Rank → ℕ → Local → Asked ℕ → agree.Moved → Move
joins x t l a opened =
    moves (record x { agree = opened.part; comms = counted x.comms a.origin; local = l; threads = with_call x t (Creation (key_of x.comms a.origin) a.target a.session) })
    (agreeing opened.sent)

-- Messages

-- the message that the rank sends, with its next number
abbrev pub message_of : Rank → Sending ℕ → Msg
message_of x m =
    record {
      ctx = m.comm;
      lane = MESSAGE_LANE;
      from = x.rank;
      source = place_in (comm_at x.comms m.comm).members x.rank;
      tag = m.tag;
      number = x.sends + 1;
      payload = m.payload;
    }

-- to itself the rank sends no packet: the same step takes the message
abbrev pub sends_to : Rank → Msg → ℕ → Taking × List Sent
sends_to x m to = if to == x.rank then (arrives x m, []) else ((x, None), record { to = to; packet = Message m } ∷ [])

abbrev pub sent : Taking × List Sent → Move
sent done = record { state = done.0.0; said = None; matched = done.0.1; dropped = None; reply = Some reply.Fine; sent = done.1 }

abbrev pub sends : Rank → ℕ → Local → Sending ℕ → Move
sends x t l m =
    sent (sends_to (record x { local = l; threads = with_call x t Nothing; sends = x.sends + 1 }) (message_of x m) (member_at (comm_at x.comms m.comm).members m.to))

-- the receive that the rank posts, with its next number
abbrev pub posted_of : Rank → ReceiveAsked ℕ → Posted
posted_of x a = record { number = x.posts + 1; ctx = a.comm; lane = MESSAGE_LANE; source = a.source; tag = a.tag }

abbrev pub with_post : Rank → ℕ → Local → ReceiveAsked ℕ → Waits → Rank
with_post x t l a waits = record x { receives = with_receive x.receives (x.posts + 1) a.room; local = l; threads = with_call x t waits; posts = x.posts + 1 }

abbrev pub requested : Taking → Move
requested done = record { state = done.0; said = None; matched = done.1; dropped = None; reply = Some reply.Fine; sent = [] }

abbrev pub received : Taking → Move
received done = record { state = done.0; said = None; matched = done.1; dropped = None; reply = None; sent = [] }

-- Any call

abbrev pub says : Rank → ℕ → Local → Option Reply → Waits → Move
says x t l said waits = record { state = record x { local = l; threads = with_call x t waits }; said = None; matched = None; dropped = None; reply = said; sent = [] }

-- what an effect does, with the rank's objects as it leaves them
abbrev pub carried_out : Rank → ℕ → Local → Effect ℕ → Move
carried_out x t l (Says said) = says x t l (Some said) Nothing
carried_out x t l (Opens target) = says x t l (Some reply.Fine) Nothing
carried_out x t l (Groups target members session) = says x t l (Some (reply.Group members)) Nothing
carried_out x t l (Ungroups name) = says x t l (Some reply.Fine) Nothing
carried_out x t l (Joins a) = joins x t l a (opens x a.origin)
carried_out x t l (Frees name c) = says (record x { comms = mark_free x.comms c }) t l None (Freeing (comm_at x.comms c).serial)
carried_out x t l (Ends name s) = says (record x { comms = free_session x.comms s }) t l None (Ending s)
carried_out x t l (Sends m) = sends x t l m
carried_out x t l (Receives a) = received (posts (with_post x t l a (Receiving (x.posts + 1))) (posted_of x a))
carried_out x t l (Posts target a) = requested (posts (with_post x t l a Nothing) (posted_of x a))
carried_out x t l (NullPosts target) = says x t l (Some reply.Fine) Nothing
carried_out x t l (Completes name n) = says x t l None (Receiving n)
carried_out x t l (Awaits name) = says x t l None (Awaiting name)

abbrev pub called : Rank → ℕ → Effect ℕ → Move
called x t e = carried_out x t (local_after x.posts x.local e) e

unfoldable pub calls : Rank → ℕ → Op → Move
calls x t op = called x t (effect_of x.setting x.rank (around_here x) x.local op)
