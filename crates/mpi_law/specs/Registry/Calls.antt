-- What a call does in the registry, and the sending and posting within it.
use Rattle.std.specs.Prelude.{ℕ, ◌+◌, ◌==◌, ◌&&◌, not, Bool, if◌then◌else◌, List, [], ◌∷◌, ◌++◌, map, get_or, set, Option, Some, None}
use Rattle.mpi_base.specs.MemberLists.{has_rank}
use Rattle.mpi_base.specs.declared.ops.Op.{Op}
use Rattle.mpi_base.specs.declared.replies.Reply.TheVariants as reply
use Rattle.mpi_law.specs.declared.setting.Setting.{Setting}
use Rattle.mpi_law.specs.Local.{effect_of}
use Rattle.mpi_law.specs.declared.effects.TheConstants.{MESSAGE_LANE}
use Rattle.mpi_law.specs.declared.effects.Asked.{Asked}
use Rattle.mpi_law.specs.declared.effects.Sending.{Sending}
use Rattle.mpi_law.specs.declared.effects.Receiving.{Receiving}
use Rattle.mpi_law.specs.declared.effects.Effect.{Effect}
use Rattle.mpi_law.specs.declared.effects.Effect.TheVariants.{Says, Opens, Groups, Ungroups, Joins, Frees, Ends, Sends, Receives, Posts, NullPosts, Completes, Awaits}
use Rattle.mpi_law.specs.Local.Objects.{Local}
use Rattle.mpi_law.specs.Local.Effects.{Around, local_after}
use Rattle.mpi_law.specs.Registry.State
use Rattle.mpi_law.specs.Registry.State.{Registry, RankPart, Communicator, CreationName, Message, Receive, Wait, Reply_now, Creating, Freeing, Ending, Awaiting, part_of, comm_at, session_at, with_part, with_call}
use Rattle.mpi_law.specs.Registry.Creations.{is_open, has_open_of, name_of, group_of, share_in, join, place_where, is_joinable}

-- what a call at a rank looks at besides the rank's own objects
abbrev pub around : Registry → ℕ → Around
around g r =
    record {
      members = λ p. (comm_at g p).members;
      busy = λ origin. is_open g r (name_of g.creations r origin);
      engaged = has_open_of g r;
    }

abbrev pub effect_at : Setting → Registry → ℕ → Op → Effect ℕ
effect_at s g r op = effect_of s r (around g r) (part_of g r).local op

-- A rank frees communicators

abbrev pub with_freed : ℕ → Communicator → Communicator
with_freed r m = record m { freed = m.freed ++ r ∷ [] }

-- a communicator of this session of the rank, which the rank has not freed
abbrev pub is_kept : ℕ → ℕ → Communicator → Bool
is_kept r s m = has_rank m.members r && ((session_at m r == s) && not (has_rank m.freed r))

abbrev pub freed_all : List Communicator → ℕ → ℕ → List Communicator
freed_all comms r s = map (λ m. if is_kept r s m then with_freed r m else m) comms

-- What a rank sends and posts, with its next number

abbrev pub message_of_call : Registry → ℕ → Sending ℕ → Message
message_of_call g r m =
    record {
      comm = m.comm;
      lane = MESSAGE_LANE;
      from = r;
      to = get_or (comm_at g m.comm).members m.to 0;
      tag = m.tag;
      number = (part_of g r).sends + 1;
      payload = m.payload;
      fate = State.Open;
    }

abbrev pub receive_of_call : Registry → ℕ → Receiving ℕ → Receive
receive_of_call g r x =
    record {
      rank = r;
      number = (part_of g r).receives + 1;
      comm = x.comm;
      lane = MESSAGE_LANE;
      source = x.source;
      tag = x.tag;
      room = x.room;
      taken = None;
    }

-- one send or one receive more is counted
abbrev pub with_send : RankPart → RankPart
with_send p = record p { sends = p.sends + 1 }

abbrev pub with_receive : RankPart → RankPart
with_receive p = record p { receives = p.receives + 1 }

-- the thread has called, and waits for something
abbrev pub waits : Registry → ℕ → ℕ → Local → Wait → Registry
waits g r t l wait = with_part g r (with_call (part_of g r) t l wait)

abbrev pub joins : Registry → ℕ → ℕ → Local → Asked ℕ → CreationName → Registry
joins g r t l a name =
    record g {
      creations = join g.creations name (group_of g a.origin) (record { rank = r; thread = t; target = a.target; session = a.session; share = share_in a.origin });
      ranks = set g.ranks r (with_call (part_of g r) t l (Creating (place_where (is_joinable name) g.creations)));
    }

-- what an effect does, with the rank's objects as it leaves them
abbrev pub carried_out : Registry → ℕ → ℕ → Local → Effect ℕ → Registry
carried_out g r t l (Says said) = waits g r t l (Reply_now said)
carried_out g r t l (Opens target) = waits g r t l (Reply_now reply.Fine)
carried_out g r t l (Groups target members session) = waits g r t l (Reply_now (reply.Group members))
carried_out g r t l (Ungroups name) = waits g r t l (Reply_now reply.Fine)
carried_out g r t l (Joins a) = joins g r t l a (name_of g.creations r a.origin)
carried_out g r t l (Frees name p) = waits (record g { comms = set g.comms p (with_freed r (comm_at g p)) }) r t l (Freeing p)
carried_out g r t l (Ends name s) = waits (record g { comms = freed_all g.comms r s }) r t l (Ending s)
carried_out g r t l (Sends m) = with_part g r (with_send (with_call (part_of g r) t l (State.Sending (message_of_call g r m))))
carried_out g r t l (Receives x) = with_part g r (with_receive (with_call (part_of g r) t l (State.Posting (receive_of_call g r x))))
carried_out g r t l (Posts target x) = with_part g r (with_receive (with_call (part_of g r) t l (State.Requesting (receive_of_call g r x))))
carried_out g r t l (NullPosts target) = waits g r t l (Reply_now reply.Fine)
carried_out g r t l (Completes name n) = waits g r t l (State.Receiving n)
carried_out g r t l (Awaits name) = waits g r t l (Awaiting name)

abbrev pub after_effect : Registry → ℕ → ℕ → Effect ℕ → Registry
after_effect g r t e = carried_out g r t (local_after (part_of g r).receives (part_of g r).local e) e

-- Within the call

-- the message that a thread is to send, the receive that it is to post
abbrev pub to_send : Wait → Option Message
to_send State.Idle = None
to_send (Reply_now said) = None
to_send (State.Sending m) = Some m
to_send (State.Posting x) = None
to_send (State.Requesting x) = None
to_send (Creating n) = None
to_send (Freeing p) = None
to_send (Ending s) = None
to_send (State.Receiving n) = None
to_send (Awaiting name) = None

abbrev pub to_post : Wait → Option Receive
to_post State.Idle = None
to_post (Reply_now said) = None
to_post (State.Sending m) = None
to_post (State.Posting x) = Some x
to_post (State.Requesting x) = Some x
to_post (Creating n) = None
to_post (Freeing p) = None
to_post (Ending s) = None
to_post (State.Receiving n) = None
to_post (Awaiting name) = None

-- what it waits for then
abbrev pub once_sent : Wait → Wait
once_sent State.Idle = State.Idle
once_sent (Reply_now said) = Reply_now said
once_sent (State.Sending m) = Reply_now reply.Fine
once_sent (State.Posting x) = State.Receiving x.number
once_sent (State.Requesting x) = Reply_now reply.Fine
once_sent (Creating n) = Creating n
once_sent (Freeing p) = Freeing p
once_sent (Ending s) = Ending s
once_sent (State.Receiving n) = State.Receiving n
once_sent (Awaiting name) = Awaiting name
