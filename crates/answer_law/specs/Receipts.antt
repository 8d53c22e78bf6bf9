-- What a thread is answered of a receive, and the match that it comes from. Sections are those of MPI 4.0.
use Rattle.std.specs.Prelude.{◌≡◌, ℕ, ◌==◌, ◌&&◌, Bool, true, if◌then◌else◌, List, ◌∷◌, ◌++◌, length, find, position, nat_lt, Option, Some, None}
use Rattle.mpi_base.specs.MemberLists.{has_rank}
use Rattle.mpi_base.specs.declared.errors.ErrClass.TheVariants as class
use Rattle.mpi_base.specs.declared.replies.Reply.{Reply}
use Rattle.mpi_base.specs.declared.replies.Reply.TheVariants as reply
use Rattle.mpi_base.specs.declared.ops.Op.{Op}
use Rattle.mpi_law.specs.declared.setting.Setting.{Setting}
use Rattle.mpi_law.specs.declared.effects.Sending.{Sending}
use Rattle.mpi_law.specs.declared.effects.Receiving.{Receiving as ReceiveAsked}
use Rattle.mpi_law.specs.declared.effects.Effect.{Effect}
use Rattle.mpi_law.specs.declared.effects.Effect.TheVariants.{Says, Opens, Groups, Ungroups, Joins, Frees, Ends, Sends, Receives, Posts, NullPosts, Completes, Awaits}
use Rattle.mpi_law.specs.Registry.Calls.{effect_at, message_of_call, receive_of_call}
use Rattle.mpi_law.specs.Registry.State.{Registry, Message, Receive, Receiving, thread_of, comm_at}
use Rattle.mpi_law.specs.Registry.Messages.{is_unmatched, is_waiting, fits, receive_of, with_fate, taking}
use Rattle.mpi_law.specs.Registry.Events.{Event, Calls, Matches, Replies}
use Rattle.answer_law.specs.Answers.{registry_at}

-- a rank is answered of its receive with a number: there is a reply to a thread of the rank that waits for this receive
pub record Receipt (s : Setting) (events : List Event) (r number : ℕ) (said : Reply) : Type 0 where
  pub thread : ℕ
  pub before : List Event
  pub after : List Event
  pub here : events ≡ before ++ Replies r thread said ∷ after
  pub waited : (thread_of (registry_at s before) r thread).wait ≡ Receiving number

-- an open message of a sender that fits a receive, and a waiting receive that fits a message (3.2.4)
abbrev pub may_take : Registry → Receive → ℕ → Message → Bool
may_take g x from m = is_unmatched m && ((m.from == from) && fits g x m)

abbrev pub may_be_taken_by : Registry → Message → ℕ → Receive → Bool
may_be_taken_by g m r x = is_waiting x && ((x.rank == r) && fits g x m)

-- what is told of a message that a receive has taken, with room for so many bytes (3.2.4, 3.2.5): that it is longer, or its
-- sender's rank in the communicator, its tag and its bytes
abbrev pub told_of : List ℕ → ℕ → Message → Reply
told_of members room m =
    if nat_lt room (length m.payload)
    then reply.Refused class.Truncate
    else reply.Received (position (λ k. k == m.from) members) (Some m.tag) m.payload

-- A receive took a message of a member of its own communicator: of the open messages of this sender that fit it the first,
-- and it was the first of the rank's waiting receives that fit the message. That is what was told.
pub record TookFirst (s : Setting) (events : List Event) (r number : ℕ) (said : Reply) : Type 0 where
  pub before : List Event
  pub after : List Event
  pub from : ℕ
  pub sent : ℕ
  pub receive : Receive
  pub message : Message
  pub here : events ≡ before ++ Matches r number from sent ∷ after
  pub posted : receive_of (registry_at s before) r number ≡ Some receive
  pub member : has_rank (comm_at (registry_at s before) receive.comm).members from ≡ true
  pub first : find (may_take (registry_at s before) receive from) (registry_at s before).messages ≡ Some message
  pub turn : find (may_be_taken_by (registry_at s before) message r) (registry_at s before).receives ≡ Some receive
  pub told : said ≡ told_of (comm_at (registry_at s before) receive.comm).members receive.room message

-- what a call sends, and what it posts
abbrev pub asks_to_send : Effect ℕ → Option (Sending ℕ)
asks_to_send (Says said) = None
asks_to_send (Opens target) = None
asks_to_send (Groups target members session) = None
asks_to_send (Ungroups name) = None
asks_to_send (Joins a) = None
asks_to_send (Frees name p) = None
asks_to_send (Ends name session) = None
asks_to_send (Sends m) = Some m
asks_to_send (Receives x) = None
asks_to_send (Posts target x) = None
asks_to_send (NullPosts target) = None
asks_to_send (Completes name number) = None
asks_to_send (Awaits name) = None

abbrev pub asks_to_post : Effect ℕ → Option (ReceiveAsked ℕ)
asks_to_post (Says said) = None
asks_to_post (Opens target) = None
asks_to_post (Groups target members session) = None
asks_to_post (Ungroups name) = None
asks_to_post (Joins a) = None
asks_to_post (Frees name p) = None
asks_to_post (Ends name session) = None
asks_to_post (Sends m) = None
asks_to_post (Receives x) = Some x
asks_to_post (Posts target x) = Some x
asks_to_post (NullPosts target) = None
asks_to_post (Completes name number) = None
asks_to_post (Awaits name) = None

-- a message is the one that a call of its sender sent, but for its fate, and a receive the one that a call of its rank posted,
-- but for what it has taken: with the communicator, the receiver or the sender, the tag, the bytes or the room of the call
pub record SentBy (s : Setting) (events : List Event) (m : Message) : Type 0 where
  pub thread : ℕ
  pub op : Op
  pub asked : Sending ℕ
  pub before : List Event
  pub after : List Event
  pub here : events ≡ before ++ Calls m.from thread op true ∷ after
  pub effect : asks_to_send (effect_at s (registry_at s before) m.from op) ≡ Some asked
  pub is : m ≡ with_fate m.fate (message_of_call (registry_at s before) m.from asked)

pub record PostedBy (s : Setting) (events : List Event) (x : Receive) : Type 0 where
  pub thread : ℕ
  pub op : Op
  pub now : Bool
  pub asked : ReceiveAsked ℕ
  pub before : List Event
  pub after : List Event
  pub here : events ≡ before ++ Calls x.rank thread op now ∷ after
  pub effect : asks_to_post (effect_at s (registry_at s before) x.rank op) ≡ Some asked
  pub is : x ≡ taking x.taken (receive_of_call (registry_at s before) x.rank asked)
