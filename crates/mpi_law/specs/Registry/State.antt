-- What the registry keeps: communicators, creations, receives, messages, and each rank's names and threads. Sections are
-- those of MPI 4.0.
use Rattle.std.specs.Prelude.{ℕ, ◌+◌, ◌==◌, not, Bool, true, false, List, [], get_or, set, replicate, position, Option, Some, None, unwrap_or}
use Rattle.std.specs.List.{list_all}
use Rattle.mpi_base.specs.declared.replies.Reply.{Reply}
use Rattle.mpi_base.specs.declared.shares.Shared1.{Shared1}
use Rattle.local_law.specs.Objects.{no_objects}
use Rattle.mpi_law.specs.declared.setting.Setting.{Setting}
use Rattle.mpi_law.specs.declared.setting.TheConstants.{THREADS}
use Rattle.mpi_law.specs.Local.Objects.{Local}

-- a communicator, named by its place in the registry's list: its context, its members in order and the session of each, the
-- members that have freed it and those that have given it back
pub record Communicator : Type 0 where
  pub ctx : ℕ
  pub members : List ℕ
  pub sessions : List ℕ
  pub freed : List ℕ
  pub returned : List ℕ

-- a member that has called a creation, with its share where it is a split
pub record Caller : Type 0 where
  pub rank : ℕ
  pub thread : ℕ
  pub target : List ℕ
  pub session : ℕ
  pub share : Option Shared1

-- what was picked: the communicator at a place, or no context was free
pub data Outcome : Type 0 where
  Made : ℕ → Outcome
  NoneFree : Outcome

-- the pick of a creation, or of one class of a split
pub record Pick : Type 0 where
  pub members : List ℕ
  pub outcome : Outcome

-- the name of a creation (7.4.2, 6.14): the ordered group and the string tag; the communicator that is duplicated or split, by
-- its place, and how many calls of dup and split on it the caller had made before; or the communicator, the tag and the
-- ordered group
pub data CreationName : Type 0 where
  Group_and_tag : List ℕ → List ℕ → CreationName
  Nth_dup : ℕ → ℕ → CreationName
  Nth_split : ℕ → ℕ → CreationName
  Group_on : ℕ → ℕ → List ℕ → CreationName

-- a creation, with those that call it, in order: the members of the communicator to be, and of a split the members of the
-- communicator that is split
pub record Creation : Type 0 where
  pub name : CreationName
  pub group : List ℕ
  pub callers : List Caller
  pub picks : List Pick
  pub answered : List ℕ

-- what became of a message
pub data Fate : Type 0 where
  Open : Fate
  Matched : Fate
  Dropped : Fate

-- a message: its communicator and lane, its sender and receiver in the world, its tag, the sender's count of sends, from 1,
-- and its bytes. The lane tells messages from collectives
pub record Message : Type 0 where
  pub comm : ℕ
  pub lane : ℕ
  pub from : ℕ
  pub to : ℕ
  pub tag : ℕ
  pub number : ℕ
  pub payload : List ℕ
  pub fate : Fate

-- a receive: its rank and that rank's count of receives, from 1, its communicator and lane, the sender's rank in the
-- communicator and the tag, none where it is any, its room, and the message that it has taken
pub record Receive : Type 0 where
  pub rank : ℕ
  pub number : ℕ
  pub comm : ℕ
  pub lane : ℕ
  pub source : Option ℕ
  pub tag : Option ℕ
  pub room : ℕ
  pub taken : Option Message

-- what a thread waits for
pub data Wait : Type 0 where
  -- nothing
  Idle : Wait
  -- a reply that is there
  Reply_now : Reply → Wait
  -- within its call: that its message is sent, that its receive is posted, and the same with the reply there then
  Sending : Message → Wait
  Posting : Receive → Wait
  Requesting : Receive → Wait
  -- a creation, that a communicator is given back, that those of a session are, a receive, a name
  Creating : ℕ → Wait
  Freeing : ℕ → Wait
  Ending : ℕ → Wait
  Receiving : ℕ → Wait
  Awaiting : List ℕ → Wait

pub record ThreadPart : Type 0 where
  pub calls : ℕ
  pub wait : Wait

-- a rank's names and sessions, its threads, and how many messages it has sent and receives it has posted
pub record RankPart : Type 0 where
  pub local : Local
  pub threads : List ThreadPart
  pub sends : ℕ
  pub receives : ℕ

pub record Registry : Type 0 where
  pub comms : List Communicator
  pub creations : List Creation
  pub receives : List Receive
  pub messages : List Message
  pub ranks : List RankPart

abbrev pub idle_thread : ThreadPart
idle_thread = record { calls = 0; wait = Idle }

abbrev pub blank_part : RankPart
blank_part = record { local = no_objects; threads = replicate THREADS idle_thread; sends = 0; receives = 0 }

abbrev pub blank_creation : Creation
blank_creation = record { name = Group_and_tag [] []; group = []; callers = []; picks = []; answered = [] }

abbrev pub blank_comm : Communicator
blank_comm = record { ctx = 0; members = []; sessions = []; freed = []; returned = [] }

-- nothing called, nothing there
abbrev pub registry_opening : Setting → Registry
registry_opening s = record { comms = []; creations = []; receives = []; messages = []; ranks = replicate s.ranks blank_part }

-- Lookups

abbrev pub part_of : Registry → ℕ → RankPart
part_of g r = get_or g.ranks r blank_part

abbrev pub thread_of : Registry → ℕ → ℕ → ThreadPart
thread_of g r t = get_or (part_of g r).threads t idle_thread

abbrev pub comm_at : Registry → ℕ → Communicator
comm_at g p = get_or g.comms p blank_comm

abbrev pub creation_at : Registry → ℕ → Creation
creation_at g n = get_or g.creations n blank_creation

abbrev pub is_idle_wait : Wait → Bool
is_idle_wait Idle = true
is_idle_wait (Reply_now r) = false
is_idle_wait (Sending m) = false
is_idle_wait (Posting x) = false
is_idle_wait (Requesting x) = false
is_idle_wait (Creating n) = false
is_idle_wait (Freeing p) = false
is_idle_wait (Ending s) = false
is_idle_wait (Receiving n) = false
is_idle_wait (Awaiting name) = false

-- a thread is within its call: the call's message, its receive or its reply is to come in the same entry
abbrev pub is_within_call : Wait → Bool
is_within_call Idle = false
is_within_call (Reply_now r) = true
is_within_call (Sending m) = true
is_within_call (Posting x) = true
is_within_call (Requesting x) = true
is_within_call (Creating n) = false
is_within_call (Freeing p) = false
is_within_call (Ending s) = false
is_within_call (Receiving n) = false
is_within_call (Awaiting name) = false

-- no thread is: a call is made whole before another call, a pick or a give-back comes
abbrev pub is_between_calls : Registry → Bool
is_between_calls g = list_all (λ p. list_all (λ t. not (is_within_call t.wait)) p.threads) g.ranks

-- the creation that a thread waits for, by its place
abbrev pub created_by : Wait → Option ℕ
created_by Idle = None
created_by (Reply_now r) = None
created_by (Sending m) = None
created_by (Posting x) = None
created_by (Requesting x) = None
created_by (Creating n) = Some n
created_by (Freeing p) = None
created_by (Ending s) = None
created_by (Receiving n) = None
created_by (Awaiting name) = None

-- a member's rank in a communicator is its place among the members (7.2)
abbrev pub place_in : List ℕ → ℕ → ℕ
place_in members r = unwrap_or (position (λ m. m == r) members) 0

-- the session of a member
abbrev pub session_at : Communicator → ℕ → ℕ
session_at m r = get_or m.sessions (place_in m.members r) 0

-- Changes

abbrev pub with_part : Registry → ℕ → RankPart → Registry
with_part g r p = record g { ranks = set g.ranks r p }

-- a thread that has made one call more, and what it waits for
abbrev pub with_call : RankPart → ℕ → Local → Wait → RankPart
with_call p t l wait = record p { local = l; threads = set p.threads t (record { calls = (get_or p.threads t idle_thread).calls + 1; wait = wait }) }

-- a thread that waits for something else
abbrev pub with_wait : RankPart → ℕ → Wait → RankPart
with_wait p t wait = record p { threads = set p.threads t (record { calls = (get_or p.threads t idle_thread).calls; wait = wait }) }
