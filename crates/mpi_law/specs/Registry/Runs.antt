-- When an event of the registry may come, and runs of events. Sections are those of MPI 4.0.
use Rattle.std.specs.Prelude.{◌≡◌, ℕ, ◌<◌, ◌≤◌, Bool, true, false, List, [], ◌∷◌, length, Some, None}
use Rattle.std.specs.List.{list_any, list_all}
use Rattle.mpi_base.specs.MemberLists.{has_rank}
use Rattle.mpi_base.specs.declared.keys.Key.{Key}
use Rattle.mpi_base.specs.declared.ops.Op.{Op}
use Rattle.mpi_law.specs.declared.setting.Setting.{Setting}
use Rattle.mpi_law.specs.declared.setting.TheConstants.{THREADS}
use Rattle.mpi_law.specs.Local.Effects.{is_said}
use Rattle.mpi_law.specs.Registry.State.{Registry, Message, Receive, thread_of, comm_at, creation_at, is_idle_wait, is_between_calls}
use Rattle.mpi_law.specs.Registry.Creations.{all_called, class_of, outcome_for, has_open_under}
use Rattle.mpi_law.specs.Registry.Contexts.{in_use, comm_of, is_exchange, key_place}
use Rattle.mpi_law.specs.Registry.Messages.{may_match, receive_of, message_of, left_on, has_waiting}
use Rattle.mpi_law.specs.Registry.Calls.{effect_at, to_send, to_post}
use Rattle.mpi_law.specs.Registry.Replies.{owed}
use Rattle.mpi_law.specs.Registry.Events.{Event, Calls, Sends, Posts, Picks, Matches, Backs, Replies, registry_next}

-- a thread that waits for nothing may call any operation
pub record MayCall (s : Setting) (g : Registry) (r t : ℕ) (op : Op) (now : Bool) : Type 0 where
  pub between : is_between_calls g ≡ true
  pub rank : r < s.ranks
  pub thread : t < THREADS
  pub idle : is_idle_wait (thread_of g r t).wait ≡ true
  pub reply : now ≡ is_said (effect_at s g r op)

-- a thread is within the call of a message, or of a receive
pub record MaySend (g : Registry) (r t : ℕ) : Type 0 where
  pub message : Message
  pub due : to_send (thread_of g r t).wait ≡ Some message

pub record MayPost (g : Registry) (r t : ℕ) : Type 0 where
  pub receive : Receive
  pub due : to_post (thread_of g r t).wait ≡ Some receive

-- the key is not that of an exchange; the creation that it stands for at a rank is there; all have called it (7.4.2: a
-- creation is collective); the rank is one of the key's members, and these are the members of the communicator that the
-- rank gets, for which nothing is picked
pub record MayPick (g : Registry) (r : ℕ) (key : Key) : Type 0 where
  pub between : is_between_calls g ≡ true
  pub proper : is_exchange key.kind ≡ false
  pub there : key_place g r key < length g.creations
  pub all : all_called (creation_at g (key_place g r key)) ≡ true
  pub member : has_rank key.members r ≡ true
  pub members : class_of (creation_at g (key_place g r key)) r ≡ key.members
  pub unpicked : outcome_for (creation_at g (key_place g r key)) r ≡ None

-- a context from 1 to the greatest that is in use at no member
pub record IsFree (s : Setting) (g : Registry) (key : Key) (c : ℕ) : Type 0 where
  pub above : 1 ≤ c
  pub below : c ≤ s.contexts
  pub unused : list_any (λ m. in_use g.comms m c) key.members ≡ false

-- each context from 1 to the greatest is in use at some member
abbrev pub AllInUse : Setting → Registry → Key → Type 0
AllInUse s g key = (c : ℕ) → 1 ≤ c → c ≤ s.contexts → list_any (λ m. in_use g.comms m c) key.members ≡ true

-- the receive and the message are there, and may match
pub record MayMatch (g : Registry) (r number from sent : ℕ) : Type 0 where
  pub receive : Receive
  pub message : Message
  pub posted : receive_of g r number ≡ Some receive
  pub sent_there : message_of g from sent ≡ Some message
  pub first : may_match g receive message ≡ true

-- a communicator that is live at the rank may be given back there once all its members have freed it, no creation under it
-- is open at any of them, and no receive of the rank on it is without a message (7.4.3: pending operations complete normally)
pub record MayBack (g : Registry) (r c dropped : ℕ) : Type 0 where
  pub between : is_between_calls g ≡ true
  pub place : ℕ
  pub here : comm_of g.comms r c ≡ Some place
  pub freed : list_all (has_rank (comm_at g place).freed) (comm_at g place).members ≡ true
  pub settled : list_any (has_open_under g place) (comm_at g place).members ≡ false
  pub complete : has_waiting g place r ≡ false
  pub left : dropped ≡ left_on g place r

-- Answers come in a step of their own, and a reply at once in the call's own entry.
abbrev pub Allowed : Setting → Registry → Event → Type 0
Allowed s g (Calls r t op now) = MayCall s g r t op now
Allowed s g (Sends r t) = MaySend g r t
Allowed s g (Posts r t) = MayPost g r t
Allowed s g (Picks r key (Some c)) = MayPick g r key × IsFree s g key c
Allowed s g (Picks r key None) = MayPick g r key × AllInUse s g key
Allowed s g (Matches r number from sent) = MayMatch g r number from sent
Allowed s g (Backs r c dropped) = MayBack g r c dropped
Allowed s g (Replies r t said) = owed g r t ≡ Some said

-- each event is allowed in the state that the earlier ones leave
abbrev pub IsRegistryRun : Setting → Registry → List Event → Type 0
IsRegistryRun s g [] = Unit {0}
IsRegistryRun s g (e ∷ es) = Allowed s g e × IsRegistryRun s (registry_next s g e) es

-- the state that events leave
abbrev pub registry_after : Setting → Registry → List Event → Registry
registry_after s g [] = g
registry_after s g (e ∷ es) = registry_after s (registry_next s g e) es
