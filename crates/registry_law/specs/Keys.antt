-- What a key that is open at a rank stands for in the registry. Keys are this project's own.
use Rattle.std.specs.Prelude.{◌≡◌, ◌<◌, ℕ, Bool, true, false, List, length, get_or, Option, Some, None}
use Rattle.mpi_base.specs.MemberLists.{has_rank}
use Rattle.mpi_base.specs.Keys.{same_key}
use Rattle.mpi_base.specs.declared.keys.Key.{Key}
use Rattle.mpi_law.specs.declared.setting.TheConstants.{THREADS}
use Rattle.mpi_law.specs.Registry.State.{Registry, Communicator, Creation, Creating, Outcome, Made, NoneFree, blank_comm, thread_of, creation_at}
use Rattle.mpi_law.specs.Registry.Creations.{has_called, class_of, outcome_for}
use Rattle.mpi_law.specs.Registry.Contexts.{stands_for, key_place, is_exchange}
use Rattle.agree_law.specs.declared.rows.Outcome.{Outcome as Ended}
use Rattle.agree_law.specs.declared.rows.Outcome.TheVariants as ended
use Rattle.agree_law.specs.declared.rows.Stage.{Stage}
use Rattle.agree_law.specs.declared.rows.Stage.TheVariants.{Sharing, Called, Waiting, Offered, Done}
use Rattle.agree_law.specs.Part.{stage_of}
use Rattle.mpi_protocol.specs.declared.rows.Waits.{Waits}
use Rattle.mpi_protocol.specs.declared.rows.Waits.TheVariants.{Nothing, Creation as Creates, Uncoloured, Freeing, Ending, Receiving, Awaiting}
use Rattle.mpi_protocol.specs.Rank.{thread_at}
use Rattle.mpi_protocol.specs.World.{World, rank_at}

-- a thread waits under a key
abbrev pub waits_under : Key → Waits → Bool
waits_under key Nothing = false
waits_under key (Creates k target session) = same_key k key
waits_under key (Uncoloured k target session) = false
waits_under key (Freeing serial) = false
waits_under key (Ending session) = false
waits_under key (Receiving number) = false
waits_under key (Awaiting name) = false

-- the members of a key: of an exchange all that call the split, of any other those of the communicator that the rank gets
abbrev pub HasMembers : Creation → ℕ → Key → Bool → Type 0
HasMembers c r key true = key.members ≡ c.group
HasMembers c r key false = key.members ≡ class_of c r

-- what a rank knows of the pick for it: nothing is picked before it offers, and once it is decided there it is what was picked
abbrev pub IsPicked : List Communicator → Ended → Option Outcome → Type 0
IsPicked comms (ended.Context c) None = ⊥
IsPicked comms (ended.Context c) (Some (Made p)) = (get_or comms p blank_comm).ctx ≡ c
IsPicked comms (ended.Context c) (Some NoneFree) = ⊥
IsPicked comms ended.Exhausted None = ⊥
IsPicked comms ended.Exhausted (Some (Made p)) = ⊥
IsPicked comms ended.Exhausted (Some NoneFree) = Unit {0}

abbrev pub StageTells : List Communicator → Option Stage → Option Outcome → Type 0
StageTells comms None o = ⊥
StageTells comms (Some (Sharing s)) o = o ≡ None
StageTells comms (Some Called) o = o ≡ None
StageTells comms (Some (Waiting i)) o = o ≡ None
StageTells comms (Some (Offered i own)) o = Unit {0}
StageTells comms (Some (Done d)) o = IsPicked comms d o

-- A key stands at a rank for the creation at a place, which the rank has called: it has the creation's name and members. One
-- thread of the rank waits under the key, and in the registry this thread waits for this creation. While nothing is picked
-- of it for the rank, a pick under the key is a pick of it.
pub record Stands (w : World) (g : Registry) (r : ℕ) (key : Key) : Type 0 where
  pub place : ℕ
  pub there : place < length g.creations
  pub name : stands_for g.comms r key ≡ Some (creation_at g place).name
  pub members : HasMembers (creation_at g place) r key (is_exchange key.kind)
  pub member : has_rank key.members r ≡ true
  pub called : has_called (creation_at g place) r ≡ true
  pub thread : ℕ
  pub inside : thread < THREADS
  pub waits : waits_under key (thread_at (rank_at w r) thread).waits ≡ true
  pub alone : (u : ℕ) → u < THREADS → waits_under key (thread_at (rank_at w r) u).waits ≡ true → u ≡ thread
  pub awaited : (thread_of g r thread).wait ≡ Creating place
  pub stage : StageTells g.comms (stage_of (rank_at w r).agree.opened key) (outcome_for (creation_at g place) r)
  pub pick : outcome_for (creation_at g place) r ≡ None → key_place g r key ≡ place
