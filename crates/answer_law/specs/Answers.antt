-- What a rank is answered of a creation in a run of the registry from its opening on, and the pick that it comes from. Sections
-- are those of MPI 4.0.
use Rattle.std.specs.Prelude.{◌≡◌, ◌≤◌, ◌==◌, ◌&&◌, Bool, ℕ, ℤ, true, false, List, [], ◌∷◌, ◌++◌, Option, Some, None, unwrap_or}
use Rattle.std.specs.List.{list_any}
use Rattle.mpi_base.specs.declared.keys.Key.{Key}
use Rattle.mpi_base.specs.declared.ops.Op.{Op}
use Rattle.mpi_base.specs.declared.replies.Reply.{Reply}
use Rattle.mpi_base.specs.declared.shares.Shared1.{Shared1}
use Rattle.mpi_law.specs.declared.setting.Setting.{Setting}
use Rattle.mpi_law.specs.declared.effects.Asked.{Asked}
use Rattle.mpi_law.specs.declared.effects.Effect.TheVariants.{Joins}
use Rattle.mpi_law.specs.Splits.{split_class}
use Rattle.mpi_law.specs.Registry.State.{Registry, Creation, CreationName, Group_and_tag, Nth_dup, Nth_split, Group_on, Creating, registry_opening, thread_of, comm_at, creation_at}
use Rattle.mpi_law.specs.Registry.Creations.{share_of, no_share, share_in, name_of}
use Rattle.mpi_law.specs.Registry.Contexts.{in_use, key_place}
use Rattle.mpi_law.specs.Registry.Calls.{effect_at}
use Rattle.mpi_law.specs.Registry.Events.{Event, Calls, Sends, Posts, Picks, Matches, Backs, Replies}
use Rattle.mpi_law.specs.Registry.Runs.{IsRegistryRun, registry_after}

-- events are a run from the opening on
abbrev pub IsRun : Setting → List Event → Type 0
IsRun s events = IsRegistryRun s (registry_opening s) events

-- the registry that events leave
abbrev pub registry_at : Setting → List Event → Registry
registry_at s events = registry_after s (registry_opening s) events

-- a rank is answered of the creation at a place: there is a reply to a thread of the rank that waits for this creation
pub record Answer (s : Setting) (events : List Event) (n r : ℕ) (said : Reply) : Type 0 where
  pub thread : ℕ
  pub before : List Event
  pub after : List Event
  pub here : events ≡ before ++ Replies r thread said ∷ after
  pub waited : (thread_of (registry_at s before) r thread).wait ≡ Creating n

-- The group that a rank gets of a creation (7.4.2): the one that was named, of a duplicate the members of the
-- communicator, and of a split those with the rank's colour, none where the rank has no colour.
abbrev pub coloured : (ℕ → Shared1) → List ℕ → Option ℤ → List ℕ
coloured share members None = []
coloured share members (Some colour) = split_class share members colour

abbrev pub named_group : Registry → (ℕ → Shared1) → ℕ → CreationName → List ℕ
named_group g share r (Group_and_tag group tag) = group
named_group g share r (Nth_dup p number) = (comm_at g p).members
named_group g share r (Nth_split p number) = coloured share (comm_at g p).members (share r).colour
named_group g share r (Group_on p tag group) = group

-- the creation at a place, as events leave it
abbrev pub creation_in : Setting → List Event → ℕ → Creation
creation_in s events n = creation_at (registry_at s events) n

abbrev pub group_of_answer : Setting → List Event → ℕ → ℕ → List ℕ
group_of_answer s events n r = named_group (registry_at s events) (share_of (creation_in s events n)) r (creation_in s events n).name

-- whether an event is a call of a thread
abbrev pub is_call_of : ℕ → ℕ → Event → Bool
is_call_of r t (Calls q u op now) = (q == r) && (u == t)
is_call_of r t (Sends q u) = false
is_call_of r t (Posts q u) = false
is_call_of r t (Picks q key pick) = false
is_call_of r t (Matches q number from sent) = false
is_call_of r t (Backs q c dropped) = false
is_call_of r t (Replies q u said) = false

-- a thread has called the creation at a place, and nothing else since: the operation asked for a creation, in the registry
-- then, whose name is that of the creation at the place
pub record CalledLast (s : Setting) (events : List Event) (n r t : ℕ) : Type 0 where
  pub op : Op
  pub asked : Asked ℕ
  pub before : List Event
  pub after : List Event
  pub here : events ≡ before ++ Calls r t op false ∷ after
  pub last : list_any (is_call_of r t) after ≡ false
  pub effect : effect_at s (registry_at s before) r op ≡ Joins asked
  pub name : (creation_in s events n).name ≡ name_of (registry_at s before).creations r asked.origin

-- a rank has called the creation at a place, by an operation that asked for its name, and with the share that stands there
pub record HasCalled (s : Setting) (events : List Event) (n r : ℕ) : Type 0 where
  pub thread : ℕ
  pub op : Op
  pub now : Bool
  pub asked : Asked ℕ
  pub before : List Event
  pub after : List Event
  pub here : events ≡ before ++ Calls r thread op now ∷ after
  pub effect : effect_at s (registry_at s before) r op ≡ Joins asked
  pub name : (creation_in s events n).name ≡ name_of (registry_at s before).creations r asked.origin
  pub share : share_of (creation_in s events n) r ≡ unwrap_or (share_in asked.origin) no_share

-- a context was picked for these members of a creation: one from 1 to the greatest that was in use at none of them
pub record WasFree (s : Setting) (events : List Event) (n : ℕ) (members : List ℕ) (c : ℕ) : Type 0 where
  pub rank : ℕ
  pub key : Key
  pub before : List Event
  pub after : List Event
  pub here : events ≡ before ++ Picks rank key (Some c) ∷ after
  pub place : key_place (registry_at s before) rank key ≡ n
  pub above : 1 ≤ c
  pub below : c ≤ s.contexts
  pub unused : list_any (λ m. in_use (registry_at s before).comms m c) members ≡ false

-- none was picked for them: each context from 1 to the greatest was in use at one of them
pub record NoneWasFree (s : Setting) (events : List Event) (n : ℕ) (members : List ℕ) : Type 0 where
  pub rank : ℕ
  pub key : Key
  pub before : List Event
  pub after : List Event
  pub here : events ≡ before ++ Picks rank key None ∷ after
  pub place : key_place (registry_at s before) rank key ≡ n
  pub used : (c : ℕ) → 1 ≤ c → c ≤ s.contexts → list_any (λ m. in_use (registry_at s before).comms m c) members ≡ true
