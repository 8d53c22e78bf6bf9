-- Creations: their names, who has called them, what was picked, and where one is open. Sections are those of MPI 4.0.
use Rattle.std.specs.Prelude.{ℕ, suc, pos, ◌==◌, ◌&&◌, ◌||◌, not, Bool, true, false, if◌then◌else◌, List, [], ◌∷◌, ◌++◌, length, filter, find, ℤ, Option, Some, None, is_none, option_map, unwrap_or, bytes_eq}
use Rattle.std.specs.List.{list_any, list_all}
use Rattle.mpi_base.specs.MemberLists.{has_rank}
use Rattle.mpi_base.specs.declared.shares.Shared1.{Shared1}
use Rattle.mpi_law.specs.declared.effects.Origin.{Origin}
use Rattle.mpi_law.specs.declared.effects.Origin.TheVariants.{Grouped, Duplicated, Divided, GroupedOn}
use Rattle.mpi_law.specs.Splits.{split_class}
use Rattle.mpi_law.specs.Registry.State.{Registry, Caller, Outcome, Pick, Creation, CreationName, Group_and_tag, Nth_dup, Nth_split, Group_on, created_by, part_of, comm_at, creation_at}

-- Names

abbrev pub same_name : CreationName → CreationName → Bool
same_name (Group_and_tag g t) (Group_and_tag h u) = bytes_eq g h && bytes_eq t u
same_name (Group_and_tag g t) (Nth_dup q m) = false
same_name (Group_and_tag g t) (Nth_split q m) = false
same_name (Group_and_tag g t) (Group_on q u h) = false
same_name (Nth_dup p n) (Group_and_tag h u) = false
same_name (Nth_dup p n) (Nth_dup q m) = (p == q) && (n == m)
same_name (Nth_dup p n) (Nth_split q m) = false
same_name (Nth_dup p n) (Group_on q u h) = false
same_name (Nth_split p n) (Group_and_tag h u) = false
same_name (Nth_split p n) (Nth_dup q m) = false
same_name (Nth_split p n) (Nth_split q m) = (p == q) && (n == m)
same_name (Nth_split p n) (Group_on q u h) = false
same_name (Group_on p t g) (Group_and_tag h u) = false
same_name (Group_on p t g) (Nth_dup q m) = false
same_name (Group_on p t g) (Nth_split q m) = false
same_name (Group_on p t g) (Group_on q u h) = (p == q) && ((t == u) && bytes_eq g h)

abbrev pub is_split : CreationName → Bool
is_split (Group_and_tag group tag) = false
is_split (Nth_dup p n) = false
is_split (Nth_split p n) = true
is_split (Group_on p tag group) = false

-- the communicator that a creation is under
abbrev pub parent_of : CreationName → Option ℕ
parent_of (Group_and_tag group tag) = None
parent_of (Nth_dup p n) = Some p
parent_of (Nth_split p n) = Some p
parent_of (Group_on p tag group) = Some p

abbrev pub is_place : ℕ → Option ℕ → Bool
is_place p None = false
is_place p (Some q) = q == p

-- whether a creation is under the communicator at a place
abbrev pub is_under : ℕ → CreationName → Bool
is_under p name = is_place p (parent_of name)

-- whether a creation counts at the communicator at a place: calls of dup and split are matched by their order (6.14), those
-- of a group by group and tag
abbrev pub is_counted_on : ℕ → CreationName → Bool
is_counted_on p (Group_and_tag group tag) = false
is_counted_on p (Nth_dup q n) = q == p
is_counted_on p (Nth_split q n) = q == p
is_counted_on p (Group_on q tag group) = false

-- Callers

abbrev pub blank_caller : Caller
blank_caller = record { rank = 0; thread = 0; target = []; session = 0; share = None }

abbrev pub caller_of : List Caller → ℕ → Caller
caller_of callers r = unwrap_or (find (λ k. k.rank == r) callers) blank_caller

-- whether a rank has called a creation, and whether all have
abbrev pub has_called : Creation → ℕ → Bool
has_called c r = list_any (λ k. k.rank == r) c.callers

abbrev pub all_called : Creation → Bool
all_called c = list_all (has_called c) c.group

-- how many calls of dup and split on a communicator a rank has made
abbrev pub called_on : List Creation → ℕ → ℕ → ℕ
called_on creations p r = length (filter (λ c. is_counted_on p c.name && has_called c r) creations)

-- Classes

abbrev pub no_share : Shared1
no_share = record { colour = None; key = pos 0 }

-- the share with which a rank has called
abbrev pub share_of : Creation → ℕ → Shared1
share_of c r = unwrap_or (caller_of c.callers r).share no_share

-- whether a rank has called a split with an undefined colour (7.4.2)
abbrev pub is_uncoloured : Creation → ℕ → Bool
is_uncoloured c r = is_split c.name && is_none (share_of c r).colour

abbrev pub class_by : Creation → Option ℤ → List ℕ
class_by c None = []
class_by c (Some colour) = split_class (share_of c) c.group colour

-- the members of the communicator that a rank gets: all of them, and of a split the class of the rank's colour
abbrev pub class_of : Creation → ℕ → List ℕ
class_of c r = if is_split c.name then class_by c (share_of c r).colour else c.group

-- Picks

-- what was picked for a rank
abbrev pub outcome_for : Creation → ℕ → Option Outcome
outcome_for c r = option_map (λ k. k.outcome) (find (λ k. has_rank k.members r) c.picks)

abbrev pub is_nil : List Pick → Bool
is_nil [] = true
is_nil (k ∷ ks) = false

-- a creation is picked once it has its outcome, and a split once all have called it
abbrev pub is_picked : Creation → Bool
is_picked c = if is_split c.name then all_called c else not (is_nil c.picks)

-- the place of the first creation that passes a test, the length where there is none
abbrev pub place_where : (Creation → Bool) → List Creation → ℕ
place_where test [] = 0
place_where test (c ∷ cs) = if test c then 0 else suc (place_where test cs)

-- the creation of a name that a call joins is not picked yet
abbrev pub is_joinable : CreationName → Creation → Bool
is_joinable name c = same_name c.name name && not (is_picked c)

abbrev pub with_caller : Creation → Caller → Creation
with_caller c k = record c { callers = c.callers ++ k ∷ [] }

-- a call joins the one creation of its name that is not picked yet, or opens a new one
abbrev pub join : List Creation → CreationName → List ℕ → Caller → List Creation
join [] name group caller = record { name = name; group = group; callers = caller ∷ []; picks = []; answered = [] } ∷ []
join (c ∷ cs) name group caller = if is_joinable name c then with_caller c caller ∷ cs else c ∷ join cs name group caller

-- the creation of a name that a pick speaks of has no outcome yet, but for a split, of which each class has its own
abbrev pub is_pickable : CreationName → Creation → Bool
is_pickable name c = same_name c.name name && (is_split c.name || is_nil c.picks)

abbrev pub with_pick : Creation → Pick → Creation
with_pick c k = record c { picks = c.picks ++ k ∷ [] }

abbrev pub with_answer : Creation → ℕ → Creation
with_answer c r = record c { answered = c.answered ++ r ∷ [] }

-- Open creations

-- the creation that a thread waits for passes a test
abbrev pub creates : Registry → (Creation → Bool) → Option ℕ → Bool
creates g test None = false
creates g test (Some n) = test (creation_at g n)

-- a creation is open at a rank from its call to its answer: while a thread of the rank waits for it
abbrev pub has_open : Registry → ℕ → (Creation → Bool) → Bool
has_open g r test = list_any (λ t. creates g test (created_by t.wait)) (part_of g r).threads

-- a creation of this name is open at a rank, one under the communicator at a place, one of a session of the rank
abbrev pub is_open : Registry → ℕ → CreationName → Bool
is_open g r name = has_open g r (λ c. same_name c.name name)

abbrev pub has_open_under : Registry → ℕ → ℕ → Bool
has_open_under g p r = has_open g r (λ c. is_under p c.name)

abbrev pub has_open_of : Registry → ℕ → ℕ → Bool
has_open_of g r s = has_open g r (λ c. (caller_of c.callers r).session == s)

-- What a call creates

-- the name of a creation that a rank calls now
abbrev pub name_of : List Creation → ℕ → Origin ℕ → CreationName
name_of creations r (Grouped group tag) = Group_and_tag group tag
name_of creations r (Duplicated p) = Nth_dup p (called_on creations p r)
name_of creations r (Divided p share) = Nth_split p (called_on creations p r)
name_of creations r (GroupedOn p tag group) = Group_on p tag group

-- those that call it: the group, or the members of the communicator that is duplicated or split (7.4.2)
abbrev pub group_of : Registry → Origin ℕ → List ℕ
group_of g (Grouped group tag) = group
group_of g (Duplicated p) = (comm_at g p).members
group_of g (Divided p share) = (comm_at g p).members
group_of g (GroupedOn p tag group) = group

-- the share that a caller of a split has
abbrev pub share_in : Origin ℕ → Option Shared1
share_in (Grouped group tag) = None
share_in (Duplicated p) = None
share_in (Divided p share) = Some share
share_in (GroupedOn p tag group) = None
