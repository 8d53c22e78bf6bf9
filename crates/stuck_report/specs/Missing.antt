-- Which members of a creation from a group have not called it, as the end of a journal tells it. This project's own.
use Rattle.std.specs.Prelude.{ℕ, ◌==◌, ◌&&◌, not, Bool, false, if◌then◌else◌, bytes_eq, List, reverse, find, Option, Some, None, is_some, option_map}
use Rattle.std.specs.List.{list_any, filter, after_first, range_with_len}
use Rattle.std.specs.Option.{option_and_then}
use Rattle.mpi_base.specs.declared.ops.Op.{Op}
use Rattle.mpi_base.specs.declared.ops.Op.TheVariants.{Pset, Union, Intersect, Difference, Incl, Excl, RangeIncl, RangeExcl, Create, CreateGroup, Group}
use Rattle.mpi_base.specs.declared.replies.Reply.{Reply}
use Rattle.mpi_base.specs.declared.replies.Reply.TheVariants as reply
use Rattle.mpi_base.specs.declared.entries.Act.{Act}
use Rattle.mpi_base.specs.declared.entries.Entry.{Entry}
use Rattle.mpi_law.specs.declared.setting.TheConstants.{THREADS}
use Rattle.stuck_report.specs.Waits.{is_entry_of, called, waits_in}

abbrev pub passes : {A : Type 0} → (A → Bool) → Option A → Bool
passes p None = false
passes p (Some x) = p x

-- The groups that a rank has bound to its names

-- the name that an operation binds to a group
abbrev pub group_target : Op → Option (List ℕ)
group_target (Pset session pset target) = Some target
group_target (Union first second target) = Some target
group_target (Intersect first second target) = Some target
group_target (Difference first second target) = Some target
group_target (Incl group ranks target) = Some target
group_target (Excl group ranks target) = Some target
group_target (RangeIncl group ranges target) = Some target
group_target (RangeExcl group ranges target) = Some target
group_target (Group comm target) = Some target
group_target _ = None

abbrev pub name_bound : Act → Option (List ℕ)
name_bound act = option_and_then group_target (called act)

-- the members of the group that a reply tells
abbrev pub group_told : Option Reply → Option (List ℕ)
group_told (Some (reply.Group members)) = Some members
group_told _ = None

-- whether an entry is a call at a rank that binds a name to a group, where it is not refused
abbrev pub is_binding : ℕ → List ℕ → Entry → Bool
is_binding r name e = (e.choice.rank == r) && passes (bytes_eq name) (name_bound e.choice.act)

-- the members of the group that an entry binds to a name at a rank
abbrev pub bound_by : ℕ → List ℕ → Entry → Option (List ℕ)
bound_by r name e = if is_binding r name e then group_told e.reply else None

-- the members of the group that was bound last, of entries in the order from the latest back
abbrev pub last_bound : List Entry → ℕ → List ℕ → Option (List ℕ)
last_bound es r name = option_and_then (bound_by r name) (find (λ e. is_some (bound_by r name e)) es)

-- Creations from a group

-- the entries before the last one of a thread, from the latest back; none where the thread has no entry
abbrev pub before_last : List Entry → ℕ → ℕ → List Entry
before_last es r t = after_first (is_entry_of r t) (reverse es)

-- the name of the group from which an operation makes a communicator
abbrev pub creation_group : Op → Option (List ℕ)
creation_group (Create group tag target) = Some group
creation_group (CreateGroup comm group tag target) = Some group
creation_group _ = None

-- the members of the creation from a group in which a thread waits: those of the group that its rank bound to the name last, before the call
abbrev pub members_waited : List Entry → ℕ → ℕ → Option (List ℕ)
members_waited es r t = option_and_then (last_bound (before_last es r t) r) (option_and_then creation_group (waits_in es r t))

-- whether both operations are creations of one kind with one tag
abbrev pub is_alike : Op → Op → Bool
is_alike (Create group tag target) (Create group' tag' target') = bytes_eq tag tag'
is_alike (CreateGroup comm group tag target) (CreateGroup comm' group' tag' target') = tag == tag'
is_alike _ _ = false

-- whether a thread waits in a creation like this one, with the same members
abbrev pub is_calling : List Entry → Op → List ℕ → ℕ → ℕ → Bool
is_calling es op members r t = passes (is_alike op) (waits_in es r t) && passes (bytes_eq members) (members_waited es r t)

abbrev pub has_called : List Entry → Op → List ℕ → ℕ → Bool
has_called es op members r = list_any (is_calling es op members r) (range_with_len 0 THREADS)

-- the members of a creation that have not called it
abbrev pub not_calling : List Entry → Op → List ℕ → List ℕ
not_calling es op members = filter (λ r. not (has_called es op members r)) members

-- the same of the creation in which a thread waits; None where it waits in none from a group, or the journal does not tell the members
abbrev pub missing : List Entry → ℕ → ℕ → Option (List ℕ)
missing es r t = option_and_then (λ op. option_map (not_calling es op) (members_waited es r t)) (waits_in es r t)
