-- Creations and communicators: what the operations on them do at their rank. Sections are those of MPI 4.0.
use Rattle.std.specs.Prelude.{ℕ, ℤ, negsuc, pos, ◌==◌, ◌&&◌, ◌||◌, not, Bool, true, false, if◌then◌else◌, List, [], ◌∷◌, length, Option, Some, None, Result, Ok}
use Rattle.std.specs.List.{list_all}
use Rattle.mpi_base.specs.MemberLists.{has_rank}
use Rattle.mpi_base.specs.declared.groups.Likeness.{Likeness}
use Rattle.mpi_base.specs.declared.groups.Likeness.TheVariants.{Ident, Congruent, Similar, Unequal}
use Rattle.mpi_base.specs.declared.replies.Reply.TheVariants as reply
use Rattle.mpi_base.specs.declared.errors.ErrClass.{ErrClass}
use Rattle.mpi_base.specs.declared.errors.ErrClass.TheVariants as class
use Rattle.mpi_group.specs.Algebra.{place_of, likeness_of}
use Rattle.local_law.specs.Names.{bound_of}
use Rattle.mpi_law.specs.declared.effects.Origin.{Origin}
use Rattle.mpi_law.specs.declared.effects.Origin.TheVariants.{Grouped, Duplicated, Divided, GroupedOn}
use Rattle.mpi_law.specs.declared.effects.Effect.{Effect}
use Rattle.mpi_law.specs.declared.effects.Effect.TheVariants.{Says, Joins, Frees}
use Rattle.mpi_law.specs.Local.Objects.{Local}
use Rattle.mpi_law.specs.Local.Effects.{Around}
use Rattle.mpi_law.specs.Local.Refusals.{and_then, refuse_if, as_group, as_comm, two_comms, comm_and_group, good_tag, free_target}
use Rattle.mpi_law.specs.Local.Groups.{tells, binds_group}

-- Creations

-- a creation is asked for
abbrev pub ask : Origin ℕ → List ℕ → ℕ → Effect ℕ
ask origin target session = Joins (record { origin = origin; target = target; session = session })

-- a communicator from a group (7.4.2): the empty group gives none
abbrev pub begin_creation : List ℕ → ℕ → List ℕ → List ℕ → Effect ℕ
begin_creation [] session tag target = Says reply.Null
begin_creation (m ∷ ms) session tag target = ask (Grouped (m ∷ ms) tag) target session

-- whether a group that is not empty lacks the caller, who is then refused (7.4.2)
abbrev pub lacks : List ℕ → ℕ → Bool
lacks members rank = not (length members == 0) && not (has_rank members rank)

-- that a creation is refused whose group and tag are those of one that is open here is this project's own
abbrev pub call_create : ℕ → Around → Local → List ℕ → List ℕ → List ℕ → Result (Effect ℕ) ErrClass
call_create rank around l group tag target =
    and_then (as_group (bound_of l.names group)) (λ g.
    and_then (refuse_if (lacks g.0 rank) class.Group) (λ q.
    and_then (free_target l target) (λ q'.
    and_then (refuse_if (around.busy (Grouped g.0 tag)) class.Busy) (λ q''.
    Ok (begin_creation g.0 g.1 tag target)))))

-- a duplicate of a communicator (7.4.2), in the session of the communicator
abbrev pub call_dup : Local → List ℕ → List ℕ → Result (Effect ℕ) ErrClass
call_dup l comm target =
    and_then (as_comm (bound_of l.names comm)) (λ c.
    and_then (free_target l target) (λ q.
    Ok (ask (Duplicated c.0) target c.1)))

abbrev pub is_negative : Option ℤ → Bool
is_negative None = false
is_negative (Some (pos n)) = false
is_negative (Some (negsuc n)) = true

-- a communicator of the members of a communicator with the caller's colour (7.4.2), in its session; a colour is not negative
abbrev pub call_split : Local → List ℕ → Option ℤ → ℤ → List ℕ → Result (Effect ℕ) ErrClass
call_split l comm colour key target =
    and_then (as_comm (bound_of l.names comm)) (λ c.
    and_then (refuse_if (is_negative colour) class.Arg) (λ q.
    and_then (free_target l target) (λ q'.
    Ok (ask (Divided c.0 (record { colour = colour; key = key })) target c.1))))

-- whether a group has a process outside a communicator, or lacks the caller
abbrev pub is_astray : List ℕ → List ℕ → ℕ → Bool
is_astray members group rank = not (has_rank group rank) || not (list_all (has_rank members) group)

-- a communicator of a group of members of a communicator (7.4.2, MPI_Comm_create_group), in its session. That a caller outside
-- the group is refused, and that a creation is refused whose communicator, tag and group are those of one that is open
-- here, are this project's own
abbrev pub call_create_group : ℕ → Around → Local → List ℕ → List ℕ → ℕ → List ℕ → Result (Effect ℕ) ErrClass
call_create_group rank around l comm group tag target =
    and_then (comm_and_group l comm group) (λ both.
    and_then (good_tag tag) (λ q.
    and_then (refuse_if (is_astray (around.members both.0.0) both.1.0 rank) class.Group) (λ q'.
    and_then (free_target l target) (λ q''.
    and_then (refuse_if (around.busy (GroupedOn both.0.0 tag both.1.0)) class.Busy) (λ q'''.
    Ok (ask (GroupedOn both.0.0 tag both.1.0) target both.0.1))))))

-- Communicators

-- the group of a communicator (7.3.2), in its session
abbrev pub call_group : Around → Local → List ℕ → List ℕ → Result (Effect ℕ) ErrClass
call_group around l comm target = and_then (as_comm (bound_of l.names comm)) (λ c. binds_group l (around.members c.0) c.1 target)

-- two communicators whose groups are identical are congruent (7.4.1)
abbrev pub of_comms : Likeness → Likeness
of_comms Ident = Congruent
of_comms Congruent = Congruent
of_comms Similar = Similar
of_comms Unequal = Unequal

-- how alike two communicators are (7.4.1): identical is one with itself alone
abbrev pub comm_likeness : Around → ℕ → ℕ → Likeness
comm_likeness around c d = if c == d then Ident else of_comms (likeness_of (around.members c) (around.members d))

abbrev pub call_ccompare : Around → Local → List ℕ → List ℕ → Result (Effect ℕ) ErrClass
call_ccompare around l first second = and_then (two_comms l first second) (λ both. tells (reply.Like (comm_likeness around both.0.0 both.1.0)))

-- the size of a communicator, and the caller's rank in it (7.4.1)
abbrev pub call_csize : Around → Local → List ℕ → Result (Effect ℕ) ErrClass
call_csize around l comm = and_then (as_comm (bound_of l.names comm)) (λ c. tells (reply.Size (length (around.members c.0))))

abbrev pub call_crank : ℕ → Around → Local → List ℕ → Result (Effect ℕ) ErrClass
call_crank rank around l comm = and_then (as_comm (bound_of l.names comm)) (λ c. tells (reply.Rank (place_of (around.members c.0) rank)))

-- a communicator is freed (7.4.3): the name is bound to it no longer
abbrev pub call_free : Local → List ℕ → Result (Effect ℕ) ErrClass
call_free l comm =
    and_then (as_comm (bound_of l.names comm)) (λ c.
    Ok (Frees comm c.0))
