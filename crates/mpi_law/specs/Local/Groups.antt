-- Sessions, process sets and groups: what the operations on them do at their rank. Sections are those of MPI 4.0.
use Rattle.std.specs.Prelude.{ℕ, List, [], ◌∷◌, length, slice_get, Result, Ok}
use Rattle.mpi_base.specs.declared.groups.RankArg.{RankArg}
use Rattle.mpi_base.specs.declared.groups.RankOut.{RankOut}
use Rattle.mpi_base.specs.declared.replies.Reply.{Reply}
use Rattle.mpi_base.specs.declared.replies.Reply.TheVariants as reply
use Rattle.mpi_base.specs.declared.errors.ErrClass.{ErrClass}
use Rattle.mpi_base.specs.declared.errors.ErrClass.TheVariants as class
use Rattle.mpi_group.specs.Algebra.{place_of, translated, likeness_of}
use Rattle.pset_reg.specs.Sets.{names, members_in}
use Rattle.local_law.specs.Names.{bound_of}
use Rattle.mpi_law.specs.declared.setting.Setting.{Setting}
use Rattle.mpi_law.specs.declared.effects.Effect.{Effect}
use Rattle.mpi_law.specs.declared.effects.Effect.TheVariants.{Says, Opens, Groups, Ungroups, Ends}
use Rattle.mpi_law.specs.Local.Objects.{Local}
use Rattle.mpi_law.specs.Local.Effects.{Around}
use Rattle.mpi_law.specs.Local.Refusals.{and_then, refuse_if, as_arg, as_session, as_group, two_groups, free_target}

-- it is told at once, and changes nothing
abbrev pub tells : Reply → Result (Effect ℕ) ErrClass
tells said = Ok (Says said)

-- a group of a session is bound to the target, and told
abbrev pub binds_group : Local → List ℕ → ℕ → List ℕ → Result (Effect ℕ) ErrClass
binds_group l members session target =
    and_then (free_target l target) (λ q.
    Ok (Groups target members session))

-- Sessions and process sets

-- a session (11.3): its name, bound
abbrev pub call_session : Local → List ℕ → Result (Effect ℕ) ErrClass
call_session l target =
    and_then (free_target l target) (λ q.
    Ok (Opens target))

-- the end of a session (11.3.1); that it is refused while a creation of it is open here is this project's own
abbrev pub call_finalize : Around → Local → List ℕ → Result (Effect ℕ) ErrClass
call_finalize around l session =
    and_then (as_session (bound_of l.names session)) (λ s.
    and_then (refuse_if (around.engaged s) class.Busy) (λ q.
    Ok (Ends session s)))

-- the number of process sets (11.3.3)
abbrev pub call_psets : Setting → Local → List ℕ → Result (Effect ℕ) ErrClass
call_psets s l session = and_then (as_session (bound_of l.names session)) (λ from. tells (reply.Psets (length s.psets.sets)))

-- the name of a process set (11.3.3)
abbrev pub call_nth : Setting → Local → List ℕ → ℕ → Result (Effect ℕ) ErrClass
call_nth s l session number =
    and_then (as_session (bound_of l.names session)) (λ from.
    and_then (as_arg (slice_get (names s.psets.sets) number)) (λ name.
    tells (reply.NthName name)))

-- the size of a process set (11.3.3)
abbrev pub call_info : Setting → ℕ → Local → List ℕ → List ℕ → Result (Effect ℕ) ErrClass
call_info s rank l session set =
    and_then (as_session (bound_of l.names session)) (λ from.
    and_then (as_arg (members_in s.psets.sets rank set)) (λ members.
    tells (reply.Size0 (length members))))

-- the group of a process set (7.3.2)
abbrev pub call_pset : Setting → ℕ → Local → List ℕ → List ℕ → List ℕ → Result (Effect ℕ) ErrClass
call_pset s rank l session set target =
    and_then (as_session (bound_of l.names session)) (λ from.
    and_then (as_arg (members_in s.psets.sets rank set)) (λ members.
    binds_group l members from target))

-- Groups

-- a group of two (7.3.2), in their session
abbrev pub call_combined : (List ℕ → List ℕ → List ℕ) → Local → List ℕ → List ℕ → List ℕ → Result (Effect ℕ) ErrClass
call_combined combined l first second target =
    and_then (two_groups l first second) (λ both.
    binds_group l (combined both.0.0 both.1.0) both.0.1 target)

-- a group of some members of another (7.3.2), in its session
abbrev pub call_chosen : (List ℕ → Result (List ℕ) ErrClass) → Local → List ℕ → List ℕ → Result (Effect ℕ) ErrClass
call_chosen chosen l group target =
    and_then (as_group (bound_of l.names group)) (λ g.
    and_then (chosen g.0) (λ members.
    binds_group l members g.1 target))

-- the ranks of one group as ranks of another, in order (7.3.1); refused where one is
abbrev pub translated_all : List ℕ → List RankArg → List ℕ → Result (List RankOut) ErrClass
translated_all from [] to = Ok []
translated_all from (rank ∷ ranks) to =
    and_then (translated from rank to) (λ out.
    and_then (translated_all from ranks to) (λ outs.
    Ok (out ∷ outs)))

abbrev pub call_translate : Local → List ℕ → List RankArg → List ℕ → Result (Effect ℕ) ErrClass
call_translate l from ranks to =
    and_then (two_groups l from to) (λ both.
    and_then (translated_all both.0.0 ranks both.1.0) (λ outs.
    tells (reply.Ranks outs)))

-- how alike two groups are (7.3.1)
abbrev pub call_compare : Local → List ℕ → List ℕ → Result (Effect ℕ) ErrClass
call_compare l first second = and_then (two_groups l first second) (λ both. tells (reply.Like (likeness_of both.0.0 both.1.0)))

-- the size of a group, and the caller's rank in it (7.3.1)
abbrev pub call_size : Local → List ℕ → Result (Effect ℕ) ErrClass
call_size l group = and_then (as_group (bound_of l.names group)) (λ g. tells (reply.Size (length g.0)))

abbrev pub call_rank : ℕ → Local → List ℕ → Result (Effect ℕ) ErrClass
call_rank rank l group = and_then (as_group (bound_of l.names group)) (λ g. tells (reply.Rank (place_of g.0 rank)))

-- a group is freed (7.3.3): the name is bound to it no longer
abbrev pub call_gfree : Local → List ℕ → Result (Effect ℕ) ErrClass
call_gfree l group =
    and_then (as_group (bound_of l.names group)) (λ g.
    Ok (Ungroups group))
