-- What a match, a pick and a give-back need, as tests that compute.
use Rattle.std.specs.Prelude.{ℕ, ◌==◌, ◌&&◌, not, Bool, false, length, nat_lt, Option, Some, None, is_none, bytes_eq}
use Rattle.std.specs.List.{list_any, list_all}
use Rattle.mpi_base.specs.MemberLists.{has_rank}
use Rattle.mpi_base.specs.declared.keys.Key.{Key}
use Rattle.mpi_law.specs.Registry.State.{Registry, Message, Receive, comm_at, creation_at}
use Rattle.mpi_law.specs.Registry.Creations.{all_called, class_of, outcome_for, has_open_under}
use Rattle.mpi_law.specs.Registry.Contexts.{in_use, is_exchange, key_place}
use Rattle.mpi_law.specs.Registry.Messages.{may_match, left_on, has_waiting}

-- a match
abbrev pub can_take : Registry → Option Receive → Option Message → Bool
can_take g None m = false
can_take g (Some x) None = false
can_take g (Some x) (Some m) = may_match g x m

-- a pick
abbrev pub can_pick : Registry → ℕ → Key → Bool
can_pick g r key =
    not (is_exchange key.kind)
    && (nat_lt (key_place g r key) (length g.creations)
    && (all_called (creation_at g (key_place g r key))
    && (has_rank key.members r
    && (bytes_eq (class_of (creation_at g (key_place g r key)) r) key.members
    && is_none (outcome_for (creation_at g (key_place g r key)) r)))))

abbrev pub is_taken : Registry → Key → ℕ → Bool
is_taken g key c = list_any (λ m. in_use g.comms m c) key.members

-- a give-back
abbrev pub can_return : Registry → ℕ → ℕ → Option ℕ → Bool
can_return g r dropped None = false
can_return g r dropped (Some p) =
    list_all (has_rank (comm_at g p).freed) (comm_at g p).members
    && (not (list_any (has_open_under g p) (comm_at g p).members) && (not (has_waiting g p r) && (dropped == left_on g p r)))
