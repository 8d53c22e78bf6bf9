-- The rows in which communicators are kept. This project's own.
use Rattle.std.specs.Prelude.{ℕ, ◌-◌, ◌&&◌, not, Bool, if◌then◌else◌, List, get_or, set, vec_len, vec_capacity}
use Rattle.std.specs.List.{list_all}
use Rattle.mpi_base.specs.MemberLists.{has_rank}
use Rattle.mpi_law.specs.Registry.State.{Communicator, blank_comm}
use Rattle.mpi_law.specs.Registry.Calls.{with_freed, is_kept}
use Rattle.central_comms.specs.declared.rows.CommRow.{CommRow}

-- the communicator of a row
abbrev pub row_comm : CommRow → Communicator
row_comm m = record { ctx = m.ctx; members = m.members; sessions = m.sessions.items; freed = m.freed.items; returned = m.returned.items }

-- some member has not freed the communicator, or not given it back
abbrev pub is_held : Communicator → Bool
is_held m = not (list_all (has_rank m.freed) m.members && list_all (has_rank m.returned) m.members)

-- for how many more members that free the communicator a row has room
abbrev pub row_room : CommRow → ℕ
row_room m = vec_capacity m.freed - vec_len m.freed

-- what becomes of a communicator where a rank frees those of one of its sessions
abbrev pub freed_if_kept : ℕ → ℕ → Communicator → Communicator
freed_if_kept r s m = if is_kept r s m then with_freed r m else m

-- the same at one place of a list
abbrev pub with_freed_at : ℕ → ℕ → List Communicator → ℕ → List Communicator
with_freed_at r s comms p = set comms p (freed_if_kept r s (get_or comms p blank_comm))
