use Rattle.std.proofs.Common.{◌≡◌, ℕ, ◌<◌, ◌≤◌, true, length, map, take, get_or}
use Rattle.std.specs.List.{fold}
use Rattle.mpi_law.specs.Registry.State.{blank_comm}
use Rattle.mpi_law.specs.Registry.Calls.{is_kept}
use Rattle.central_comms.specs.Rows.{row_comm, row_room, with_freed_at}
use Rattle.central_comms.proofs.comms.free_kept.Given as goal

abbrev pub invariant-loop-place : goal.invariant-loop-place
invariant-loop-place l = record {
  done : map row_comm l.rows ≡ fold (with_freed_at l.rank l.session) (map row_comm l.initial.rows) (take l.place-index l.places);
  room : (k d : ℕ) → k < length l.places → is_kept l.rank l.session (get_or (map row_comm l.rows) (get_or l.places k d) blank_comm) ≡ true
      → 1 ≤ get_or (map row_room l.rows) (get_or l.places k d) 0;
}
