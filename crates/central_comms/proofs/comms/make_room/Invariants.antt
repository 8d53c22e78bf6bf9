use Rattle.std.proofs.Common.{◌≡◌, ℕ, ◌<◌, ◌≤◌, map, get_or}
use Rattle.central_comms.specs.Rows.{row_comm, row_room}
use Rattle.central_comms.proofs.comms.make_room.Given as goal

abbrev pub invariant-loop-place : goal.invariant-loop-place
invariant-loop-place l = record {
  same : map row_comm l.rows ≡ map row_comm l.initial.rows;
  made : (k d : ℕ) → k < l.place-index → 1 ≤ get_or (map row_room l.rows) (get_or l.places k d) 0;
}
