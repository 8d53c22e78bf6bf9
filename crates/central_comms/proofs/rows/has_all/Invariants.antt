use Rattle.std.proofs.Common.{◌≡◌, true, take}
use Rattle.std.specs.List.{list_all}
use Rattle.mpi_base.specs.MemberLists.{has_rank}
use Rattle.central_comms.proofs.rows.has_all.Given as goal

abbrev pub invariant-loop-place : goal.invariant-loop-place
invariant-loop-place l = list_all (has_rank l.ranks) (take l.place l.members) ≡ true
