use Rattle.std.proofs.Common.{◌≡◌, ◌≤◌, ◌+◌, ◌-◌, true}
use Rattle.std.specs.List.{list_all, range_with_len}
use Rattle.mpi_law.specs.Registry.Tests.{is_taken}
use Rattle.central_registry.proofs.tables.Tables.are_all_taken.Given as goal

abbrev pub invariant-loop-ctx : goal.invariant-loop-ctx
invariant-loop-ctx l = record {
  all : list_all (is_taken l.self.state l.key) (range_with_len 1 (l.ctx - 1)) ≡ true;
  first : 1 ≤ l.ctx;
  within : l.ctx ≤ l.ctx-end + 1;
}
