use Rattle.std.proofs.Common.{◌≡◌, ◌≤◌, ◌+◌, drop}
use Rattle.job_file.specs.Jobs.{place_behind}
use Rattle.job_file.proofs.place.behind.Given as goal

abbrev pub invariant-bytes : goal.invariant-bytes
invariant-bytes l = record {
  same : place_behind (l.line, l.column) (drop l.byte-index l.front) ≡ place_behind (1, 1) l.front;
  line : l.line ≤ l.byte-index + 1;
  column : l.column ≤ l.byte-index + 1;
}
