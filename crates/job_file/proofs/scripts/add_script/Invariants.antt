use Rattle.std.proofs.Common.{◌≡◌, ◌≤◌, ◌+◌, length}
use Rattle.mpi_law.specs.ScriptLists.{total_of}
use Rattle.job_file.specs.Lines.{lines_of}
use Rattle.job_file.proofs.Spelled.{HasNoFault}
use Rattle.job_file.proofs.Added.{HasAdded}
use Rattle.job_file.proofs.scripts.add_script.Given as goal

abbrev pub invariant-loop-line : goal.invariant-loop-line
invariant-loop-line l = record {
  added : HasAdded (lines_of l.bytes) l.rank l.thread l.initial.scripts l.scripts (lines_of l.rest);
  ranks : l.scripts.ranks ≡ l.initial.scripts.ranks;
  total : total_of l.scripts + length (lines_of l.rest) ≤ total_of l.initial.scripts + length (lines_of l.bytes);
  good : HasNoFault (lines_of l.rest);
}

abbrev pub decreases-loop-line : goal.decreases-loop-line
decreases-loop-line l = length l.rest
