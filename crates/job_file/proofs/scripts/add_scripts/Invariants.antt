use Rattle.std.proofs.Common.{◌≤◌, ◌*◌}
use Rattle.mpi_law.specs.ScriptLists.{total_of}
use Rattle.toml.specs.View.{table_view}
use Rattle.job_file.specs.Threads.{script_at}
use Rattle.job_file.proofs.Added.{HasPlaced}
use Rattle.job_file.proofs.scripts.add_scripts.Given as goal

abbrev pub invariant-loop-place : goal.invariant-loop-place
invariant-loop-place l = record {
  placed : HasPlaced l.ranks (script_at (table_view l.table)) l.place l.scripts;
  total : total_of l.scripts ≤ 4096 * l.place;
}
