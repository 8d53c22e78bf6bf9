-- The journal of a job that was run to its end.
use Rattle.std.specs.Prelude.{◌≡◌, ℕ, true, List}
use Rattle.mpi_base.specs.declared.entries.Entry.{Entry}
use Rattle.mpi_law.specs.declared.setting.Setting.{Setting}
use Rattle.mpi_law.specs.ScriptLists.{AllScripts}
use Rattle.mpi_law.specs.Registry.State.{registry_opening}
use Rattle.mpi_law.specs.Registry.Runs.{IsRegistryRun}
use Rattle.mpi_law.specs.Closed.{is_closed}
use Rattle.mpi_protocol.specs.Run.{events_of}
use Rattle.job_file.specs.Jobs.{IsJob}
use Rattle.registry_law.specs.Facts.{registry_of}

-- the bytes are a job, and the journal is a run of the central registry of its setting, which leaves nothing to do but calls
-- beyond its scripts
pub record IsWhole (bytes : List ℕ) (journal : List Entry) : Type 0 where
  pub setting : Setting
  pub scripts : AllScripts
  pub job : IsJob bytes setting scripts
  pub run : IsRegistryRun setting (registry_opening setting) (events_of journal)
  pub closed : is_closed setting scripts (registry_of setting journal) ≡ true
