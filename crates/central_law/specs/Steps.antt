-- When an entry is a step of the registry. This project's own.
use Rattle.std.specs.Prelude.{◌≡◌}
use Rattle.mpi_base.specs.declared.entries.Entry.{Entry}
use Rattle.mpi_law.specs.declared.setting.Setting.{Setting}
use Rattle.mpi_law.specs.Registry.State.{Registry}
use Rattle.mpi_law.specs.Registry.Runs.{IsRegistryRun, registry_after}
use Rattle.mpi_protocol.specs.Run.{entry_events}

-- the events of an entry are a registry run from a registry exactly where a test holds, and lead to a new registry then
pub record IsStepWhere (s : Setting) (g : Registry) (e : Entry) (Test : Type 0) (new : Registry) : Type 0 where
  pub tested : IsRegistryRun s g (entry_events e) → Test
  pub steps : Test → IsRegistryRun s g (entry_events e)
  pub after : Test → registry_after s g (entry_events e) ≡ new
