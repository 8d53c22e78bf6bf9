-- What a running registry holds. This project's own.
use Rattle.std.specs.Prelude.{◌≡◌, ℕ, List}
use Rattle.mpi_base.specs.declared.entries.Entry.{Entry}
use Rattle.mpi_law.specs.declared.setting.Setting.{Setting}
use Rattle.mpi_law.specs.Settings.{IsSetting}
use Rattle.mpi_law.specs.Registry.State.{Registry, registry_opening}
use Rattle.mpi_law.specs.Registry.Runs.{IsRegistryRun, registry_after}
use Rattle.mpi_protocol.specs.Run.{events_of}

-- a setting, and the registry as the events so far have left it
pub record Held : Type 0 where
  pub setting : Setting
  pub state : Registry

-- the registry, and for how many names and sessions more each rank has room
pub record TablesHeld : Type 0 where
  pub state : Registry
  pub spares : List ℕ

-- the entries of some journal lead from the opening to a registry, each of them allowed
pub record IsReached (s : Setting) (g : Registry) : Type 0 where
  pub journal : List Entry
  pub run : IsRegistryRun s (registry_opening s) (events_of journal)
  pub end : registry_after s (registry_opening s) (events_of journal) ≡ g

-- a registry of a setting within the limits that is reached
pub record IsRunning (s : Setting) (g : Registry) : Type 0 where
  pub setting : IsSetting s
  pub reached : IsReached s g
