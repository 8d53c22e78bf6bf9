-- The registry that a journal leaves.
use Rattle.std.specs.Prelude.{List}
use Rattle.mpi_base.specs.declared.entries.Entry.{Entry}
use Rattle.mpi_law.specs.declared.setting.Setting.{Setting}
use Rattle.mpi_law.specs.Registry.State.{Registry, registry_opening}
use Rattle.mpi_law.specs.Registry.Runs.{registry_after}
use Rattle.mpi_protocol.specs.Run.{events_of}

-- the registry that the events of a journal leave
abbrev pub registry_of : Setting → List Entry → Registry
registry_of s journal = registry_after s (registry_opening s) (events_of journal)
