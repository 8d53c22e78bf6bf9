-- What the drain does to a world.
use Rattle.std.specs.Prelude.{◌≡◌, List, ◌++◌}
use Rattle.mpi_base.specs.declared.entries.Entry.{Entry}
use Rattle.mpi_law.specs.ScriptLists.{AllScripts}
use Rattle.mpi_protocol.specs.Order.{IsDrained}
use Rattle.mpi_protocol.specs.Run.{world_after}
use Rattle.world_core.specs.Held.{Held}

-- entries are added, each of the first choice in the state that the ones before it leave
pub record Goes (scripts : AllScripts) (old new : Held) : Type 0 where
  pub more : List Entry
  pub entries : new.entries ≡ old.entries ++ more
  pub drained : IsDrained scripts old.world more
  pub world : new.world ≡ world_after old.world more
