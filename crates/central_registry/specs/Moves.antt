-- What becomes of a registry that is to move where it may. This project's own.
use Rattle.std.specs.Prelude.{◌≡◌, ℕ, Bool, true, false, List, take}
use Rattle.mpi_base.specs.declared.entries.Entry.{Entry}
use Rattle.mpi_law.specs.declared.setting.Setting.{Setting}
use Rattle.mpi_law.specs.Registry.State.{Registry}
use Rattle.mpi_law.specs.Registry.Runs.{IsRegistryRun, registry_after}
use Rattle.mpi_protocol.specs.Run.{events_of}

-- it has moved exactly where it may, and to this one then; else it is as it was
pub record Moves (May : Type 0) (old after : Registry) (moved : Bool) (new : Registry) : Type 0 where
  pub may : moved ≡ true → May
  pub when : May → moved ≡ true
  pub moves : moved ≡ true → new ≡ after
  pub stays : moved ≡ false → new ≡ old

-- it has moved by so many of the entries, the first ones, and each of them is a step
pub record HasMoved (s : Setting) (old : Registry) (entries : List Entry) (new : Registry) : Type 0 where
  pub count : ℕ
  pub run : IsRegistryRun s old (events_of (take count entries))
  pub state : new ≡ registry_after s old (events_of (take count entries))
