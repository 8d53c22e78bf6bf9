-- The registry between two entries. This project's own.
use Rattle.std.specs.Prelude.{◌≡◌, ℕ, true, length}
use Rattle.mpi_law.specs.declared.setting.Setting.{Setting}
use Rattle.mpi_law.specs.declared.setting.TheConstants.{THREADS}
use Rattle.mpi_law.specs.Registry.State.{Registry, part_of, is_between_calls}

-- all ranks of the setting are there, each with all its threads, and no thread is within its call
pub record AtRest (s : Setting) (g : Registry) : Type 0 where
  pub between : is_between_calls g ≡ true
  pub ranks : length g.ranks ≡ s.ranks
  pub threads : (r : ℕ) → length (part_of g r).threads ≡ THREADS
