-- What contracts see of a journal.
use Rattle.std.specs.Prelude.{ℕ, List}
use Rattle.mpi_base.specs.declared.entries.Entry.{Entry}

-- the entries in the order in which they were written, and for how many more there is room
pub record Written : Type 0 where
  pub entries : List Entry
  pub spare : ℕ
