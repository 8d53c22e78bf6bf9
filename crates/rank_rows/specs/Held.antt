-- The receives of a rank, as contracts see them.
use Rattle.std.specs.Prelude.{ℕ, List}
use Rattle.mpi_protocol.specs.declared.rows.ReceiveRow.{ReceiveRow}

-- the receives that are not answered, in the order in which they were posted, and for how many more there is room
pub record Held : Type 0 where
  pub rows : List ReceiveRow
  pub spare : ℕ
