-- The order of the members of one colour in a split (MPI 4.0, 7.4.2).
use Rattle.std.specs.Prelude.{ℕ, int_lt, ◌&&◌, ◌||◌, Bool, List, nat_lt}
use Rattle.std.specs.Ordering.{int_eq}
use Rattle.mpi_base.specs.declared.shares.Shared1.{Shared1}
use Rattle.mpi_law.specs.Registry.State.{place_in}

-- whether a member comes before another: by its key, and where keys are equal by its rank in the communicator that is split
abbrev pub comes_before : (ℕ → Shared1) → List ℕ → ℕ → ℕ → Bool
comes_before share members a b =
    int_lt (share a).key (share b).key || (int_eq (share a).key (share b).key && nat_lt (place_in members a) (place_in members b))
