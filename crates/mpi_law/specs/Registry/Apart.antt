-- Live communicators that share a rank have different contexts: a fact of registry runs.
use Rattle.std.specs.Prelude.{◌≡◌, ℕ, ◌<◌, true, length}
use Rattle.mpi_law.specs.Registry.State.{Registry, comm_at}
use Rattle.mpi_law.specs.Registry.Contexts.{is_live_at}

-- two communicators that are live at one rank have different contexts
abbrev pub LiveApart : Registry → Type 0
LiveApart g =
    (p q r : ℕ) → p < length g.comms → q < length g.comms → is_live_at (comm_at g p) r ≡ true → is_live_at (comm_at g q) r ≡ true
    → (comm_at g p).ctx ≡ (comm_at g q).ctx → p ≡ q
