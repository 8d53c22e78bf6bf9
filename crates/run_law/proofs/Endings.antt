-- The topic of sessions, of one rank's own state: what a name is of, and what an open creation is of, is live, and the
-- session whose end a thread waits for is live no longer. So no creation of it is open, and none begins.
use Rattle.std.proofs.Common.{◌≡◌, ◌≤◌, ℕ, Bool, true, false, List}
use Rattle.std.specs.List.{AllByRecursion}
use Rattle.mpi_base.specs.MemberLists.{has_rank}
use Rattle.local_law.specs.Objects as bound
use Rattle.mpi_law.specs.Local.Objects.{Bound, NameRow, Local}
use Rattle.mpi_protocol.specs.declared.rows.Waits.{Waits}
use Rattle.mpi_protocol.specs.declared.rows.Waits.TheVariants.{Nothing, Creation, Uncoloured, Freeing, Ending, Receiving, Awaiting}
use Rattle.mpi_protocol.specs.declared.rows.ThreadRow.{ThreadRow}

-- a session is among these
abbrev pub is_live : List ℕ → ℕ → Bool
is_live live s = has_rank live s

abbrev pub BoundLives : List ℕ → Bound → Type 0
BoundLives live bound.Reserved = Unit {0}
BoundLives live (bound.Session s) = is_live live s ≡ true
BoundLives live (bound.Group ms s) = is_live live s ≡ true
BoundLives live (bound.Comm c s) = is_live live s ≡ true
BoundLives live (bound.Request n) = Unit {0}

-- what a thread waits for, among live sessions and where so many were opened
abbrev pub WaitLives : List ℕ → ℕ → Waits → Type 0
WaitLives live opened Nothing = Unit {0}
WaitLives live opened (Creation key target session) = is_live live session ≡ true
WaitLives live opened (Uncoloured key target session) = is_live live session ≡ true
WaitLives live opened (Freeing serial) = Unit {0}
WaitLives live opened (Ending session) = (is_live live session ≡ false) × (session ≤ opened)
WaitLives live opened (Receiving number) = Unit {0}
WaitLives live opened (Awaiting name) = Unit {0}

abbrev pub WaitsLive : List ℕ → ℕ → List ThreadRow → Type 0
WaitsLive live opened threads = AllByRecursion (λ (t : ThreadRow). WaitLives live opened t.waits) threads

pub record Endings (l : Local) (threads : List ThreadRow) : Type 0 where
  pub opened : AllByRecursion (λ (s : ℕ). s ≤ l.opened) l.live
  pub names : AllByRecursion (λ (row : NameRow). BoundLives l.live row.1) l.names
  pub waits : WaitsLive l.live l.opened threads
