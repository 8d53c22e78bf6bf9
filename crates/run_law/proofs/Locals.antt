-- The topic of names and sessions: what a rank binds, and what the registry binds for it. It reads the registry's
-- communicators and local objects, and of a rank its local objects and which contexts it knows.
use Rattle.std.proofs.Common.{◌≡◌, ◌≤◌, ℕ, ◌==◌, Bool, true, false, List, [], ◌∷◌, get_or, bytes_eq, Some}
use Rattle.std.specs.Option.{is_some}
use Rattle.mpi_base.specs.MemberLists.{has_rank}
use Rattle.local_law.specs.Objects as bound
use Rattle.mpi_law.specs.Local.Objects.{Bound, NameRow, Local}
use Rattle.mpi_law.specs.Registry.State.{Communicator, RankPart, blank_comm, blank_part, session_at}
use Rattle.mpi_law.specs.Registry.Contexts.{comm_of}
use Rattle.comm_law.specs.declared.rows.CommRow.{CommRow}
use Rattle.mpi_protocol.specs.Rank.{Rank}
use Rattle.run_law.proofs.Lists.{tally}
use Rattle.run_law.proofs.Rows.{row_in}

-- a name of a communicator: the context stands for the communicator at the place, which the rank knows and has not freed
pub record CommNamed (comms : List Communicator) (rows : List CommRow) (r c s p q : ℕ) : Type 0 where
  pub session : q ≡ s
  pub stands : comm_of comms r c ≡ Some p
  pub kept : has_rank (get_or comms p blank_comm).freed r ≡ false
  pub known : is_some (row_in rows c) ≡ true
  pub of_session : session_at (get_or comms p blank_comm) r ≡ s

abbrev pub BoundFits : List Communicator → List CommRow → ℕ → Bound → Bound → Type 0
BoundFits comms rows r bound.Reserved bound.Reserved = Unit {0}
BoundFits comms rows r (bound.Session s) (bound.Session q) = q ≡ s
BoundFits comms rows r (bound.Group ms s) (bound.Group ns q) = (ns ≡ ms) × (q ≡ s)
BoundFits comms rows r (bound.Comm c s) (bound.Comm p q) = CommNamed comms rows r c s p q
BoundFits comms rows r (bound.Request n) (bound.Request m) = m ≡ n
BoundFits comms rows r _ _ = ⊥

abbrev pub NamesFit : List Communicator → List CommRow → ℕ → List NameRow → List NameRow → Type 0
NamesFit comms rows r [] [] = Unit {0}
NamesFit comms rows r [] (y ∷ ys) = ⊥
NamesFit comms rows r (x ∷ xs) [] = ⊥
NamesFit comms rows r (x ∷ xs) (y ∷ ys) = (y.0 ≡ x.0) × BoundFits comms rows r x.1 y.1 × NamesFit comms rows r xs ys

-- whether a name is bound to the communicator with this context, or is this one
abbrev pub is_comm : ℕ → Bound → Bool
is_comm c bound.Reserved = false
is_comm c (bound.Session s) = false
is_comm c (bound.Group ms s) = false
is_comm c (bound.Comm d s) = d == c
is_comm c (bound.Request n) = false

abbrev pub binds : ℕ → NameRow → Bool
binds c row = is_comm c row.1

abbrev pub is_name : List ℕ → NameRow → Bool
is_name name row = bytes_eq row.0 name

-- one rank; each name is bound once, and each communicator by one name
pub record LocalFits (comms : List Communicator) (rows : List CommRow) (r : ℕ) (l m : Local) : Type 0 where
  pub live : m.live ≡ l.live
  pub opened : m.opened ≡ l.opened
  pub names : NamesFit comms rows r l.names m.names
  pub each : (n : List ℕ) → tally (is_name n) l.names ≤ 1
  pub comms_once : (c : ℕ) → tally (binds c) l.names ≤ 1

abbrev pub Locals : List Communicator → List RankPart → (ℕ → Rank) → Type 0
Locals comms parts at = (r : ℕ) → LocalFits comms (at r).comms.rows r (at r).local (get_or parts r blank_part).local
