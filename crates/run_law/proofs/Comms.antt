-- The topic of communicators: what a rank knows of a communicator that is live there; one that it does not know yet was
-- picked by the key that owns its mask. It reads the registry's communicators, creations and threads, and of a rank its
-- communicators, its threads, its owner, and what is due to it.
use Rattle.std.proofs.Common.{◌≡◌, ◌≤◌, ◌<◌, ℕ, ◌==◌, ◌&&◌, nat_le, not, Bool, true, false, List, get_or, length, Option, Some, None}
use Rattle.std.specs.Option.{is_some}
use Rattle.std.specs.List.{list_any}
use Rattle.mpi_base.specs.MemberLists.{has_rank}
use Rattle.mpi_base.specs.declared.keys.Key.{Key}
use Rattle.mpi_law.specs.declared.setting.Setting.{Setting}
use Rattle.mpi_law.specs.Registry.State as reg
use Rattle.mpi_law.specs.Registry.State.{Communicator, Creation, RankPart, ThreadPart, blank_part, session_at}
use Rattle.mpi_law.specs.Registry.Creations.{called_on}
use Rattle.mpi_law.specs.Registry.Contexts.{comm_of}
use Rattle.agree_law.specs.declared.rows.Verdict.{Verdict}
use Rattle.agree_law.specs.declared.rows.Verdict.TheVariants.{Context}
use Rattle.agree_law.specs.Rule.{is_key}
use Rattle.comm_law.specs.declared.rows.CommRow.{CommRow}
use Rattle.comm_law.specs.declared.rows.CommStage.{CommStage}
use Rattle.comm_law.specs.declared.rows.CommStage.TheVariants.{Live, Freed, Left}
use Rattle.mpi_protocol.specs.declared.rows.Waits.TheVariants.{Freeing}
use Rattle.mpi_protocol.specs.declared.rows.ThreadRow.{ThreadRow}
use Rattle.mpi_protocol.specs.Rank.{Rank}
use Rattle.run_law.proofs.Lists.{tally, one}
use Rattle.run_law.proofs.Rows.{row_in}
use Rattle.due_law.specs.Dues.{Dues}
use Rattle.run_law.proofs.Threads.{row_of, part_row}
use Rattle.run_law.proofs.Creations.{comm_in}

abbrev pub is_live : CommStage → Bool
is_live Live = true
is_live Freed = false
is_live Left = false

-- a communicator that was picked and whose verdict the rank has not taken
pub record DueComm (creations : List Creation) (r : ℕ) (owner : Option Key) (due : Key → Option Verdict) (c p : ℕ) : Type 0 where
  pub key : Key
  pub owns : is_key owner key ≡ true
  pub said : due key ≡ Some (Context c)
  pub calls : called_on creations p r ≡ 0

-- a communicator that the rank knows
pub record KnownComm (comms : List Communicator) (creations : List Creation) (r : ℕ) (m : CommRow) (p : ℕ) : Type 0 where
  pub members : m.members ≡ (comm_in comms p).members
  pub session : m.session ≡ session_at (comm_in comms p) r
  pub calls : m.calls ≡ called_on creations p r
  pub stage : is_live m.stage ≡ not (has_rank (comm_in comms p).freed r)

abbrev pub CommFits : List Communicator → List Creation → ℕ → Option Key → (Key → Option Verdict) → ℕ → Option CommRow → Option ℕ → Type 0
CommFits comms creations r owner due c None None = Unit {0}
CommFits comms creations r owner due c (Some m) None = ⊥
CommFits comms creations r owner due c None (Some p) = DueComm creations r owner due c p
CommFits comms creations r owner due c (Some m) (Some p) = KnownComm comms creations r m p

-- a row with this serial, and one with another context too
abbrev pub is_numbered : ℕ → CommRow → Bool
is_numbered n m = m.serial == n

abbrev pub is_other : ℕ → ℕ → CommRow → Bool
is_other n c m = (m.serial == n) && not (m.ctx == c)

-- a thread that waits for a give-back by serial waits for that of the communicator at this place, which is of the rank; no row
-- of another context has the serial
pub record FreeFits (comms : List Communicator) (rows : List CommRow) (added r serial p : ℕ) : Type 0 where
  pub inside : p < length comms
  pub member : has_rank (comm_in comms p).members r ≡ true
  pub below : serial ≤ added
  pub own : list_any (is_other serial (comm_in comms p).ctx) rows ≡ false
  pub gone : list_any (is_numbered serial) rows ≡ not (has_rank (comm_in comms p).returned r)

pub record CommsFit (top : ℕ) (comms : List Communicator) (creations : List Creation) (parts : List ThreadPart) (r : ℕ) (rows : List CommRow) (added : ℕ) (owner : Option Key) (due : Key → Option Verdict) (threads : List ThreadRow) : Type 0 where
  pub each : (c : ℕ) → CommFits comms creations r owner due c (row_in rows c) (comm_of comms r c)
  pub range : (c : ℕ) → is_some (comm_of comms r c) ≡ true → (1 ≤ c) × (c ≤ top)
  pub freeing : (t serial p : ℕ) → (row_of threads t).waits ≡ Freeing serial → (part_row parts t).wait ≡ reg.Freeing p → FreeFits comms rows added r serial p
  pub serials : (n : ℕ) → tally (is_numbered n) rows ≤ one (nat_le n added)

abbrev pub Comms : Setting → List Communicator → List Creation → List RankPart → Dues → (ℕ → Rank) → Type 0
Comms s comms creations parts due at =
    (r : ℕ) → CommsFit s.contexts comms creations (get_or parts r blank_part).threads r (at r).comms.rows (at r).comms.added (at r).agree.owner (due r) (at r).threads
