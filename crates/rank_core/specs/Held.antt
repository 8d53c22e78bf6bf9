-- What contracts see of a rank in code.
use Rattle.std.specs.Prelude.{◌≡◌, ℕ, ◌+◌, ◌-◌, ◌^◌, ◌<◌, ◌≤◌, List, [], length, Option}
use Rattle.std.specs.List.{AllByRecursion}
use Rattle.and_reduce.specs.Fronts.{HasPlaces}
use Rattle.comm_law.specs.declared.rows.CommRow.{CommRow}
use Rattle.mpi_law.specs.declared.setting.Setting.{Setting}
use Rattle.mpi_law.specs.Settings.{IsSetting}
use Rattle.mpi_base.specs.declared.entries.Act.{Act}
use Rattle.mpi_base.specs.declared.entries.Entry.{Entry}
use Rattle.mpi_protocol.specs.Packets.{Packet}
use Rattle.mpi_protocol.specs.Rank.{Rank}
use Rattle.mpi_protocol.specs.Stepping.{Steps}
use Rattle.rank_law.specs.Counts.{CountsWithin}
use Rattle.rank_core.specs.Packets.{Box, sent_by}

-- the state, how many messages and receives the box has kept so far, and for how many steps there is room
pub record Held : Type 0 where
  pub state : Rank
  pub boxed : ℕ
  pub spare : ℕ

-- no count is at its end
pub record CountsAreLow (x : Held) : Type 0 where
  pub state : CountsWithin (2 ^ 64 - 2) x.state
  pub boxed : x.boxed < 2 ^ 64 - 1

-- a packet of a step goes to at most this many others
abbrev pub MOST_SENT : ℕ
MOST_SENT = 16

-- an empty outbox with room for all that a step may send
pub record IsReady {w : ℕ} (out : Box w) : Type 0 where
  pub agreed : out.agreed ≡ []
  pub others : out.others ≡ []
  pub room : MOST_SENT ≤ out.room

-- the rank makes the step, and the outbox is what it sends; its number and its setting stay
pub record Makes {w : ℕ} (old : Held) (act : Act) (packet : Option Packet) (new : Held) (line : Entry) (out : Box w) : Type 0 where
  pub step : Steps old.state act packet new.state line (sent_by old.state.setting.contexts out)
  pub few : length (sent_by old.state.setting.contexts out) ≤ MOST_SENT
  pub rank : new.state.rank ≡ old.state.rank
  pub setting : new.state.setting ≡ old.state.setting
  pub boxed : new.boxed ≤ old.boxed + 1
  pub spare : old.spare ≤ new.spare + 1

-- the context of each communicator is one of the setting
abbrev pub AreContexts : ℕ → List CommRow → Type 0
AreContexts top rows = AllByRecursion (λ m. (1 ≤ m.ctx) × (m.ctx ≤ top)) rows

-- a rank of a setting: masks of so many words have a place for each context, and the parts are of this rank
pub record IsRank (words : ℕ) (rank : ℕ) (s : Setting) (greatest holder : ℕ) (comms : List CommRow) : Type 0 where
  pub setting : IsSetting s
  pub known : rank < s.ranks
  pub places : HasPlaces words s.contexts
  pub reach : greatest ≡ s.contexts
  pub same : holder ≡ rank
  pub contexts : AreContexts s.contexts comms
