-- What contracts see of a world in code.
use Rattle.std.specs.Prelude.{◌≡◌, ℕ, ◌+◌, ◌-◌, ◌*◌, ◌^◌, ◌<◌, ◌≤◌, List, length, get_or}
use Rattle.and_reduce.specs.Fronts.{HasPlaces}
use Rattle.mpi_base.specs.declared.entries.Entry.{Entry}
use Rattle.mpi_law.specs.declared.setting.Setting.{Setting}
use Rattle.mpi_law.specs.Settings.{IsSetting}
use Rattle.mpi_protocol.specs.World.{World}
use Rattle.mpi_protocol.specs.Run.{IsProtocolRun, end_of}
use Rattle.rank_law.specs.Counts.{CountsWithin}
use Rattle.rank_core.specs.Held.{Held as RankHeld, MOST_SENT}

-- the setting, the world and its journal; for how many steps each rank has room, for how many packets each link, and for how many
-- more entries and packets to send there is room
pub record Held : Type 0 where
  pub setting : Setting
  pub world : World
  pub entries : List Entry
  pub steps : List ℕ
  pub links : List ℕ
  pub writes : ℕ
  pub sends : ℕ

-- there is room for a step of a rank, and its entry can be counted
pub record HasRoom (h : Held) (r : ℕ) : Type 0 where
  pub step : 1 ≤ get_or h.steps r 0
  pub links : (to : ℕ) → to < h.setting.ranks → MOST_SENT ≤ get_or h.links (h.setting.ranks * r + to) 0
  pub entry : 1 ≤ h.writes
  pub count : length h.entries < 2 ^ 64 - 1
  pub packets : MOST_SENT ≤ h.sends

-- the rank of the setting with this number, with each count at most n, and so that of its box
pub record IsRankOf (s : Setting) (r n : ℕ) (x : RankHeld) : Type 0 where
  pub rank : x.state.rank ≡ r
  pub setting : x.state.setting ≡ s
  pub counts : CountsWithin n x.state
  pub boxed : x.boxed ≤ n

-- a world of a setting, made of the states of its ranks: the journal is a protocol run of the setting that ends in it
pub record IsWorld (words : ℕ) (s : Setting) (w : World) (entries : List Entry) (states : List RankHeld) : Type 0 where
  pub setting : IsSetting s
  pub places : HasPlaces words s.contexts
  pub size : length states ≡ s.ranks
  pub ranks : (r : ℕ) (x : RankHeld) → r < s.ranks → IsRankOf s r (length entries) (get_or states r x)
  pub run : IsProtocolRun s entries
  pub end : w ≡ end_of s entries
