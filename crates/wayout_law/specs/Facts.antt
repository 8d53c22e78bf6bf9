-- What is said of the drain of a protocol run, and of a world where nothing is left to do.
use Rattle.std.specs.Prelude.{◌≡◌, ℕ, ◌<◌, ◌≤◌, ◌+◌, ◌*◌, ◌==◌, true, false, List, [], length, Some, is_none, is_some}
use Rattle.mpi_base.specs.declared.entries.Entry.{Entry}
use Rattle.mpi_base.specs.declared.keys.Key.{Key}
use Rattle.mpi_law.specs.declared.setting.Setting.{Setting}
use Rattle.mpi_law.specs.ScriptLists.{AllScripts, total_of}
use Rattle.agree_law.specs.declared.rows.Stage.TheVariants.{Called}
use Rattle.agree_law.specs.Tree.{member_at}
use Rattle.agree_law.specs.Part.{stage_of}
use Rattle.agree_law.specs.Rule.{is_waiting}
use Rattle.agree_law.specs.Facts.{is_agreed_on}
use Rattle.share_law.specs.Facts.{is_exchange, sharing_of}
use Rattle.mpi_protocol.specs.World.{World, rank_at, link}
use Rattle.mpi_protocol.specs.Run.{RunsFrom, IsProtocolRun, world_after}
use Rattle.mpi_protocol.specs.Order.{is_offered, IsDrained, IsQuiet}
use Rattle.projection_law.specs.KnownNames.{CallersNamesAreKnown}
use Rattle.wayout_law.specs.Potential.{bound}

-- so many choices are within the bound of a world
abbrev pub IsWithinBound : AllScripts → World → List Entry → Type 0
IsWithinBound scripts w es = length es ≤ bound scripts w

-- so many choices are within the bound of a job: n + 32 for each operation of its scripts
abbrev pub IsWithinJob : Setting → AllScripts → List Entry → Type 0
IsWithinJob s scripts es = length es ≤ (s.ranks + 32) * total_of scripts

-- nothing is under way: no packet between two ranks, no key offered or waiting, no owner of a mask, no key that each of its members
-- has called and that is not decided, and no exchange for which each member has told its share and waits
pub record IsAtRest (w : World) : Type 0 where
  pub empty : (from to : ℕ) → from < length w.ranks → to < length w.ranks → (from == to) ≡ false → link w from to ≡ []
  pub offered : (r : ℕ) (key : Key) → is_offered (stage_of (rank_at w r).agree.opened key) ≡ false
  pub waiting : (r : ℕ) (key : Key) → is_waiting (stage_of (rank_at w r).agree.opened key) ≡ false
  pub owner : (r : ℕ) → is_none (rank_at w r).agree.owner ≡ true
  pub called : (key : Key) → is_agreed_on (length w.ranks) key ≡ true → 0 < length key.members
      → ((p : ℕ) → p < length key.members → stage_of (rank_at w (member_at key.members p)).agree.opened key ≡ Some Called) → ⊥
  pub shared : (key : Key) → is_exchange (length w.ranks) key ≡ true → 0 < length key.members
      → ((p : ℕ) → p < length key.members → is_some (sharing_of (stage_of (rank_at w (member_at key.members p)).agree.opened key)) ≡ true) → ⊥

-- the drain of a world: it ends in a quiet world within the bound, and is a run of the ranks
pub record DrainEnds (scripts : AllScripts) (w : World) : Type 0 where
  pub entries : List Entry
  pub runs : RunsFrom w entries
  pub drained : IsDrained scripts w entries
  pub quiet : IsQuiet (world_after w entries) scripts
  pub within : IsWithinBound scripts w entries

-- callers' names are known in every protocol run
abbrev pub NamesAreKnownInRuns : Setting → Type 0
NamesAreKnownInRuns s = (journal : List Entry) → IsProtocolRun s journal → CallersNamesAreKnown s journal
