-- The job of a list of bytes, and the first fault of bytes that are none.
use Rattle.std.specs.Prelude.{◌≡◌, ◌⊎◌, ℕ, ◌+◌, ◌*◌, ◌==◌, ◌<◌, ◌≤◌, if◌then◌else◌, List, [], ◌∷◌, length, take, Option, Some, None, IsUtf8}
use Rattle.std.specs.Str.{IsValidUpTo}
use Rattle.mpi_law.specs.declared.setting.Setting.{Setting}
use Rattle.mpi_law.specs.declared.setting.TheConstants.{THREADS}
use Rattle.mpi_law.specs.ScriptLists.{AllScripts, script_of}
use Rattle.toml.specs.Data.{Members}
use Rattle.toml.specs.Parse.{parse_document}
use Rattle.job_file.specs.declared.faults.JobFault.{JobFault}
use Rattle.job_file.specs.declared.faults.JobFault.TheVariants.{NotUtf8, NotToml}
use Rattle.job_file.specs.Chains.{or_else}
use Rattle.job_file.specs.Lines.{lines_of, Spell}
use Rattle.job_file.specs.Top.{unknown_key, missing_key, wrong_kind, out_of_range, ranks_of, contexts_of, psets_of, scripts_of}
use Rattle.job_file.specs.ConfiguredSets.{bad_set, sets_in, all_sets, AscendByBytes}
use Rattle.job_file.specs.Threads.{script_at, scripts_fault}

-- Faults

-- the first fault of a table
abbrev pub table_fault : Members → Option JobFault
table_fault ms =
    or_else (unknown_key ms)
    (or_else (missing_key ms)
    (or_else (wrong_kind ms)
    (or_else (out_of_range ms)
    (or_else (bad_set (ranks_of ms) (psets_of ms)) (scripts_fault (ranks_of ms) (scripts_of ms))))))

-- the line and the column behind some bytes that begin at a line and a column
abbrev pub place_behind : ℕ × ℕ → List ℕ → ℕ × ℕ
place_behind place [] = place
place_behind place (b ∷ bs) = place_behind (if b == 10 then (place.0 + 1, 1) else (place.0, place.1 + 1)) bs

-- a line and a column, both from 1, of the byte behind so many
abbrev pub IsPlaceOf : List ℕ → ℕ → ℕ → ℕ → Type 0
IsPlaceOf bytes n line column = place_behind (1, 1) (take n bytes) ≡ (line, column)

-- no character begins behind the greatest number of bytes that are UTF-8
abbrev pub IsNotUtf8 : List ℕ → JobFault → Type 0
IsNotUtf8 bytes fault = (n : ℕ) × (line : ℕ) × (column : ℕ) × (fault ≡ NotUtf8 line column) × ¬ IsUtf8 bytes × IsValidUpTo bytes n × IsPlaceOf bytes n line column

-- the place is one of the text; where it is, the reader of TOML tells
abbrev pub IsNotToml : List ℕ → JobFault → Type 0
IsNotToml bytes fault = (n : ℕ) × (line : ℕ) × (column : ℕ) × (fault ≡ NotToml line column) × IsUtf8 bytes × (parse_document bytes ≡ None) × (n ≤ length bytes) × IsPlaceOf bytes n line column

abbrev pub IsTableFault : List ℕ → JobFault → Type 0
IsTableFault bytes fault = IsUtf8 bytes × ((ms : Members) × (parse_document bytes ≡ Some ms) × (table_fault ms ≡ Some fault))

-- what is wrong with bytes that are no job
abbrev pub IsJobFault : List ℕ → JobFault → Type 0
IsJobFault bytes fault = IsNotUtf8 bytes fault ⊎ (IsNotToml bytes fault ⊎ IsTableFault bytes fault)

-- Jobs

-- THREADS scripts for each of so many ranks, each spelled by the lines of its text
pub record AreScripts (n : ℕ) (text : ℕ → List ℕ) (all : AllScripts) : Type 0 where
  pub ranks : all.ranks ≡ n
  pub each : length all.lists ≡ THREADS * n
  pub spelled : (r t : ℕ) → r < n → t < THREADS → Spell (lines_of (text (THREADS * r + t))) (script_of all r t)

-- a table without a fault, and what it says
pub record IsJobTable (ms : Members) (s : Setting) (all : AllScripts) : Type 0 where
  pub good : table_fault ms ≡ None
  pub ranks : s.ranks ≡ ranks_of ms
  pub contexts : s.contexts ≡ contexts_of ms
  pub psets : s.psets ≡ all_sets (ranks_of ms) (psets_of ms)
  pub order : AscendByBytes (sets_in (ranks_of ms) (psets_of ms))
  pub scripts : AreScripts (ranks_of ms) (script_at (scripts_of ms)) all

-- the bytes are a job with this setting and these scripts
pub record IsJob (bytes : List ℕ) (setting : Setting) (scripts : AllScripts) : Type 0 where
  pub utf8 : IsUtf8 bytes
  pub table : Members
  pub parsed : parse_document bytes ≡ Some table
  pub says : IsJobTable table setting scripts
