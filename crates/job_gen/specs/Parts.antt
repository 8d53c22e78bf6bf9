-- What each rank of a generated job does, part by part, and the jobs that are generated. This project's own.
use Rattle.std.specs.Prelude.{◌≡◌, ℕ, ◌+◌, ◌%◌, ◌<◌, ◌≤◌, ◌==◌, if◌then◌else◌, List, [], ◌∷◌, ◌++◌, Some, pos, codes, replicate}
use Rattle.std.specs.List.{flat_map}
use Rattle.mpi_base.specs.declared.ops.Op.{Op}
use Rattle.mpi_base.specs.declared.ops.Op.TheVariants as op
use Rattle.mpi_base.specs.declared.messages.SrcArg.TheVariants.{At}
use Rattle.mpi_law.specs.declared.setting.Setting.{Setting}
use Rattle.mpi_law.specs.declared.setting.TheConstants.{MOST_CONTEXTS}
use Rattle.mpi_law.specs.ScriptLists.{AllScripts, total_of}
use Rattle.pset_reg.specs.Sets.{world_name, start_of}
use Rattle.job_gen.specs.declared.parts.Part.{Part}
use Rattle.job_gen.specs.declared.parts.Part.TheVariants.{Start, Duplicate, Split, Message, Create, End}
use Rattle.job_gen.specs.Draws.{round_from}

-- the names of a rank's session, of the group of all ranks, of the communicator of all ranks and of that of a round
abbrev pub session : List ℕ
session = codes "s"

abbrev pub group : List ℕ
group = codes "w"

abbrev pub whole : List ℕ
whole = codes "c"

abbrev pub short_lived : List ℕ
short_lived = codes "d"

-- the operation of one rank alone
abbrev pub if_rank : ℕ → ℕ → Op → List Op
if_rank one r o = if r == one then o ∷ [] else []

-- the operations of a rank in a part
abbrev pub ops_in : Part → ℕ → List Op
ops_in Start r = op.Session session ∷ op.Pset session world_name group ∷ op.Create group (codes "gen") whole ∷ []
ops_in Duplicate r = op.Dup whole short_lived ∷ op.Free short_lived ∷ []
ops_in (Split first) r = op.Split whole (Some (pos (r % 2))) (pos ((r + first) % 4)) short_lived ∷ op.Free short_lived ∷ []
ops_in (Message from to number) r =
    if_rank from r (op.Send whole (Some to) (number % 32768) (number % 256 ∷ [])) ++ if_rank to r (op.Recv whole (At from) (Some (number % 32768)) 1)
ops_in Create r = op.Create group (codes "x") short_lived ∷ op.Free short_lived ∷ []
ops_in End r = op.Free whole ∷ op.Finalize session ∷ []

-- the operations of a rank in some parts, one after another
abbrev pub script_of_parts : List Part → ℕ → List Op
script_of_parts parts r = flat_map (λ part. ops_in part r) parts

-- a script at thread 0 of each of the four ranks, and none at the other seven threads
abbrev pub at_first_threads : (ℕ → List Op) → AllScripts
at_first_threads script = record { ranks = 4; lists = flat_map (λ r. script r ∷ replicate 7 []) (0 ∷ 1 ∷ 2 ∷ 3 ∷ []) }

-- the scripts of a job of these parts
abbrev pub scripts_of_parts : List Part → AllScripts
scripts_of_parts parts = at_first_threads (script_of_parts parts)

-- the rounds that follow these parts, the first of them with this number, drawn from a state: one after another, as long as one
-- round and the end of the job, of at most eight operations each, have room among so many operations
abbrev pub AreRounds : ℕ → List Part → ℕ → ℕ → List Part → Type 0
AreRounds ops before number x [] = ops < total_of (scripts_of_parts before) + 16
AreRounds ops before number x (part ∷ parts) =
    (total_of (scripts_of_parts before) + 16 ≤ ops) × (part ≡ (round_from number x).part) × AreRounds ops (before ++ part ∷ []) (number + 1) (round_from number x).state parts

-- four ranks, the contexts from 1 to 63, and the two process sets that are always there
abbrev pub generated_setting : Setting
generated_setting = record { ranks = 4; contexts = MOST_CONTEXTS; psets = start_of 4 }

-- the job of a number, of at most so many operations: the start, the rounds that are drawn from the number, and the end
pub record IsGenerated (number ops : ℕ) (setting : Setting) (scripts : AllScripts) : Type 0 where
  pub rounds : List Part
  pub drawn : AreRounds ops (Start ∷ []) 0 number rounds
  pub sets : setting ≡ generated_setting
  pub parts : scripts ≡ scripts_of_parts (Start ∷ (rounds ++ End ∷ []))
