-- The job of a command: what the bytes of the input are to it, and what is wrong with bytes that are no job; or what a number makes.
use Rattle.std.specs.Prelude.{◌≡◌, ◌⊎◌, ℕ, ◌≤◌, List, length, Option, Some, None}
use Rattle.mpi_law.specs.declared.setting.Setting.{Setting}
use Rattle.mpi_law.specs.ScriptLists.{AllScripts, script_of}
use Rattle.job_file.specs.declared.faults.JobFault.{JobFault}
use Rattle.job_file.specs.Jobs.{IsJob, IsJobFault, IsNotToml}
use Rattle.job_file.specs.Solo.{solo_setting, solo_of, IsSoloScript, IsSoloFault}
use Rattle.job_gen.specs.Parts.{IsGenerated}
use Rattle.mpisess.specs.declared.command.Command.{Command}
use Rattle.mpisess.specs.declared.command.Command.TheVariants.{Serial, Solo, Gen}

-- one rank with 63 contexts, of which thread 0 alone has a script
pub record IsAlone (s : Setting) (scripts : AllScripts) : Type 0 where
  pub setting : s ≡ solo_setting
  pub only : scripts ≡ solo_of (script_of scripts 0 0)

-- the bytes are the script of thread 0 of that rank
pub record IsSoloJob (bytes : List ℕ) (s : Setting) (scripts : AllScripts) : Type 0 where
  pub alone : IsAlone s scripts
  pub script : IsSoloScript bytes (script_of scripts 0 0)

-- the bytes are the job of a command: to `serial` a job file, to `solo` a script; to `gen` they play no part
abbrev pub IsJobOf : Command → List ℕ → Setting → AllScripts → Type 0
IsJobOf Serial bytes s scripts = IsJob bytes s scripts
IsJobOf Solo bytes s scripts = IsSoloJob bytes s scripts
IsJobOf (Gen number ops) bytes s scripts = IsGenerated number ops s scripts

-- this is the first fault of bytes that are no job of a command
abbrev pub IsFaultOf : Command → List ℕ → JobFault → Type 0
IsFaultOf Serial bytes fault = IsJobFault bytes fault
IsFaultOf Solo bytes fault = IsSoloFault bytes fault
IsFaultOf (Gen number ops) bytes fault = ⊥

-- this fault is told; of a text that is no TOML document, which only `serial` asks for, the place may be told in another way
abbrev pub IsTold : List ℕ → JobFault → Option JobFault → Type 0
IsTold bytes fault None = ⊥
IsTold bytes fault (Some told) = (told ≡ fault) ⊎ (IsNotToml bytes told × IsNotToml bytes fault)

-- where the source tells its bytes, they are the job of a command with this setting and these scripts, and at most 4 MiB
pub record ReadsJob (command : Command) (before : Option (List ℕ)) (s : Setting) (scripts : AllScripts) : Type 0 where
  pub job : (xs : List ℕ) → before ≡ Some xs → IsJobOf command xs s scripts
  pub short : (xs : List ℕ) → before ≡ Some xs → length xs ≤ 4194304

-- what the source tells is the job of a command; that of `gen` is the one that its number makes, whatever the source tells
abbrev pub TellsJob : Command → Option (List ℕ) → Setting → AllScripts → Type 0
TellsJob Serial before s scripts = ReadsJob Serial before s scripts
TellsJob Solo before s scripts = ReadsJob Solo before s scripts
TellsJob (Gen number ops) before s scripts = IsGenerated number ops s scripts

-- where the source tells its bytes, this is the first fault of them, which are at most 4 MiB
pub record TellsFault (command : Command) (before : Option (List ℕ)) (fault : JobFault) : Type 0 where
  pub told : (xs : List ℕ) → before ≡ Some xs → IsFaultOf command xs fault
  pub short : (xs : List ℕ) → before ≡ Some xs → length xs ≤ 4194304
