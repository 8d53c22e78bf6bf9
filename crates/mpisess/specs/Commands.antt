-- The command that the words of the command line name.
use Rattle.std.specs.Prelude.{if◌then◌else◌, ℕ, Bool, true, false, List, [], ◌∷◌, String, string_bytes, bytes_eq, codes, Option, Some, None}
use Rattle.std.specs.declared.alloc.Global.{Global}
use Rattle.mpisess.specs.declared.command.Command.{Command}
use Rattle.mpisess.specs.declared.command.Command.TheVariants.{Serial, Solo, Gen}
use Rattle.job_gen.specs.Words.{told_by}

abbrev pub named_by : List ℕ → Option Command
named_by word = if bytes_eq word (codes "serial") then Some Serial else if bytes_eq word (codes "solo") then Some Solo else None

abbrev pub generated_by : Option (ℕ × ℕ) → Option Command
generated_by None = None
generated_by (Some told) = Some (Gen told.0 told.1)

-- the one word `serial`, or the one word `solo`, or `gen` with a number and the most operations of a job
abbrev pub command_of : List (String Global) → Option Command
command_of [] = None
command_of (word ∷ []) = named_by (string_bytes word)
command_of (word ∷ number ∷ []) = None
command_of (word ∷ number ∷ ops ∷ []) = if bytes_eq (string_bytes word) (codes "gen") then generated_by (told_by (string_bytes number) (string_bytes ops)) else None
command_of (word ∷ number ∷ ops ∷ next ∷ words) = None

-- whether a command reads the input
abbrev pub reads : Command → Bool
reads Serial = true
reads Solo = true
reads (Gen number ops) = false

-- whether the words name a command that reads the input
abbrev pub are_reading : Option Command → Bool
are_reading None = false
are_reading (Some command) = reads command
