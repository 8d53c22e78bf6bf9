-- What reading the input and the words says.
use Rattle.std.specs.Prelude.{◌≡◌, ℕ, ◌≤◌, Bool, true, false, List, length, take, drop, Option, Some, Result, Ok, Err}
use Rattle.mpisess.specs.declared.input.InputError.{InputError}
use Rattle.mpisess.specs.declared.input.InputError.TheVariants.{Fault, TooLong, Memory}
use Rattle.mpisess.specs.declared.command.Command.{Command}
use Rattle.mpisess.specs.declared.command.Command.TheVariants.{Serial, Solo, Gen}
use Rattle.job_gen.specs.declared.job.TheConstants.{LEAST_OPS, MOST_OPS}

-- of a source that tells its bytes, the first so many were read, all where there are no more, and the others are left
abbrev pub ReadsFront : ℕ → Option (List ℕ) → List ℕ → Option (List ℕ) → Type 0
ReadsFront most before bytes after = (xs : List ℕ) → before ≡ Some xs → (bytes ≡ take most xs) × (after ≡ Some (drop most xs))

-- of a source that tells its bytes, these are all, at most 4 MiB
abbrev pub ReadsWhole : Option (List ℕ) → List ℕ → Type 0
ReadsWhole before bytes = (xs : List ℕ) → before ≡ Some xs → (bytes ≡ xs) × (length xs ≤ 4194304)

-- the input was read as far as it may be read
abbrev pub was_ended : {A : Type 0} → Result A InputError → Bool
was_ended (Ok bytes) = true
was_ended (Err Fault) = false
was_ended (Err TooLong) = true
was_ended (Err Memory) = false

-- the operations of a generated job are as many as it may be allowed
abbrev pub IsInRange : Command → Type 0
IsInRange Serial = Unit {0}
IsInRange Solo = Unit {0}
IsInRange (Gen number ops) = (LEAST_OPS ≤ ops) × (ops ≤ MOST_OPS)
