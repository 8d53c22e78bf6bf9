-- Faults one behind another, of which the first one counts.
use Rattle.std.specs.Prelude.{ℕ, List, Bool, true, false, Option, Some, None}
use Rattle.std.specs.Option.{option_map}
use Rattle.job_file.specs.declared.faults.JobFault.{JobFault}
use Rattle.job_file.specs.Keys.{front_of}

-- a fault where a condition does not hold
abbrev pub unless : Bool → JobFault → Option JobFault
unless true fault = None
unless false fault = Some fault

-- what is found, or else what is found later
abbrev pub or_else : {A : Type 0} → Option A → Option A → Option A
or_else None later = later
or_else (Some x) later = Some x

-- the fault of a key, if there is such a key
abbrev pub of_key : (List ℕ → JobFault) → Option (List ℕ) → Option JobFault
of_key fault key = option_map (λ k. fault (front_of k)) key
