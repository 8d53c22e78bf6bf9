-- The scripts of a job, thread by thread. A place stands for a thread: thread t of rank r has the place of THREADS
-- times r, plus t, as in the lists of all scripts.
use Rattle.std.specs.Prelude.{ℕ, zero, suc, ◌+◌, ◌*◌, ◌/◌, ◌%◌, nat_lt, nat_le, ◌||◌, Bool, false, if◌then◌else◌, List, [], ◌∷◌, ◌++◌, length, bytes_eq, decimal, Option, Some, None}
use Rattle.std.specs.Option.{option_map}
use Rattle.mpi_law.specs.declared.setting.TheConstants.{THREADS}
use Rattle.toml.specs.Data.{Data, string, integer, float, boolean, datetime, array, table, Members, no_members, member}
use Rattle.job_file.specs.declared.faults.JobFault.{JobFault}
use Rattle.job_file.specs.declared.faults.JobFault.TheVariants.{ScriptName, ScriptLong, Line, TooManyOps}
use Rattle.job_file.specs.declared.lines.TheConstants.{MOST_LINES}
use Rattle.job_file.specs.declared.scripts.TheConstants.{MOST_OPS}
use Rattle.job_file.specs.Keys.{first_failing}
use Rattle.job_file.specs.Chains.{unless, or_else, of_key}
use Rattle.job_file.specs.Lines.{lines_of, first_fault, op_count}

abbrev pub rank_at : ℕ → ℕ
rank_at place = place / THREADS

abbrev pub thread_at : ℕ → ℕ
thread_at place = place % THREADS

-- `R.T`
abbrev pub script_key : ℕ → List ℕ
script_key place = decimal (rank_at place) ++ 46 ∷ decimal (thread_at place)

-- a key names one of so many places from this one on
abbrev pub names_place : ℕ → ℕ → List ℕ → Bool
names_place place zero k = false
names_place place (suc n) k = bytes_eq k (script_key place) || names_place (place + 1) n k

-- a key names a thread of one of so many ranks
abbrev pub is_script_key : ℕ → List ℕ → Bool
is_script_key ranks k = names_place 0 (THREADS * ranks) k

abbrev pub script_name : ℕ → Members → Option JobFault
script_name ranks ms = of_key ScriptName (first_failing (λ k d. is_script_key ranks k) ms)

abbrev pub text_in : Data → List ℕ
text_in (string s) = s
text_in (integer z) = []
text_in (float x) = []
text_in (boolean b) = []
text_in (datetime t) = []
text_in (array ds) = []
text_in (table ms) = []

-- the script of a place; a thread that has none has an empty one
abbrev pub script_at : Members → ℕ → List ℕ
script_at no_members place = []
script_at (member k d ms) place = if bytes_eq k (script_key place) then text_in d else script_at ms place

-- what is found first at so many places from this one on
abbrev pub first_at : {A : Type 0} → (ℕ → Option A) → ℕ → ℕ → Option A
first_at find place zero = None
first_at find place (suc n) = or_else (find place) (first_at find (place + 1) n)

abbrev pub long_at : Members → ℕ → Option JobFault
long_at ms place = if nat_lt MOST_LINES (length (lines_of (script_at ms place))) then Some (ScriptLong (rank_at place) (thread_at place)) else None

abbrev pub line_at : Members → ℕ → Option JobFault
line_at ms place = option_map (λ at. Line (rank_at place) (thread_at place) at.0 at.1) (first_fault 1 (lines_of (script_at ms place)))

-- how many operations the scripts of so many places have, from this one on
abbrev pub ops_from : Members → ℕ → ℕ → ℕ
ops_from ms place zero = 0
ops_from ms place (suc n) = op_count (lines_of (script_at ms place)) + ops_from ms (place + 1) n

-- the first fault among the scripts for so many ranks
abbrev pub scripts_fault : ℕ → Members → Option JobFault
scripts_fault ranks ms =
    or_else (script_name ranks ms)
    (or_else (first_at (long_at ms) 0 (THREADS * ranks))
    (or_else (first_at (line_at ms) 0 (THREADS * ranks)) (unless (nat_le (ops_from ms 0 (THREADS * ranks)) MOST_OPS) TooManyOps)))
