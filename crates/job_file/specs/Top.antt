-- The values at the keys of the top: kinds, ranges, and what they say.
use Rattle.std.specs.Prelude.{ℕ, ℤ, pos, negsuc, nat_le, ◌&&◌, Bool, true, false, Option, Some, None, is_some}
use Rattle.mpi_base.specs.declared.members.TheConstants.{MOST_RANKS}
use Rattle.mpi_law.specs.declared.setting.TheConstants.{MOST_CONTEXTS}
use Rattle.toml.specs.Data.{Data, string, integer, float, boolean, datetime, array, table, as_table, Items, no_items, item, Members, no_members}
use Rattle.job_file.specs.declared.keys.TopKey.{TopKey}
use Rattle.job_file.specs.declared.keys.TopKey.TheVariants.{Format, Ranks, Contexts, Psets, Scripts}
use Rattle.job_file.specs.declared.faults.JobFault.{JobFault}
use Rattle.job_file.specs.declared.faults.JobFault.TheVariants.{UnknownKey, Missing, WrongKind, OutOfRange}
use Rattle.job_file.specs.Keys.{is_top_key, at, first_failing}
use Rattle.job_file.specs.Chains.{unless, or_else, of_key}

-- Keys

abbrev pub unknown_key : Members → Option JobFault
unknown_key ms = of_key UnknownKey (first_failing (λ k d. is_top_key k) ms)

abbrev pub missing_key : Members → Option JobFault
missing_key ms = or_else (unless (is_some (at ms Format)) (Missing Format)) (unless (is_some (at ms Ranks)) (Missing Ranks))

-- Kinds

-- a value passes a test, if there is one
abbrev pub passes : (Data → Bool) → Option Data → Bool
passes test None = true
passes test (Some d) = test d

abbrev pub all_items : (Data → Bool) → Items → Bool
all_items test no_items = true
all_items test (item d ds) = test d && all_items test ds

abbrev pub is_integer : Data → Bool
is_integer (string s) = false
is_integer (integer z) = true
is_integer (float x) = false
is_integer (boolean b) = false
is_integer (datetime t) = false
is_integer (array ds) = false
is_integer (table ms) = false

abbrev pub is_string : Data → Bool
is_string (string s) = true
is_string (integer z) = false
is_string (float x) = false
is_string (boolean b) = false
is_string (datetime t) = false
is_string (array ds) = false
is_string (table ms) = false

-- an array of integers
abbrev pub is_integer_array : Data → Bool
is_integer_array (string s) = false
is_integer_array (integer z) = false
is_integer_array (float x) = false
is_integer_array (boolean b) = false
is_integer_array (datetime t) = false
is_integer_array (array ds) = all_items is_integer ds
is_integer_array (table ms) = false

-- the value at a key is an integer, if there is one
abbrev pub number_kind : Members → TopKey → Option JobFault
number_kind ms key = unless (passes is_integer (at ms key)) (WrongKind key None)

-- the value at a key is a table, and each value in it passes a test
abbrev pub entries_kind : TopKey → (Data → Bool) → Option Members → Option JobFault
entries_kind key test None = Some (WrongKind key None)
entries_kind key test (Some ms) = of_key (λ k. WrongKind key (Some k)) (first_failing (λ k d. test d) ms)

-- so too where there is no value
abbrev pub table_kind : TopKey → (Data → Bool) → Option Data → Option JobFault
table_kind key test None = None
table_kind key test (Some d) = entries_kind key test (as_table d)

abbrev pub wrong_kind : Members → Option JobFault
wrong_kind ms =
    or_else (number_kind ms Format)
    (or_else (number_kind ms Ranks)
    (or_else (number_kind ms Contexts)
    (or_else (table_kind Psets is_integer_array (at ms Psets)) (table_kind Scripts is_string (at ms Scripts)))))

-- Numbers

-- an integer as a number, unless it is negative
abbrev pub natural : ℤ → Option ℕ
natural (pos n) = Some n
natural (negsuc n) = None

-- the number that a value is, or this one where there is none
abbrev pub number_or : ℕ → Option Data → Option ℕ
number_or missing None = Some missing
number_or missing (Some (string s)) = Some missing
number_or missing (Some (integer z)) = natural z
number_or missing (Some (float x)) = Some missing
number_or missing (Some (boolean b)) = Some missing
number_or missing (Some (datetime t)) = Some missing
number_or missing (Some (array ds)) = Some missing
number_or missing (Some (table ms)) = Some missing

abbrev pub is_in_range : ℕ → ℕ → Option ℕ → Bool
is_in_range low high None = false
is_in_range low high (Some n) = nat_le low n && nat_le n high

-- the value at a key is in its range, as the one that it has where it is missing
abbrev pub number_range : Members → TopKey → ℕ → ℕ → ℕ → Option JobFault
number_range ms key low high missing = unless (is_in_range low high (number_or missing (at ms key))) (OutOfRange key low high)

abbrev pub out_of_range : Members → Option JobFault
out_of_range ms =
    or_else (number_range ms Format 1 1 0)
    (or_else (number_range ms Ranks 1 MOST_RANKS 0) (number_range ms Contexts 1 MOST_CONTEXTS MOST_CONTEXTS))

-- What the values say

abbrev pub or_zero : Option ℕ → ℕ
or_zero None = 0
or_zero (Some n) = n

abbrev pub ranks_of : Members → ℕ
ranks_of ms = or_zero (number_or 0 (at ms Ranks))

abbrev pub contexts_of : Members → ℕ
contexts_of ms = or_zero (number_or MOST_CONTEXTS (at ms Contexts))

-- the members of a table, and none where there is none
abbrev pub table_or_none : Option Data → Members
table_or_none None = no_members
table_or_none (Some (string s)) = no_members
table_or_none (Some (integer z)) = no_members
table_or_none (Some (float x)) = no_members
table_or_none (Some (boolean b)) = no_members
table_or_none (Some (datetime t)) = no_members
table_or_none (Some (array ds)) = no_members
table_or_none (Some (table ms)) = ms

abbrev pub psets_of : Members → Members
psets_of ms = table_or_none (at ms Psets)

abbrev pub scripts_of : Members → Members
scripts_of ms = table_or_none (at ms Scripts)
