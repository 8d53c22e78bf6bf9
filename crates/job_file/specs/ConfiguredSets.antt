-- The process sets that a job adds to the two that are always there.
use Rattle.std.specs.Prelude.{ℕ, nat_lt, ◌&&◌, ◌==◌, not, Bool, if◌then◌else◌, List, [], ◌∷◌, ◌++◌, codes, Option, Some, None, is_some, is_none, option_and_then}
use Rattle.std.specs.List.{starts_with}
use Rattle.std.specs.List.Sorted.{IsStrictlySortedBy}
use Rattle.std.specs.Ordering.{nat_cmp}
use Rattle.std.specs.Cmp.Lexicographic.{slice_cmp}
use Rattle.mpi_base.specs.MemberLists.{has_rank}
use Rattle.pset_reg.specs.Sets.{NamedSet, ProcessSets, first_sets, names}
use Rattle.token_text.specs.Forms.{fault_of}
use Rattle.token_text.specs.Texts.{pset_name_form}
use Rattle.toml.specs.Data.{Data, string, integer, float, boolean, datetime, array, table, Items, no_items, item, Members, no_members, member}
use Rattle.job_file.specs.declared.faults.JobFault.{JobFault}
use Rattle.job_file.specs.declared.faults.JobFault.TheVariants.{PsetMember}
use Rattle.job_file.specs.Keys.{first_failing}
use Rattle.job_file.specs.Chains.{of_key}
use Rattle.job_file.specs.Top.{natural}

-- a name of a process set that does not begin with `mpi://`
abbrev pub is_set_name : List ℕ → Bool
is_set_name k = is_none (fault_of pset_name_form k) && not (starts_with (λ a b. a == b) k (codes "mpi://"))

-- a rank behind others, unless it is none of so many ranks or is among them
abbrev pub one_more : ℕ → List ℕ → Option ℕ → Option (List ℕ)
one_more ranks found None = None
one_more ranks found (Some r) = if nat_lt r ranks && not (has_rank found r) then Some (found ++ r ∷ []) else None

abbrev pub number_in : Data → Option ℕ
number_in (integer z) = natural z
number_in (string s) = None
number_in (float x) = None
number_in (boolean b) = None
number_in (datetime t) = None
number_in (array ds) = None
number_in (table ms) = None

-- the items behind ranks that were found, in order; None where one of them is no rank, or is repeated
abbrev pub ranks_behind : ℕ → Option (List ℕ) → Items → Option (List ℕ)
ranks_behind ranks found no_items = found
ranks_behind ranks found (item d ds) = ranks_behind ranks (option_and_then (λ list. one_more ranks list (number_in d)) found) ds

-- the ranks that a value lists; None where it lists no different ranks
abbrev pub ranks_in : ℕ → Data → Option (List ℕ)
ranks_in ranks (array ds) = ranks_behind ranks (Some []) ds
ranks_in ranks (string s) = None
ranks_in ranks (integer z) = None
ranks_in ranks (float x) = None
ranks_in ranks (boolean b) = None
ranks_in ranks (datetime t) = None
ranks_in ranks (table ms) = None

-- the name is free, and the value lists different ranks
abbrev pub is_set : ℕ → List ℕ → Data → Bool
is_set ranks k d = is_set_name k && is_some (ranks_in ranks d)

abbrev pub bad_set : ℕ → Members → Option JobFault
bad_set ranks ms = of_key PsetMember (first_failing (is_set ranks) ms)

abbrev pub set_in_front : List ℕ → Option (List ℕ) → List NamedSet → List NamedSet
set_in_front k None sets = sets
set_in_front k (Some ranks) sets = record { name = k; members = ranks } ∷ sets

-- the sets of a table, in the order of its keys
abbrev pub sets_in : ℕ → Members → List NamedSet
sets_in ranks no_members = []
sets_in ranks (member k d ms) = set_in_front k (ranks_in ranks d) (sets_in ranks ms)

-- all sets of a job: the two that are always there, and then those of the table
abbrev pub all_sets : ℕ → Members → ProcessSets
all_sets ranks ms = record { ranks = ranks; sets = first_sets ranks ++ sets_in ranks ms }

-- names that ascend by their bytes
abbrev pub AscendByBytes : List NamedSet → Type 0
AscendByBytes sets = IsStrictlySortedBy (slice_cmp nat_cmp) (names sets)
