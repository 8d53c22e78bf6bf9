-- The members of the process sets of a job are distinct ranks: the two first sets, and those that a table lists.
use Rattle.std.proofs.Common.{◌≡◌, ◌≤◌, ◌+◌, ◌||◌, ◌&&◌, ◌==◌, not, ℕ, zero, suc, nat_lt, Bool, true, false, if◌then◌else◌, List, [], ◌∷◌, ◌++◌, Option, Some, None, refl, arith}
use Rattle.std.specs.Prelude.{option_and_then}
use Rattle.std.specs.List.{range_with_len}
use Rattle.std.proofs.lemmas.Bool.Decides.{nat_tests}
use Rattle.toml.specs.Data.{Data, string, integer, float, boolean, datetime, array, table, Items, no_items, item, Members, no_members, member}
use Rattle.mpi_base.specs.MemberLists.{has_rank}
use Rattle.mpi_law.specs.declared.setting.Setting.{Setting}
use Rattle.mpi_law.specs.ScriptLists.{AllScripts}
use Rattle.pset_reg.specs.Sets.{NamedSet}
use Rattle.projection_law.specs.Premises.{are_distinct_ranks, are_rank_sets, SetsAreOfRanks}
use Rattle.projection_law.proofs.Groups.{union_ranks}
use Rattle.job_file.specs.ConfiguredSets.{one_more, number_in, ranks_behind, ranks_in, set_in_front, sets_in, all_sets}
use Rattle.job_file.specs.Top.{ranks_of, psets_of}
use Rattle.job_file.specs.Jobs.{IsJob}

-- The set of all ranks

-- a rank of a range is none below its first
range_from : (a k r : ℕ) → has_rank (range_with_len a k) r ≡ true → a ≤ r
range_from a zero r e = absurd (cc (e))
range_from a (suc k) r e = go (a == r) refl e (range_from (a + 1) k r)
  where
    go : (b : Bool) → (a == r) ≡ b → (b || has_rank (range_with_len (a + 1) k) r) ≡ true → (has_rank (range_with_len (a + 1) k) r ≡ true → a + 1 ≤ r) → a ≤ r
    go true t e ih = let is : a ≡ r = grind (arith, nat_tests, t) in omega (arith, is)
    go false t e ih = let l = ih e in omega (arith, l)

range_ranks : (a k n : ℕ) → a + k ≤ n → are_distinct_ranks n (range_with_len a k) ≡ true
range_ranks a zero n l = refl
range_ranks a (suc k) n l = apart (has_rank (range_with_len (a + 1) k) a) refl (range_ranks (a + 1) k n (omega (arith, l)))
  where
    apart : (b : Bool) → has_rank (range_with_len (a + 1) k) a ≡ b → are_distinct_ranks n (range_with_len (a + 1) k) ≡ true → are_distinct_ranks n (range_with_len a (suc k)) ≡ true
    apart true h ih = let l = range_from (a + 1) k a h in absurd (omega (arith, l))
    apart false h ih = grind (arith, nat_tests, l, h, ih)

-- Sets of a table

-- what a value lists, where it lists ranks
abbrev AreRanksOr : ℕ → Option (List ℕ) → Type 0
AreRanksOr n (Some members) = are_distinct_ranks n members ≡ true
AreRanksOr n None = Unit {0}

-- one rank joins where it is a rank of the job and not there yet
one_more_ranks : (n : ℕ) (found : List ℕ) (r : Option ℕ) → are_distinct_ranks n found ≡ true → AreRanksOr n (one_more n found r)
one_more_ranks n found None a = tt
one_more_ranks n found (Some r) a = go (nat_lt r n) (has_rank found r) refl refl
  where
    go : (low there : Bool) → nat_lt r n ≡ low → has_rank found r ≡ there → AreRanksOr n (if low && not there then Some (found ++ r ∷ []) else None)
    go false there l h = tt
    go true true l h = tt
    go true false l h =
        let one : are_distinct_ranks n (r ∷ []) ≡ true = grind (arith, l) in
        let all = union_ranks n found (r ∷ []) a one in
        rw h at all

behind_ranks : (n : ℕ) (found : Option (List ℕ)) (ds : Items) → AreRanksOr n found → AreRanksOr n (ranks_behind n found ds)
behind_ranks n found no_items a = a
behind_ranks n found (item d ds) a = behind_ranks n (option_and_then (λ list. one_more n list (number_in d)) found) ds (more found a)
  where
    more : (o : Option (List ℕ)) → AreRanksOr n o → AreRanksOr n (option_and_then (λ list. one_more n list (number_in d)) o)
    more None a = tt
    more (Some list) a = one_more_ranks n list (number_in d) a

in_ranks : (n : ℕ) (d : Data) → AreRanksOr n (ranks_in n d)
in_ranks n (array ds) = behind_ranks n (Some []) ds refl
in_ranks n (string s) = tt
in_ranks n (integer z) = tt
in_ranks n (float x) = tt
in_ranks n (boolean b) = tt
in_ranks n (datetime t) = tt
in_ranks n (table ms) = tt

front_ranks : (n : ℕ) (k : List ℕ) (o : Option (List ℕ)) (sets : List NamedSet) → AreRanksOr n o → are_rank_sets n sets ≡ true → are_rank_sets n (set_in_front k o sets) ≡ true
front_ranks n k None sets a b = b
front_ranks n k (Some members) sets a b = rw (a, b) refl

table_ranks : (n : ℕ) (ms : Members) → are_rank_sets n (sets_in n ms) ≡ true
table_ranks n no_members = refl
table_ranks n (member k d ms) = front_ranks n k (ranks_in n d) (sets_in n ms) (in_ranks n d) (table_ranks n ms)

-- all sets of a job, of any table
all_ranks : (n : ℕ) (ms : Members) → are_rank_sets n (all_sets n ms).sets ≡ true
all_ranks n ms = rw (range_ranks 0 n n (omega arith), table_ranks n ms) refl

pub job_sets : (bytes : List ℕ) (s : Setting) (scripts : AllScripts) → IsJob bytes s scripts → SetsAreOfRanks s
job_sets bytes s scripts job = rw (job.says.ranks, job.says.psets) (all_ranks (ranks_of job.table) (psets_of job.table))
