-- What the laws of this crate ask of a setting; it holds of every job (`job_law`).
use Rattle.std.specs.Prelude.{◌≡◌, ℕ, ◌&&◌, Bool, true, List}
use Rattle.std.specs.List.{list_all}
use Rattle.mpi_base.specs.MemberLists.{are_distinct}
use Rattle.pset_reg.specs.Sets.{NamedSet, are_below}
use Rattle.mpi_law.specs.declared.setting.Setting.{Setting}

-- whether a list is of distinct ranks
abbrev pub are_distinct_ranks : ℕ → List ℕ → Bool
are_distinct_ranks ranks members = are_distinct members && are_below ranks members

-- whether each process set is
abbrev pub are_rank_sets : ℕ → List NamedSet → Bool
are_rank_sets ranks sets = list_all (λ set. are_distinct_ranks ranks set.members) sets

-- the members of each process set are distinct ranks
abbrev pub SetsAreOfRanks : Setting → Type 0
SetsAreOfRanks s = are_rank_sets s.ranks s.psets.sets ≡ true
