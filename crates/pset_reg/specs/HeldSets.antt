-- How the code holds process sets, and adds to them.
use Rattle.std.specs.Prelude.{◌≡◌, ℕ, ◌<◌, ◌≤◌, ◌^◌, Bool, true, List, [], ◌∷◌, ◌++◌, take, length, bytes_eq}
use Rattle.std.specs.List.{list_any, list_all, IsDistinct}
use Rattle.mpi_base.specs.declared.members.TheConstants.{MOST_RANKS}
use Rattle.pset_reg.specs.Sets.{NamedSet, ProcessSets, names, first_sets, are_below}

-- a set, of its name and members
abbrev pub named_set : List ℕ × List ℕ → NamedSet
named_set entry = record { name = entry.0; members = entry.1 }

-- whether a set has this name
abbrev pub has_set : List NamedSet → List ℕ → Bool
has_set sets name = list_any (bytes_eq name) (names sets)

-- one set more, at the end
abbrev pub with_set : ProcessSets → List ℕ → List ℕ → ProcessSets
with_set s name members = record { ranks = s.ranks; sets = s.sets ++ record { name = name; members = members } ∷ [] }

-- what holds of the process sets of every job
pub record AreSets (s : ProcessSets) : Type 0 where
  pub some_rank : 1 ≤ s.ranks
  pub few_ranks : s.ranks ≤ MOST_RANKS
  pub first : take 2 s.sets ≡ first_sets s.ranks
  pub distinct : IsDistinct bytes_eq (names s.sets)
  pub below : list_all (λ set. are_below s.ranks set.members) s.sets ≡ true
  pub small : length s.sets < 2 ^ 32
