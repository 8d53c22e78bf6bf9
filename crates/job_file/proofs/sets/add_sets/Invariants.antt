use Rattle.std.proofs.Common.{◌≡◌, ◌++◌, None, string_cmp}
use Rattle.std.specs.Map.{keys_of}
use Rattle.std.specs.List.Sorted.{IsStrictlySortedBy}
use Rattle.toml.specs.View.{members_view}
use Rattle.job_file.specs.Keys.{first_failing}
use Rattle.job_file.specs.ConfiguredSets.{sets_in, is_set}
use Rattle.job_file.proofs.SetFacts.{AllNew}
use Rattle.job_file.proofs.sets.add_sets.Given as goal

abbrev pub invariant-members : goal.invariant-members
invariant-members l =
    (goal.iterator-members).can_next l.name-iterator × (goal.iterator-members).is_finite l.name-iterator
    × (l.psets.ranks ≡ l.initial.psets.ranks)
    × (l.psets.sets ++ sets_in l.psets.ranks (members_view l.name-iterator) ≡ l.initial.psets.sets ++ sets_in l.initial.psets.ranks (members_view l.table.entries))
    × (first_failing (is_set l.psets.ranks) (members_view l.name-iterator) ≡ None)
    × IsStrictlySortedBy string_cmp (keys_of l.name-iterator)
    × AllNew l.psets.sets l.name-iterator
