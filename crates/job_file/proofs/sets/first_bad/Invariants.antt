use Rattle.std.proofs.Common.{◌≡◌}
use Rattle.toml.specs.View.{members_view}
use Rattle.job_file.specs.Keys.{first_failing}
use Rattle.job_file.specs.ConfiguredSets.{is_set}
use Rattle.job_file.proofs.sets.first_bad.Given as goal

abbrev pub invariant-members : goal.invariant-members
invariant-members l =
    (goal.iterator-members).can_next l.name-iterator × (goal.iterator-members).is_finite l.name-iterator
    × (first_failing (is_set l.ranks) (members_view l.name-iterator) ≡ first_failing (is_set l.ranks) (members_view l.table.entries))
