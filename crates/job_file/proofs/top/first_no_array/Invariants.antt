use Rattle.std.proofs.Common.{◌≡◌}
use Rattle.toml.specs.View.{members_view}
use Rattle.job_file.specs.Keys.{first_failing}
use Rattle.job_file.specs.Top.{is_integer_array}
use Rattle.job_file.proofs.top.first_no_array.Given as goal

abbrev pub invariant-members : goal.invariant-members
invariant-members l =
    (goal.iterator-members).can_next l.key-iterator × (goal.iterator-members).is_finite l.key-iterator
    × (first_failing (λ k d. is_integer_array d) (members_view l.key-iterator) ≡ first_failing (λ k d. is_integer_array d) (members_view l.table.entries))
