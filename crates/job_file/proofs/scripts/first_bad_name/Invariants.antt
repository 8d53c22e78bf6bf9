use Rattle.std.proofs.Common.{◌≡◌}
use Rattle.toml.specs.View.{members_view}
use Rattle.job_file.specs.Keys.{first_failing}
use Rattle.job_file.specs.Threads.{is_script_key}
use Rattle.job_file.proofs.scripts.first_bad_name.Given as goal

abbrev pub invariant-members : goal.invariant-members
invariant-members l =
    (goal.iterator-members).can_next l.key-iterator × (goal.iterator-members).is_finite l.key-iterator
    × (first_failing (λ k d. is_script_key l.ranks k) (members_view l.key-iterator) ≡ first_failing (λ k d. is_script_key l.ranks k) (members_view l.table.entries))
