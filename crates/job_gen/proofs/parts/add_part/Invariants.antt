use Rattle.std.proofs.Common.{◌≡◌}
use Rattle.job_gen.specs.Adding.{with_ranks}
use Rattle.job_gen.proofs.parts.add_part.Given as goal

abbrev pub invariant-loop-rank : goal.invariant-loop-rank
invariant-loop-rank l = l.scripts ≡ with_ranks l.fn.scripts l.part l.rank
