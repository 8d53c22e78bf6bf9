use Rattle.std.proofs.Common.{◌<◌}
use Rattle.part_tests.proofs.matching.two_hundred_calls_answer_as_two_lists_do.Given as goal

abbrev pub invariant-loop-number : goal.invariant-loop-number
invariant-loop-number g l = l.held.count < l.number
