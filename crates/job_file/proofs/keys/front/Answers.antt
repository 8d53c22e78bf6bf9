use Rattle.std.proofs.Common.{sym, arith}
use Rattle.std.proofs.lemmas.Bool.Decides.{nat_tests}
use Rattle.std.proofs.lemmas.Grind.{common_steps}
use Rattle.std.proofs.lemmas.List.{take_all}
use Rattle.job_file.proofs.keys.front.Goals as goal

pub returns-then-bytes-le-MOST_TOLD-clause-value : goal.returns-then-bytes-le-MOST_TOLD-clause-value
returns-then-bytes-le-MOST_TOLD-clause-value c = let few = c.if-bytes-le-MOST_TOLD.true in sym (take_all 64 c.args.bytes.now (grind (arith, nat_tests, common_steps, few)))
