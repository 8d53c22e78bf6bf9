use Rattle.std.proofs.Common.{arith}
use Rattle.std.proofs.lemmas.Bool.Decides.{nat_tests}
use Rattle.mpisess.proofs.Sessions.{reads_whole, tells_long}
use Rattle.mpisess.proofs.input.read_input.Goals as goal

pub returns-then-len-gt-MOST_BYTES-clause-long : goal.returns-then-len-gt-MOST_BYTES-clause-long
returns-then-len-gt-MOST_BYTES-clause-long g c = λ e. tells_long _ _ _ c.in_ok-bytes.ensures.read (grind (arith, nat_tests, c.len.ensures, c.if-len-gt-MOST_BYTES.true))

pub returns-clause-read : goal.returns-clause-read
returns-clause-read g c = reads_whole _ _ _ c.in_ok-bytes.ensures.read (grind (arith, nat_tests, c.len.ensures, c.if-len-gt-MOST_BYTES.false))
