use Rattle.job_file.specs.Lines.{lines_of}
use Rattle.job_file.proofs.Spelled.{spell_once}
use Rattle.job_file.proofs.OneRank.{script_apart, one_fault}
use Rattle.job_file.proofs.solo.solo_tells.Goals as goal

pub returns-clause-scripts : goal.returns-clause-scripts
returns-clause-scripts c = λ bytes xs ys p q. spell_once c.lines_tell.ensures.alone (lines_of bytes) xs ys p.spelled q.spelled

pub returns-clause-apart : goal.returns-clause-apart
returns-clause-apart c = script_apart c.lines_tell.ensures.good

pub returns-clause-faults : goal.returns-clause-faults
returns-clause-faults c = one_fault
