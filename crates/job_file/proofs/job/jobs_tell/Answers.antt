use Rattle.job_file.proofs.Laws.{one_job, job_apart, one_fault}
use Rattle.job_file.proofs.job.jobs_tell.Goals as goal

pub returns-clause-jobs : goal.returns-clause-jobs
returns-clause-jobs c = one_job c.lines_tell.ensures.alone

pub returns-clause-apart : goal.returns-clause-apart
returns-clause-apart c = job_apart

pub returns-clause-faults : goal.returns-clause-faults
returns-clause-faults c = one_fault
