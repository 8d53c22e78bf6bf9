use Rattle.job_law.proofs.Scripts.{job_ops, solo_ops}
use Rattle.job_law.proofs.scripts_of_jobs_are_ops.Goals as goal

pub returns-clause-jobs : goal.returns-clause-jobs
returns-clause-jobs c = job_ops

pub returns-clause-solo : goal.returns-clause-solo
returns-clause-solo c = solo_ops
