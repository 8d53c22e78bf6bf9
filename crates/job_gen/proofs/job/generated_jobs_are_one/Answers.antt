use Rattle.job_gen.proofs.Rounds.{one_job}
use Rattle.job_gen.proofs.job.generated_jobs_are_one.Goals as goal

pub returns-clause-one : goal.returns-clause-one
returns-clause-one c = one_job
