use Rattle.job_law.proofs.Sets.{job_sets}
use Rattle.job_law.proofs.sets_of_jobs_are_of_ranks.Goals as goal

pub returns : goal.returns
returns c = job_sets
