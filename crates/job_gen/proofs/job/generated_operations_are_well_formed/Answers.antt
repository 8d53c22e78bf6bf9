use Rattle.job_gen.proofs.Formed.{generated_ops}
use Rattle.job_gen.proofs.job.generated_operations_are_well_formed.Goals as goal

pub returns : goal.returns
returns c = generated_ops
