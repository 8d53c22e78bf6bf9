use Rattle.mpisess.specs.Jobs.{IsFaultOf}
use Rattle.mpisess.proofs.Sessions.{tells_fault, tells_job, stopped_well}
use Rattle.mpisess.proofs.jobs.take_job.Goals as goal

pub returns-in_err-job_of-clause-bad_job : goal.returns-in_err-job_of-clause-bad_job
returns-in_err-job_of-clause-bad_job g c = λ fault e.
    tells_fault c.args.command _ _ _ fault c.in_ok-bytes.ensures.read c.deref.ensures.value (stopped_well (IsFaultOf c.args.command c.deref.result.now) _ _ fault e c.from_residual-in_err-job_of.ensures.1 c.in_err-job_of.ensures.fault)

pub returns-clause-told : goal.returns-clause-told
returns-clause-told g c = tells_job c.args.command _ _ _ _ _ c.requires c.in_ok-bytes.ensures.read c.deref.ensures.value c.in_ok-job_of.ensures.job
