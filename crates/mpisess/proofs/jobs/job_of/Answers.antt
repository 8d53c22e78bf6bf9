use Rattle.mpisess.proofs.Formed.{solo_ops}
use Rattle.mpisess.proofs.jobs.job_of.Goals as goal

pub returns-in-Solo-clause-ops : goal.returns-in-Solo-clause-ops
returns-in-Solo-clause-ops c =
    solo_ops c.scripts_of_jobs_are_ops.ensures.solo c.args.bytes.now c.read_solo.result c.read_solo.ensures.setting c.read_solo.ensures.alone c.read_solo.ensures.spelled
