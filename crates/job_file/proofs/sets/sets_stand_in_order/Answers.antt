use Rattle.job_file.proofs.SetFacts.{none_ascend}
use Rattle.job_file.proofs.sets.sets_stand_in_order.Goals as goal

pub returns-in-None : goal.returns-in-None
returns-in-None c = rw c.in-None.is (none_ascend c.args.ranks)
