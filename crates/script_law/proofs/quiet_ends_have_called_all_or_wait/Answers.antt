use Rattle.script_law.proofs.Laws.{whole_where_idle}
use Rattle.script_law.proofs.quiet_ends_have_called_all_or_wait.Goals as goal

pub returns : goal.returns
returns c = λ s scripts journal run drained quiet r t lr lt idle. whole_where_idle s scripts journal run drained quiet r t lr lt idle
