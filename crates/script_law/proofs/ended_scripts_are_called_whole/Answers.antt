use Rattle.script_law.proofs.Laws.{whole_where_ended}
use Rattle.script_law.proofs.ended_scripts_are_called_whole.Goals as goal

pub returns : goal.returns
returns c = λ s scripts journal run drained ended r t lr lt. whole_where_ended s scripts journal run drained ended r t lr lt
