use Rattle.script_law.proofs.Laws.{calls_are_of_scripts}
use Rattle.script_law.proofs.drained_calls_are_of_scripts.Goals as goal

pub returns : goal.returns
returns c = λ s scripts journal run drained. calls_are_of_scripts s scripts journal run drained
