use Rattle.due_law.proofs.RunFinds.{each_finds}
use Rattle.due_law.proofs.each_choice_finds.Goals as goal

pub returns : goal.returns
returns c = λ s journal sets known runs. each_finds s journal sets known runs
