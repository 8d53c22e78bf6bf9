use Rattle.due_law.proofs.RunDues.{dues_are_the_agreements}
use Rattle.due_law.proofs.dues_are_the_agreements.Goals as goal

pub returns : goal.returns
returns c = λ s journal sets known runs. dues_are_the_agreements s journal sets known runs
