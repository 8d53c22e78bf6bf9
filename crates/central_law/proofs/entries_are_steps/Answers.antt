use Rattle.central_law.proofs.Entries.{entry_steps}
use Rattle.central_law.proofs.entries_are_steps.Goals as goal

pub returns : goal.returns
returns c = λ s g e rest. entry_steps s g e rest
