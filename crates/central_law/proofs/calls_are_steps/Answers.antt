use Rattle.central_law.proofs.Calls.{calls_step}
use Rattle.central_law.proofs.calls_are_steps.Goals as goal

pub returns : goal.returns
returns c = λ s g e t op rest is. calls_step s g e t op rest is
