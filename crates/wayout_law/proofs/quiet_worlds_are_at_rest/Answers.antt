use Rattle.wayout_law.proofs.RunLaw.{quiet_worlds_are_at_rest}
use Rattle.wayout_law.proofs.quiet_worlds_are_at_rest.Goals as goal

pub returns : goal.returns
returns c = λ s scripts journal sets known run quiet. quiet_worlds_are_at_rest s scripts journal sets known run quiet
