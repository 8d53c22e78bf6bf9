use Rattle.std.proofs.Common.{sym, ap}
use Rattle.central_ranks.specs.Parts.{RanksHeld}
use Rattle.central_ranks.proofs.PartFacts.{parts_between}
use Rattle.central_ranks.proofs.ranks.Ranks.count.Goals as goal

pub returns-clause-between : goal.returns-clause-between
returns-clause-between c = rw (sym (ap (λ (s : RanksHeld). s.parts) c.self.view_is)) (parts_between _ c.self.invariant)
