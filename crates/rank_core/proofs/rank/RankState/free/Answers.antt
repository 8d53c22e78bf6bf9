use Rattle.rank_core.proofs.CountFacts.{calls-low}
use Rattle.rank_core.proofs.CommFacts.{rank-freed}
use Rattle.rank_core.proofs.rank.RankState.free.Goals as goal

pub call-requires-clause-count : goal.call-requires-clause-count
call-requires-clause-count g c = calls-low _ _ c.args.thread c.self.view_is c.requires.counts

pub invariant_of-self : goal.invariant_of-self
invariant_of-self g c = rank-freed _ _ c.mark_free.ensures.rank c.self.invariant c.args.ctx c.mark_free.ensures.comms
