use Rattle.std.proofs.Common.{rules}
use Rattle.rank_core.proofs.CommFacts.{context-back, rank-removed}
use Rattle.rank_core.proofs.rank.RankState.back.Goals as goal

pub give_back-requires : goal.give_back-requires
give_back-requires g c = (search rules, context-back c.self.inside.setting _ _ _ c.args.ctx c.self.view_is c.requires.enabled c.self.invariant.reach c.self.invariant.contexts)

pub invariant_of-self : goal.invariant_of-self
invariant_of-self g c = rank-removed _ _ c.remove.ensures.rank c.self.invariant _ _ c.args.ctx c.give_back.ensures.part.rank c.give_back.ensures.part.top c.remove.ensures.comms
