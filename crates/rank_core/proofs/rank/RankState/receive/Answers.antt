use Rattle.rank_core.proofs.CountFacts.{calls-low}
use Rattle.rank_core.proofs.rank.RankState.receive.Goals as goal

pub call-requires-clause-count : goal.call-requires-clause-count
call-requires-clause-count g c = calls-low _ _ c.args.thread c.self.view_is c.requires.counts
