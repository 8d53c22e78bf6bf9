use Rattle.rank_core.proofs.AnswerFacts.{answer-rank, answer-setting, answer-steps}
use Rattle.rank_core.proofs.rank.RankState.answer.Goals as goal

pub returns-clause-step : goal.returns-clause-step
returns-clause-step g c =
    answer-steps _ _ c.args.thread c.take_waits-waits.result c.take_waits-waits.new.self c.end_wait-reply.new.self.state c.end_wait-reply.result c.self.view_is c.take_waits-waits.ensures.waits
    c.take_waits-waits.ensures.rows c.end_wait-reply.ensures.state c.end_wait-reply.ensures.reply c.entry.result c.requires.enabled (rw c.nothing.ensures at c.entry.ensures)

pub returns-clause-rank : goal.returns-clause-rank
returns-clause-rank g c =
    answer-rank _ _ c.args.thread c.take_waits-waits.result c.take_waits-waits.new.self c.end_wait-reply.new.self.state c.end_wait-reply.result c.self.view_is c.take_waits-waits.ensures.waits
    c.take_waits-waits.ensures.rows c.end_wait-reply.ensures.state c.end_wait-reply.ensures.reply

pub returns-clause-setting : goal.returns-clause-setting
returns-clause-setting g c =
    answer-setting _ _ c.args.thread c.take_waits-waits.result c.take_waits-waits.new.self c.end_wait-reply.new.self.state c.end_wait-reply.result c.self.view_is c.take_waits-waits.ensures.waits
    c.take_waits-waits.ensures.rows c.end_wait-reply.ensures.state c.end_wait-reply.ensures.reply
