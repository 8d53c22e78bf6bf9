use Rattle.agree_law.specs.Part.{stage_of}
use Rattle.mpi_protocol.specs.Answers.{outcome_of}
use Rattle.rank_core.proofs.AnswerFacts.{creation-reply}
use Rattle.rank_core.proofs.rank.RankState.end_wait.Goals as goal

pub returns-in-Creation-clause-reply : goal.returns-in-Creation-clause-reply
returns-in-Creation-clause-reply g c =
    rw c.in-Creation.is
    (creation-reply c.args.self.now.state c.args.thread c.in-Creation.key c.in-Creation.target c.in-Creation.session (outcome_of (stage_of c.args.self.now.state.agree.opened c.in-Creation.key)) c.end_creation.result
    (rw c.in-Creation.is at c.requires.there) c.end_creation.ensures.reply)
