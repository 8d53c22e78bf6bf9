use Rattle.std.proofs.Common.{ap, refl, rules}
use Rattle.mpi_protocol.specs.Moves.{Move}
use Rattle.rank_core.proofs.CountFacts.{calls-low}
use Rattle.rank_core.proofs.CreationFacts.{comm-calls-low, joined, rank-opened}
use Rattle.rank_core.proofs.rank.RankState.join.Goals as goal

pub begin-requires : goal.begin-requires
begin-requires g c = (search rules, (search rules, (search rules, (search rules, comm-calls-low _ _ c.self.view_is c.requires.counts))))

pub call-requires-clause-count : goal.call-requires-clause-count
call-requires-clause-count g c = calls-low _ _ c.args.thread c.self.view_is c.requires.counts

pub invariant_of-self : goal.invariant_of-self
invariant_of-self g c =
    rank-opened c.self.inside.comms.comms c.begin.new.comms.comms c.args.asked.origin _ _ c.begin.ensures.rank c.self.invariant c.begin.ensures.step.becomes.rank c.begin.ensures.step.becomes.top
    c.begin.ensures.comms

pub returns-clause-state : goal.returns-clause-state
returns-clause-state g c =
    ap (λ (m : Move). m.state)
    (joined _ _ c.args.thread c.args.asked c.key_of-key.result c.self.inside.agree c.begin.new.agree c.begin.new.comms.comms c.hold.new.self.local c.call.new.self _ _ c.begin.new.out.items c.self.view_is
    c.out.view_is c.requires.ready refl c.self.invariant.reach refl c.key_of-key.ensures c.begin.ensures.step c.begin.ensures.comms (rw c.copy.ensures.same at c.hold.ensures.local) c.call.ensures)

pub returns-clause-sent : goal.returns-clause-sent
returns-clause-sent g c =
    ap (λ (m : Move). m.sent)
    (joined _ _ c.args.thread c.args.asked c.key_of-key.result c.self.inside.agree c.begin.new.agree c.begin.new.comms.comms c.hold.new.self.local c.call.new.self _ _ c.begin.new.out.items c.self.view_is
    c.out.view_is c.requires.ready refl c.self.invariant.reach refl c.key_of-key.ensures c.begin.ensures.step c.begin.ensures.comms (rw c.copy.ensures.same at c.hold.ensures.local) c.call.ensures)
