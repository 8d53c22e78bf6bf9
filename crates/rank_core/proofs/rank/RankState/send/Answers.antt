use Rattle.std.proofs.Common.{◌++◌, ◌∙◌, ap, arith, sym, refl}
use Rattle.std.proofs.lemmas.List.{append-nil}
use Rattle.std.proofs.lemmas.Bool.Decides.{nat_tests}
use Rattle.mpi_protocol.specs.Moves.{Move}
use Rattle.rank_core.specs.Packets.{sent_by}
use Rattle.rank_core.proofs.CountFacts.{calls-low}
use Rattle.rank_core.proofs.MessageFacts.{sent-here, sent-there, sent_by-push}
use Rattle.rank_core.proofs.rank.RankState.send.Goals as goal

pub call-requires-clause-count : goal.call-requires-clause-count
call-requires-clause-count g c = calls-low _ _ c.args.thread c.self.view_is c.requires.counts

pub returns-then-to-rank-clause-state : goal.returns-then-to-rank-clause-state
returns-then-to-rank-clause-state g c =
    ap (λ (m : Move). m.state)
    (sent-here _ _ c.args.thread c.args.sending c.members-members.result c.member-to.result c.message-msg.result _ c.self.view_is c.members-members.ensures c.member-to.ensures c.message-msg.ensures c.call.ensures _ _
    (grind (arith, nat_tests, c.if-to-rank.true, c.rank.ensures)) c.arrive.ensures.state c.arrive.ensures.matched)

pub returns-then-to-rank-clause-matched : goal.returns-then-to-rank-clause-matched
returns-then-to-rank-clause-matched g c =
    ap (λ (m : Move). m.matched)
    (sent-here _ _ c.args.thread c.args.sending c.members-members.result c.member-to.result c.message-msg.result _ c.self.view_is c.members-members.ensures c.member-to.ensures c.message-msg.ensures c.call.ensures _ _
    (grind (arith, nat_tests, c.if-to-rank.true, c.rank.ensures)) c.arrive.ensures.state c.arrive.ensures.matched)

pub returns-then-to-rank-clause-sent : goal.returns-then-to-rank-clause-sent
returns-then-to-rank-clause-sent g c =
    sym (append-nil _)
    ∙ ap (λ (m : Move). sent_by c.args.self.now.state.setting.contexts c.args.out.now ++ m.sent)
    (sent-here _ _ c.args.thread c.args.sending c.members-members.result c.member-to.result c.message-msg.result _ c.self.view_is c.members-members.ensures c.member-to.ensures c.message-msg.ensures c.call.ensures _ _
    (grind (arith, nat_tests, c.if-to-rank.true, c.rank.ensures)) c.arrive.ensures.state c.arrive.ensures.matched)

pub returns-clause-state : goal.returns-clause-state
returns-clause-state g c =
    ap (λ (m : Move). m.state)
    (sent-there _ _ c.args.thread c.args.sending c.members-members.result c.member-to.result c.message-msg.result _ c.self.view_is c.members-members.ensures c.member-to.ensures c.message-msg.ensures c.call.ensures
    (grind (arith, nat_tests, c.if-to-rank.false, c.rank.ensures)))

pub returns-clause-matched : goal.returns-clause-matched
returns-clause-matched g c =
    ap (λ (m : Move). m.matched)
    (sent-there _ _ c.args.thread c.args.sending c.members-members.result c.member-to.result c.message-msg.result _ c.self.view_is c.members-members.ensures c.member-to.ensures c.message-msg.ensures c.call.ensures
    (grind (arith, nat_tests, c.if-to-rank.false, c.rank.ensures)))

pub returns-clause-sent : goal.returns-clause-sent
returns-clause-sent g c =
    sent_by-push _ _ _ _ _ _ c.out.view_is c.push_reserved.ensures.items refl
    ∙ ap (λ (m : Move). sent_by c.args.self.now.state.setting.contexts c.args.out.now ++ m.sent)
    (sent-there _ _ c.args.thread c.args.sending c.members-members.result c.member-to.result c.message-msg.result _ c.self.view_is c.members-members.ensures c.member-to.ensures c.message-msg.ensures c.call.ensures
    (grind (arith, nat_tests, c.if-to-rank.false, c.rank.ensures)))
