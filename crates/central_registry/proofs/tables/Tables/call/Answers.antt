use Rattle.std.proofs.Common.{◌≡◌, ◌∙◌, true, sym}
use Rattle.central_registry.proofs.SameReplies.{told_same, told_apart}
use Rattle.central_registry.proofs.CallMoves.{is_to_call, called_moves, apart_stays}
use Rattle.central_registry.proofs.tables.Tables.call.Goals as goal

pub returns-then-ne-clause-ok : goal.returns-then-ne-clause-ok
returns-then-ne-clause-ok c =
    let apart = told_apart c.said_at_once.result c.args.reply.now (sym c.if-ne.ensures) in
    apart_stays c.args.setting.now c.args.self.now.state c.args.rank c.args.thread c.args.op.now c.args.matched c.args.reply.now
    c.in-Some.effect c.in-Some.ensures.effect (λ same. apart (c.said_at_once.ensures ∙ same))

pub returns-clause-ok : goal.returns-clause-ok
returns-clause-ok c =
    let s = c.args.setting.now in
    let g = c.args.self.now.state in
    let ready : is_to_call g c.args.rank c.args.thread ≡ true = rw (← c.self.view_is) (sym c.if-not-is_idle.ensures) in
    let same = sym c.said_at_once.ensures ∙ told_same c.said_at_once.result c.args.reply.now (sym c.if-ne.ensures) in
    called_moves s g c.args.rank c.args.thread c.args.op.now c.args.matched c.args.reply.now c.requires.rest.ranks ready
    c.in-Some.effect c.carry_out.result c.carry_out.new.self.state c.in-Some.ensures.effect same c.carry_out.ensures.ok
