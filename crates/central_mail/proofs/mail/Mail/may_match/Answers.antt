use Rattle.std.proofs.Common.{arith}
use Rattle.central_mail.specs.Mail.{mail_registry}
use Rattle.central_mail.proofs.Registries.{may_match_is}
use Rattle.central_mail.proofs.mail.Mail.may_match.Goals as goal
use Rattle.central_mail.proofs.mail.Mail.may_match.Goals.{then-is_waiting, else-is_waiting}

pub returns-then-is_unmatched : goal.returns-then-is_unmatched
returns-then-is_unmatched c =
    let is = may_match_is (mail_registry c.args.comms.now c.args.self.now) c.args.receive.now c.args.message.now in
    elim c.if-is_waiting.branch [
      | then-is_waiting w ↦ grind (arith, is, c.is_waiting.ensures, w.if-is_waiting.true, w.is_unmatched.ensures, w.value-is, c.if-is_unmatched.true, c.is_first.ensures)
      | else-is_waiting w ↦ absurd (cc (w.value-is, c.if-is_unmatched.true))
    ]

pub returns-else-is_unmatched : goal.returns-else-is_unmatched
returns-else-is_unmatched c =
    let is = may_match_is (mail_registry c.args.comms.now c.args.self.now) c.args.receive.now c.args.message.now in
    elim c.if-is_waiting.branch [
      | then-is_waiting w ↦ grind (arith, is, c.is_waiting.ensures, w.if-is_waiting.true, w.is_unmatched.ensures, w.value-is, c.if-is_unmatched.false)
      | else-is_waiting w ↦ grind (arith, is, c.is_waiting.ensures, w.if-is_waiting.false, w.value-is)
    ]
