use Rattle.std.proofs.Common.{ap, ◌∙◌}
use Rattle.central_comms.specs.Places.{places_where}
use Rattle.mpi_law.specs.Registry.Messages.{is_unmatched}
use Rattle.central_mail.specs.Rows.{blank_message}
use Rattle.central_mail.specs.Mail.{mail_registry, no_mail}
use Rattle.mpi_law.specs.Registry.Messages.{is_overtaken}
use Rattle.central_mail.proofs.Walks.{any_walked}
use Rattle.central_mail.proofs.Kept.{not_overtaking}
use Rattle.central_mail.proofs.sent.Sent.is_overtaken.Goals as goal

pub returns : goal.returns
returns c =
    c.any_overtakes.ensures ∙ any_walked blank_message is_unmatched (is_overtaken (mail_registry c.args.comms.now no_mail) c.args.receive.now c.args.message.now) (λ x done. not_overtaking x done (mail_registry c.args.comms.now no_mail) c.args.receive.now c.args.message.now) c.deref.result.now c.args.self.now c.deref-2.result.now
    (c.deref.ensures.value ∙ c.self.view_is) (c.deref-2.ensures.value ∙ c.self.invariant.passing ∙ ap (λ xs. places_where is_unmatched xs) c.self.view_is)
