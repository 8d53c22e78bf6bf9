use Rattle.std.proofs.Common.{ap, ◌∙◌}
use Rattle.central_comms.specs.Places.{places_where}
use Rattle.mpi_law.specs.Registry.Messages.{is_waiting}
use Rattle.central_mail.specs.Rows.{blank_receive}
use Rattle.central_mail.specs.Mail.{mail_registry, no_mail}
use Rattle.mpi_law.specs.Registry.Messages.{is_preceded}
use Rattle.central_mail.proofs.Walks.{any_walked}
use Rattle.central_mail.proofs.Kept.{not_preceding}
use Rattle.central_mail.proofs.posted.Posted.is_preceded.Goals as goal

pub returns : goal.returns
returns c =
    c.any_precedes.ensures ∙ any_walked blank_receive is_waiting (is_preceded (mail_registry c.args.comms.now no_mail) c.args.receive.now c.args.message.now) (λ x done. not_preceding x done (mail_registry c.args.comms.now no_mail) c.args.receive.now c.args.message.now) c.deref.result.now c.args.self.now c.deref-2.result.now
    (c.deref.ensures.value ∙ c.self.view_is) (c.deref-2.ensures.value ∙ c.self.invariant.passing ∙ ap (λ xs. places_where is_waiting xs) c.self.view_is)
