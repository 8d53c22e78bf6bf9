use Rattle.std.proofs.Common.{ap, ◌∙◌}
use Rattle.central_comms.specs.Places.{places_where}
use Rattle.mpi_law.specs.Registry.Messages.{is_waiting}
use Rattle.central_mail.specs.Rows.{blank_receive}
use Rattle.central_mail.specs.Rows.{waits_on}
use Rattle.central_mail.proofs.Walks.{any_walked}
use Rattle.central_mail.proofs.Kept.{not_waiting_on}
use Rattle.central_mail.proofs.posted.Posted.has_waiting.Goals as goal

pub returns : goal.returns
returns c =
    c.any_waits.ensures ∙ any_walked blank_receive is_waiting (waits_on c.args.comm c.args.rank) (λ x done. not_waiting_on x done c.args.comm c.args.rank) c.deref.result.now c.args.self.now c.deref-2.result.now
    (c.deref.ensures.value ∙ c.self.view_is) (c.deref-2.ensures.value ∙ c.self.invariant.passing ∙ ap (λ xs. places_where is_waiting xs) c.self.view_is)
