use Rattle.std.proofs.Common.{ap, ◌∙◌}
use Rattle.central_comms.specs.Places.{places_where}
use Rattle.mpi_law.specs.Registry.Messages.{is_unmatched}
use Rattle.central_mail.specs.Rows.{blank_message}
use Rattle.mpi_law.specs.Registry.Messages.{is_left_on}
use Rattle.central_mail.proofs.Walks.{count_walked}
use Rattle.central_mail.proofs.Kept.{not_left}
use Rattle.central_mail.proofs.sent.Sent.left_on.Goals as goal

pub returns : goal.returns
returns c =
    c.left_at.ensures ∙ count_walked blank_message is_unmatched (is_left_on c.args.comm c.args.rank) (λ x done. not_left x done c.args.comm c.args.rank) c.deref.result.now c.args.self.now c.deref-2.result.now
    (c.deref.ensures.value ∙ c.self.view_is) (c.deref-2.ensures.value ∙ c.self.invariant.passing ∙ ap (λ xs. places_where is_unmatched xs) c.self.view_is)
