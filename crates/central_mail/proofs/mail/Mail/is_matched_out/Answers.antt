use Rattle.std.proofs.Common.{not, ap, refl, ◌∙◌}
use Rattle.std.specs.List.{list_any}
use Rattle.mpi_law.specs.Registry.Messages.{is_waiting, may_match}
use Rattle.central_comms.specs.Places.{places_where}
use Rattle.central_mail.specs.Mail.{mail_registry}
use Rattle.central_mail.specs.Rows.{blank_receive}
use Rattle.central_mail.proofs.Walks.{all_fail, any_walked}
use Rattle.central_mail.proofs.Kept.{takes_none}
use Rattle.central_mail.proofs.mail.Mail.is_matched_out.Goals as goal

pub returns : goal.returns
returns c =
    ap not
    (c.any_matches.ensures
    ∙ any_walked blank_receive is_waiting (λ x. list_any (may_match (mail_registry c.args.comms.now c.args.self.now) x) c.args.self.now.messages) (λ x done. takes_none x done (mail_registry c.args.comms.now c.args.self.now) c.args.self.now.messages)
    c.args.self.now.receives c.args.self.now.receives c.waiting.result.now refl (c.waiting.ensures ∙ ap (λ s. places_where is_waiting s.receives) c.self.view_is))
    ∙ all_fail (λ x. list_any (may_match (mail_registry c.args.comms.now c.args.self.now) x) c.args.self.now.messages) c.args.self.now.receives
