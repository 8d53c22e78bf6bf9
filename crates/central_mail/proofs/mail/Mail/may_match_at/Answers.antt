use Rattle.std.proofs.Common.{◌≡◌, false, get_or, sym, ap, ◌∙◌}
use Rattle.std.specs.Option.{option_copied}
use Rattle.mpi_law.specs.Registry.Messages.{is_unmatched}
use Rattle.central_mail.specs.Mail.{mail_registry}
use Rattle.central_mail.specs.Rows.{blank_message}
use Rattle.central_mail.proofs.Walks.{read_none}
use Rattle.central_mail.proofs.Kept.{not_to_match}
use Rattle.central_mail.proofs.mail.Mail.may_match_at.Goals as goal

pub returns-in-None : goal.returns-in-None
returns-in-None c =
    let blank = read_none c.self.inside.messages c.args.place blank_message (sym c.get.ensures ∙ ap option_copied c.in-None.is) in
    let closed : is_unmatched (get_or c.args.self.now.messages c.args.place blank_message) ≡ false =
    ap (λ s. is_unmatched (get_or s.messages c.args.place blank_message)) (sym c.self.view_is) ∙ ap is_unmatched blank in
    sym (not_to_match (get_or c.args.self.now.messages c.args.place blank_message) closed (mail_registry c.args.comms.now c.args.self.now) c.args.receive.now)
