use Rattle.std.proofs.Common.{◌≡◌, false, get_or, sym, ap, refl, ◌∙◌}
use Rattle.std.specs.List.{list_any}
use Rattle.std.specs.Option.{option_copied}
use Rattle.mpi_law.specs.Registry.Messages.{is_unmatched, is_waiting, may_match}
use Rattle.central_comms.specs.Places.{places_where}
use Rattle.central_mail.specs.Mail.{mail_registry}
use Rattle.central_mail.specs.Rows.{blank_message, blank_receive}
use Rattle.central_mail.proofs.Walks.{read_none, read_some, any_walked}
use Rattle.central_mail.proofs.Kept.{not_to_match, takes_none}
use Rattle.central_mail.proofs.mail.Mail.matches_at.Goals as goal

pub returns-in-Some : goal.returns-in-Some
returns-in-Some c =
    let read = read_some c.self.inside.receives c.args.place blank_receive c.in-Some.receive.now (sym c.get.ensures ∙ ap option_copied c.in-Some.is) in
    c.has_match.ensures
    ∙ any_walked blank_message is_unmatched (may_match (mail_registry c.args.comms.now c.args.self.now) c.in-Some.receive.now) (λ m done. not_to_match m done (mail_registry c.args.comms.now c.args.self.now) c.in-Some.receive.now)
    c.args.self.now.messages c.args.self.now.messages c.unmatched.result.now refl (c.unmatched.ensures ∙ ap (λ s. places_where is_unmatched s.messages) c.self.view_is)
    ∙ ap (λ x. list_any (may_match (mail_registry c.args.comms.now c.args.self.now) x) c.args.self.now.messages) (sym read ∙ ap (λ s. get_or s.receives c.args.place blank_receive) c.self.view_is)

pub returns-in-None : goal.returns-in-None
returns-in-None c =
    let blank = read_none c.self.inside.receives c.args.place blank_receive (sym c.get.ensures ∙ ap option_copied c.in-None.is) in
    let closed : is_waiting (get_or c.args.self.now.receives c.args.place blank_receive) ≡ false =
    ap (λ s. is_waiting (get_or s.receives c.args.place blank_receive)) (sym c.self.view_is) ∙ ap is_waiting blank in
    sym (takes_none (get_or c.args.self.now.receives c.args.place blank_receive) closed (mail_registry c.args.comms.now c.args.self.now) c.args.self.now.messages)
