use Rattle.std.proofs.Common.{◌≡◌, ◌∙◌, subst, sym, ap}
use Rattle.mpi_law.specs.Registry.Messages.{receive_of, message_of}
use Rattle.central_law.specs.Tests.{match_test}
use Rattle.central_mail.specs.Mail.{mail_registry, mail_of, can_take}
use Rattle.central_mail.proofs.Registries.{can_take_by_mail}
use Rattle.central_registry.specs.Held.{TablesHeld}
use Rattle.central_registry.proofs.tables.Tables.may_match.Goals as goal

pub returns-in-Some : goal.returns-in-Some
returns-in-Some c =
    let m = c.in-Some.m in
    let r = c.args.rank in
    let g = c.args.self.now.state in
    let there : c.can_take.result ≡ can_take (mail_registry g.comms (mail_of g)) (receive_of g r m.receive) (message_of g m.from m.number) =
    subst (λ (z : TablesHeld). c.can_take.result ≡ can_take (mail_registry z.state.comms (mail_of z.state)) (receive_of z.state r m.receive) (message_of z.state m.from m.number)) c.self.view_is c.can_take.ensures in
    there ∙ sym (can_take_by_mail g (receive_of g r m.receive) (message_of g m.from m.number)) ∙ ap (match_test g r) (sym c.in-Some.is)
