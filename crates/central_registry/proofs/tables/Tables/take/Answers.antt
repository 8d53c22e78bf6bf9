use Rattle.std.proofs.Common.{◌≡◌, ◌∙◌, true, Some, subst, sym, ap}
use Rattle.central_law.specs.Tests.{match_test}
use Rattle.central_law.specs.After.{matched_state}
use Rattle.central_mail.specs.Mail.{MailState, mail_of, after_take}
use Rattle.central_mail.proofs.Registries.{taken_if_may}
use Rattle.central_registry.specs.Held.{TablesHeld}
use Rattle.central_registry.proofs.tables.Tables.take.Goals as goal

pub returns-in-Some-clause-state : goal.returns-in-Some-clause-state
returns-in-Some-clause-state c =
    let m = c.in-Some.m in
    let r = c.args.rank in
    let g = c.args.self.now.state in
    let may : match_test g r (Some m) ≡ true = ap (match_test g r) (sym c.in-Some.is) ∙ c.requires in
    let mail : c.take.new.self ≡ after_take (mail_of g) r m.receive m.from m.number = subst (λ (z : TablesHeld). c.take.new.self ≡ after_take (mail_of z.state) r m.receive m.from m.number) c.self.view_is c.take.ensures in
    let now : c.take.new.self ≡ mail_of (matched_state g r (Some m)) = mail ∙ taken_if_may g r m.receive m.from m.number may in
    subst (λ (z : TablesHeld). record z.state { receives = c.take.new.self.receives; messages = c.take.new.self.messages } ≡ matched_state g r c.args.matched) (sym c.self.view_is)
    (ap (λ (z : MailState). record g { receives = z.receives; messages = z.messages }) now ∙ ap (matched_state g r) (sym c.in-Some.is))
