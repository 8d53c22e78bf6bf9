use Rattle.std.proofs.Common.{find, position, sym, ap, ◌∙◌}
use Rattle.std.specs.Option.{option_copied}
use Rattle.mpi_law.specs.Registry.Messages.{is_message}
use Rattle.central_mail.proofs.Indexed.{find_placed, find_unplaced}
use Rattle.central_mail.proofs.sent.Sent.message_of.Goals as goal

pub returns-in_err-get : goal.returns-in_err-get
returns-in_err-get c =
    ap option_copied c.from_residual.ensures
    ∙ sym (find_unplaced (is_message c.args.from c.args.number) c.self.inside.rows.items (sym (c.self.invariant.first c.args.from c.args.number) ∙ sym c.get.ensures ∙ c.in_err-get.was))
    ∙ ap (λ rows. find (is_message c.args.from c.args.number) rows) c.self.view_is

pub returns : goal.returns
returns c =
    c.get-2.ensures
    ∙ sym (find_placed (is_message c.args.from c.args.number) c.args.self.now c.in_ok-get.field-0 (ap (λ rows. position (is_message c.args.from c.args.number) rows) (sym c.self.view_is) ∙ sym (c.self.invariant.first c.args.from c.args.number) ∙ sym c.get.ensures ∙ c.in_ok-get.was))
