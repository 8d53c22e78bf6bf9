use Rattle.std.proofs.Common.{rules, get_or}
use Rattle.std.proofs.lemmas.Fn.{filter_same}
use Rattle.mpi_law.specs.Registry.Messages.{is_unmatched}
use Rattle.central_mail.specs.Rows.{blank_message}
use Rattle.central_mail.proofs.sent.let_go.Goals as goal

pub returns : goal.returns
returns c = filter_same _ (λ k. is_unmatched (get_or c.args.rows.now k blank_message)) _ (λ x b f' h. search rules) _ _ c.retain.ensures.filtered
