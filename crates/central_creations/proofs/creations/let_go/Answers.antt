use Rattle.std.proofs.Common.{rules, get_or}
use Rattle.std.proofs.lemmas.Fn.{filter_same}
use Rattle.mpi_law.specs.Registry.State.{blank_creation}
use Rattle.central_creations.specs.Waiting.{is_waiting}
use Rattle.central_creations.proofs.creations.let_go.Goals as goal

pub returns : goal.returns
returns c = filter_same _ (λ p. is_waiting (get_or c.args.rows.now p blank_creation)) _ (λ x b f' h. search rules) _ _ c.retain.ensures.filtered
