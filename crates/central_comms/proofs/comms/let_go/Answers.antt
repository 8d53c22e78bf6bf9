use Rattle.std.proofs.Common.{rules, map, get_or}
use Rattle.std.proofs.lemmas.Fn.{filter_same}
use Rattle.mpi_law.specs.Registry.State.{blank_comm}
use Rattle.central_comms.specs.Rows.{row_comm, is_held}
use Rattle.central_comms.proofs.comms.let_go.Goals as goal

pub returns : goal.returns
returns c = filter_same _ (λ p. is_held (get_or (map row_comm c.args.rows.now) p blank_comm)) _ (λ x b f' h. search rules) _ _ c.retain.ensures.filtered
