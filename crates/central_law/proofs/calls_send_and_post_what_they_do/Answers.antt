use Rattle.mpi_law.specs.Registry.State.{part_of}
use Rattle.mpi_law.specs.Registry.Calls.{around}
use Rattle.central_law.proofs.Inside.{within_is}
use Rattle.central_law.proofs.calls_send_and_post_what_they_do.Goals as goal

pub returns : goal.returns
returns c = λ s g r t op. within_is r t s r (around g r) (part_of g r).local op
