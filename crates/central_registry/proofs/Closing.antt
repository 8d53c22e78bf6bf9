-- What is at rest.
use Rattle.std.proofs.Common.{◌≡◌, refl}
use Rattle.mpi_law.specs.Closed.{is_matched_out}
use Rattle.mpi_law.specs.Registry.State.{Registry}
use Rattle.mpi_law.specs.Registry.Messages.{may_match}
use Rattle.central_mail.specs.Mail.{mail_of, mail_registry}

-- what may match is told by communicators, messages and receives alone
pub matched_out : (g : Registry) → is_matched_out (mail_registry g.comms (mail_of g)) ≡ is_matched_out g
unfolding may_match
matched_out g = refl
