-- What a verdict does to the communicators of a rank.
use Rattle.std.specs.Prelude.{List}
use Rattle.mpi_base.specs.declared.keys.Key.{Key}
use Rattle.agree_law.specs.declared.rows.Verdict.{Verdict}
use Rattle.agree_law.specs.declared.rows.Verdict.TheVariants.{Ready, Retry, Context, Exhausted}
use Rattle.comm_law.specs.Comms.{Comms, add}
use Rattle.mpi_protocol.specs.declared.rows.ThreadRow.{ThreadRow}
use Rattle.mpi_protocol.specs.Rank.{session_of}

-- with a context there is a communicator more, in the session of its creation
abbrev pub comms_after : Comms → List ThreadRow → Key → Verdict → Comms
comms_after t threads key Ready = t
comms_after t threads key Retry = t
comms_after t threads key (Context c) = add t c key.members (session_of threads key)
comms_after t threads key Exhausted = t
