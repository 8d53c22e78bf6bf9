-- Messages and waiting: what the operations on them do at their rank. Sections are those of MPI 4.0.
use Rattle.std.specs.Prelude.{ℕ, List, [], length, Option, Some, None, Result, Ok}
use Rattle.mpi_base.specs.declared.messages.SrcArg.{SrcArg}
use Rattle.mpi_base.specs.declared.messages.SrcArg.TheVariants as source
use Rattle.mpi_base.specs.declared.replies.Reply.{Reply}
use Rattle.mpi_base.specs.declared.replies.Reply.TheVariants as reply
use Rattle.mpi_base.specs.declared.errors.ErrClass.{ErrClass}
use Rattle.local_law.specs.Names.{bound_of}
use Rattle.mpi_law.specs.declared.effects.Receiving.{Receiving}
use Rattle.mpi_law.specs.declared.effects.Effect.{Effect}
use Rattle.mpi_law.specs.declared.effects.Effect.TheVariants.{Says, Sends, Posts, NullPosts, Receives, Completes, Awaits}
use Rattle.mpi_law.specs.Local.Objects.{Local}
use Rattle.mpi_law.specs.Local.Effects.{Around}
use Rattle.mpi_law.specs.Local.Refusals.{and_then, CommOf, as_comm, as_request, good_tag, good_any_tag, good_dest, good_source, free_target}

-- to the null process nothing is sent (3.11)
abbrev pub begin_send : ℕ → Option ℕ → ℕ → List ℕ → Effect ℕ
begin_send comm None tag payload = Says reply.Fine
begin_send comm (Some to) tag payload = Sends (record { comm = comm; to = to; tag = tag; payload = payload })

-- a message (3.2.1); that each send is done at once is this project's own
abbrev pub call_send : Around → Local → List ℕ → Option ℕ → ℕ → List ℕ → Result (Effect ℕ) ErrClass
call_send around l comm to tag payload =
    and_then (as_comm (bound_of l.names comm)) (λ c.
    and_then (good_dest (length (around.members c.0)) to) (λ q.
    and_then (good_tag tag) (λ q'.
    Ok (begin_send c.0 to tag payload))))

-- what is received from the null process (3.11)
abbrev pub from_nobody : Reply
from_nobody = reply.Received None None []

abbrev pub receiving : ℕ → Option ℕ → Option ℕ → ℕ → Receiving ℕ
receiving comm from tag room = record { comm = comm; source = from; tag = tag; room = room }

-- from the null process nothing is awaited, and no receive is posted (3.11)
abbrev pub begin_receive : ℕ → SrcArg → Option ℕ → ℕ → Effect ℕ
begin_receive comm (source.At rank) tag room = Receives (receiving comm (Some rank) tag room)
begin_receive comm source.Any tag room = Receives (receiving comm None tag room)
begin_receive comm source.Null tag room = Says from_nobody

-- the communicator of a receive (3.2.4)
abbrev pub good_receive : Around → Local → List ℕ → SrcArg → Option ℕ → Result CommOf ErrClass
good_receive around l comm from tag =
    and_then (as_comm (bound_of l.names comm)) (λ c.
    and_then (good_source (length (around.members c.0)) from) (λ q.
    and_then (good_any_tag tag) (λ q'.
    Ok c)))

abbrev pub call_recv : Around → Local → List ℕ → SrcArg → Option ℕ → ℕ → Result (Effect ℕ) ErrClass
call_recv around l comm from tag room = and_then (good_receive around l comm from tag) (λ c. Ok (begin_receive c.0 from tag room))

-- a receive is posted, and its request is bound (3.7.2)
abbrev pub begin_request : ℕ → SrcArg → Option ℕ → ℕ → List ℕ → Effect ℕ
begin_request comm (source.At rank) tag room target = Posts target (receiving comm (Some rank) tag room)
begin_request comm source.Any tag room target = Posts target (receiving comm None tag room)
begin_request comm source.Null tag room target = NullPosts target

abbrev pub call_irecv : Around → Local → List ℕ → SrcArg → Option ℕ → ℕ → List ℕ → Result (Effect ℕ) ErrClass
call_irecv around l comm from tag room target =
    and_then (good_receive around l comm from tag) (λ c.
    and_then (free_target l target) (λ q.
    Ok (begin_request c.0 from tag room target)))

-- a request is completed (3.7.3); that its name is unbound when the caller begins to wait is this project's own
abbrev pub call_wait : Local → List ℕ → Result (Effect ℕ) ErrClass
call_wait l request =
    and_then (as_request (bound_of l.names request)) (λ n.
    Ok (Completes request n))

-- a name is awaited, this project's own; nothing is refused
abbrev pub call_await : List ℕ → Result (Effect ℕ) ErrClass
call_await name = Ok (Awaits name)
