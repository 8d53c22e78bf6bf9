-- What an operation does to the names of its rank, and when it replies. What it does is one type, for the registry and for a
-- rank (`mpi_law/src/effects.rt`); they differ in how a communicator is named, which is a number for both.
use Rattle.std.specs.Prelude.{ℕ, ◌+◌, ◌==◌, Bool, List, Option, Some, None, is_some}
use Rattle.mpi_base.specs.declared.replies.Reply.{Reply}
use Rattle.mpi_base.specs.declared.replies.Reply.TheVariants as reply
use Rattle.local_law.specs.Names.{bind, unbind}
use Rattle.local_law.specs.Objects as objects
use Rattle.local_law.specs.Objects.{open_session, close_session}
use Rattle.mpi_law.specs.declared.effects.Origin.{Origin}
use Rattle.mpi_law.specs.declared.effects.Effect.{Effect}
use Rattle.mpi_law.specs.declared.effects.Effect.TheVariants.{Says, Opens, Groups, Ungroups, Joins, Frees, Ends, Sends, Receives, Posts, NullPosts, Completes, Awaits}
use Rattle.mpi_law.specs.Local.Objects.{Local, with_names}

-- the rank's objects once an operation has done this, where the rank has posted so many receives before: the request of a
-- receive is named by the receive's number, that of one from the null process by 0 (3.7.2, 3.11)
abbrev pub local_after : ℕ → Local → Effect ℕ → Local
local_after receives l (Says said) = l
local_after receives l (Opens target) = open_session (with_names l (bind l.names target (objects.Session (l.opened + 1)))) (l.opened + 1)
local_after receives l (Groups target members session) = with_names l (bind l.names target (objects.Group members session))
local_after receives l (Ungroups name) = with_names l (unbind l.names name)
local_after receives l (Joins a) = with_names l (bind l.names a.target objects.Reserved)
local_after receives l (Frees name c) = with_names l (unbind l.names name)
local_after receives l (Ends name session) = close_session l (λ s. s == session)
local_after receives l (Sends m) = l
local_after receives l (Receives x) = l
local_after receives l (Posts target x) = with_names l (bind l.names target (objects.Request (receives + 1)))
local_after receives l (NullPosts target) = with_names l (bind l.names target (objects.Request 0))
local_after receives l (Completes name number) = with_names l (unbind l.names name)
local_after receives l (Awaits name) = l

-- the reply, where it comes at once; else the thread waits
abbrev pub said_at_once : Effect ℕ → Option Reply
said_at_once (Says said) = Some said
said_at_once (Opens target) = Some reply.Fine
said_at_once (Groups target members session) = Some (reply.Group members)
said_at_once (Ungroups name) = Some reply.Fine
said_at_once (Joins a) = None
said_at_once (Frees name c) = None
said_at_once (Ends name session) = None
said_at_once (Sends m) = Some reply.Fine
said_at_once (Receives x) = None
said_at_once (Posts target x) = Some reply.Fine
said_at_once (NullPosts target) = Some reply.Fine
said_at_once (Completes name number) = None
said_at_once (Awaits name) = None

abbrev pub is_said : Effect ℕ → Bool
is_said e = is_some (said_at_once e)

-- what a call looks at besides the rank's own objects: the members of each communicator, whether a creation of this origin
-- is open here, and whether one of this session is
pub record Around : Type 0 where
  pub members : ℕ → List ℕ
  pub busy : Origin ℕ → Bool
  pub engaged : ℕ → Bool
