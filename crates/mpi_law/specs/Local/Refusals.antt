-- The refusals that operations share, each the first that holds. Their order, that objects of one call are of one session,
-- and what is refused for a bound target are this project's own.
use Rattle.std.specs.Prelude.{ℕ, ◌==◌, not, Bool, true, false, List, Option, Some, None, is_some, Result, Ok, Err, nat_lt, nat_le}
use Rattle.mpi_base.specs.declared.messages.SrcArg.{SrcArg}
use Rattle.mpi_base.specs.declared.messages.SrcArg.TheVariants as source
use Rattle.mpi_base.specs.declared.errors.ErrClass.{ErrClass}
use Rattle.mpi_base.specs.declared.errors.ErrClass.TheVariants as class
use Rattle.local_law.specs.Names.{bound_of}
use Rattle.local_law.specs.Objects as objects
use Rattle.mpi_law.specs.declared.effects.TheConstants.{MOST_TAG}
use Rattle.mpi_law.specs.Local.Objects.{Local, Bound}

-- the first refusal, or what comes of it all
abbrev pub and_then : {A B : Type 0} → Result A ErrClass → (A → Result B ErrClass) → Result B ErrClass
and_then (Ok v) f = f v
and_then (Err e) f = Err e

-- refused where the test holds
abbrev pub refuse_if : Bool → ErrClass → Result Bool ErrClass
refuse_if true e = Err e
refuse_if false e = Ok true

-- an argument that stands for nothing
abbrev pub as_arg : {A : Type 0} → Option A → Result A ErrClass
as_arg None = Err class.Arg
as_arg (Some value) = Ok value

-- Objects

abbrev pub as_session : Option Bound → Result ℕ ErrClass
as_session None = Err class.Session
as_session (Some objects.Reserved) = Err class.Session
as_session (Some (objects.Session s)) = Ok s
as_session (Some (objects.Group ms s)) = Err class.Session
as_session (Some (objects.Comm c s)) = Err class.Session
as_session (Some (objects.Request n)) = Err class.Session

-- the members of a group, or the name of a communicator, and its session
abbrev pub GroupOf : Type 0
GroupOf = List ℕ × ℕ

abbrev pub CommOf : Type 0
CommOf = ℕ × ℕ

abbrev pub as_group : Option Bound → Result GroupOf ErrClass
as_group None = Err class.Group
as_group (Some objects.Reserved) = Err class.Group
as_group (Some (objects.Session s)) = Err class.Group
as_group (Some (objects.Group ms s)) = Ok (ms, s)
as_group (Some (objects.Comm c s)) = Err class.Group
as_group (Some (objects.Request n)) = Err class.Group

abbrev pub as_comm : Option Bound → Result CommOf ErrClass
as_comm None = Err class.Comm
as_comm (Some objects.Reserved) = Err class.Comm
as_comm (Some (objects.Session s)) = Err class.Comm
as_comm (Some (objects.Group ms s)) = Err class.Comm
as_comm (Some (objects.Comm c s)) = Ok (c, s)
as_comm (Some (objects.Request n)) = Err class.Comm

-- the number of a request's receive
abbrev pub as_request : Option Bound → Result ℕ ErrClass
as_request None = Err class.Request
as_request (Some objects.Reserved) = Err class.Request
as_request (Some (objects.Session s)) = Err class.Request
as_request (Some (objects.Group ms s)) = Err class.Request
as_request (Some (objects.Comm c s)) = Err class.Request
as_request (Some (objects.Request n)) = Ok n

-- objects of one call are of one session (11.3: they shall not be intermixed)
abbrev pub one_session : ℕ → ℕ → Result Bool ErrClass
one_session s t = refuse_if (not (s == t)) class.Session

-- two groups of one session, two communicators of one session, a communicator and a group of one session
abbrev pub two_groups : Local → List ℕ → List ℕ → Result (GroupOf × GroupOf) ErrClass
two_groups l first second =
    and_then (as_group (bound_of l.names first)) (λ g.
    and_then (as_group (bound_of l.names second)) (λ h.
    and_then (one_session g.1 h.1) (λ q.
    Ok (g, h))))

abbrev pub two_comms : Local → List ℕ → List ℕ → Result (CommOf × CommOf) ErrClass
two_comms l first second =
    and_then (as_comm (bound_of l.names first)) (λ c.
    and_then (as_comm (bound_of l.names second)) (λ d.
    and_then (one_session c.1 d.1) (λ q.
    Ok (c, d))))

abbrev pub comm_and_group : Local → List ℕ → List ℕ → Result (CommOf × GroupOf) ErrClass
comm_and_group l comm group =
    and_then (as_comm (bound_of l.names comm)) (λ c.
    and_then (as_group (bound_of l.names group)) (λ g.
    and_then (one_session c.1 g.1) (λ q.
    Ok (c, g))))

-- Other arguments

-- a tag of a message, or of a group under a communicator, is at most the greatest (3.2.3)
abbrev pub good_tag : ℕ → Result Bool ErrClass
good_tag tag = refuse_if (nat_lt MOST_TAG tag) class.Tag

-- any tag is good
abbrev pub good_any_tag : Option ℕ → Result Bool ErrClass
good_any_tag None = Ok true
good_any_tag (Some tag) = good_tag tag

-- a rank of a communicator of a size (3.2.4); the null process is good too (3.11)
abbrev pub good_rank : ℕ → ℕ → Result Bool ErrClass
good_rank size rank = refuse_if (nat_le size rank) class.Rank

abbrev pub good_dest : ℕ → Option ℕ → Result Bool ErrClass
good_dest size None = Ok true
good_dest size (Some rank) = good_rank size rank

abbrev pub good_source : ℕ → SrcArg → Result Bool ErrClass
good_source size (source.At rank) = good_rank size rank
good_source size source.Any = Ok true
good_source size source.Null = Ok true

-- a target must not be bound or reserved
abbrev pub free_target : Local → List ℕ → Result Bool ErrClass
free_target l target = refuse_if (is_some (bound_of l.names target)) class.Arg
