-- The name that an effect binds.
use Rattle.std.specs.Prelude.{◌≡◌, ℕ, List, Option, Some, None, IfSome}
use Rattle.local_law.specs.Names.{Rows, bound_of}
use Rattle.mpi_law.specs.Local.Objects.{Bound}
use Rattle.mpi_law.specs.declared.effects.Effect.{Effect}
use Rattle.mpi_law.specs.declared.effects.Effect.TheVariants.{Says, Opens, Groups, Ungroups, Joins, Frees, Ends, Sends, Receives, Posts, NullPosts, Completes, Awaits}

-- it is None where the effect binds none
abbrev pub target_of : Effect ℕ → Option (List ℕ)
target_of (Says said) = None
target_of (Opens target) = Some target
target_of (Groups target members session) = Some target
target_of (Ungroups name) = None
target_of (Joins a) = Some a.target
target_of (Frees name c) = None
target_of (Ends name session) = None
target_of (Sends m) = None
target_of (Receives x) = None
target_of (Posts target x) = Some target
target_of (NullPosts target) = Some target
target_of (Completes name number) = None
target_of (Awaits name) = None

-- it is neither bound nor reserved
abbrev pub BindsFree : Rows Bound → Effect ℕ → Type 0
BindsFree names e = IfSome (target_of e) (λ target. bound_of names target ≡ None)
