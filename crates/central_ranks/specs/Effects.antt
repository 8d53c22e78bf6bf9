-- What an effect binds, and what it adds to the counts of its rank.
use Rattle.std.specs.Prelude.{◌≡◌, ℕ, ◌+◌, List, Option, Some, None, IfSome}
use Rattle.local_law.specs.Names.{Rows, bound_of}
use Rattle.mpi_law.specs.Local.Objects.{Bound}
use Rattle.mpi_law.specs.declared.effects.Effect.{Effect}
use Rattle.mpi_law.specs.declared.effects.Effect.TheVariants.{Says, Opens, Groups, Ungroups, Joins, Frees, Ends, Sends, Receives, Posts, NullPosts, Completes, Awaits}

-- the name that it binds; None where it binds none
abbrev pub target_of : Effect ℕ → Option (List ℕ)
target_of (Says said) = None
target_of (Opens target) = Some target
target_of (Groups target members session) = Some target
target_of (Ungroups name) = None
target_of (Joins a) = Some a.target
target_of (Frees name p) = None
target_of (Ends name session) = None
target_of (Sends m) = None
target_of (Receives x) = None
target_of (Posts target x) = Some target
target_of (NullPosts target) = Some target
target_of (Completes name number) = None
target_of (Awaits name) = None

-- that name is neither bound nor reserved
abbrev pub BindsFree : Rows Bound → Effect ℕ → Type 0
BindsFree names e = IfSome (target_of e) (λ target. bound_of names target ≡ None)

-- how many messages the rank has sent and how many receives it has posted, from how many before
abbrev pub sends_after : ℕ → Effect ℕ → ℕ
sends_after n (Says said) = n
sends_after n (Opens target) = n
sends_after n (Groups target members session) = n
sends_after n (Ungroups name) = n
sends_after n (Joins a) = n
sends_after n (Frees name p) = n
sends_after n (Ends name session) = n
sends_after n (Sends m) = n + 1
sends_after n (Receives x) = n
sends_after n (Posts target x) = n
sends_after n (NullPosts target) = n
sends_after n (Completes name number) = n
sends_after n (Awaits name) = n

abbrev pub posts_after : ℕ → Effect ℕ → ℕ
posts_after n (Says said) = n
posts_after n (Opens target) = n
posts_after n (Groups target members session) = n
posts_after n (Ungroups name) = n
posts_after n (Joins a) = n
posts_after n (Frees name p) = n
posts_after n (Ends name session) = n
posts_after n (Sends m) = n
posts_after n (Receives x) = n + 1
posts_after n (Posts target x) = n + 1
posts_after n (NullPosts target) = n
posts_after n (Completes name number) = n
posts_after n (Awaits name) = n
