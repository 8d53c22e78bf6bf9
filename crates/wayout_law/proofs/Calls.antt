-- Calls, by what they ask for.
use Rattle.std.proofs.Common.{◌≡◌, ◌<◌, ◌≤◌, ◌+◌, ◌==◌, ℕ, Bool, true, false, List, [], ◌∷◌, map, length, Some, None, refl, arith}
use Rattle.std.specs.Prelude.{if◌then◌else◌}
use Rattle.mpi_base.specs.declared.keys.Kind.TheVariants as kind
use Rattle.mpi_base.specs.declared.ops.Op.{Op}
use Rattle.mpi_law.specs.ScriptLists.{AllScripts, next_op}
use Rattle.local_law.specs.Names.{bind}
use Rattle.local_law.specs.Objects as objects
use Rattle.mpi_law.specs.Local.{effect_of}
use Rattle.mpi_law.specs.Local.Objects.{with_names}
use Rattle.mpi_law.specs.declared.effects.Origin.{Origin}
use Rattle.mpi_law.specs.declared.effects.Origin.TheVariants.{Grouped, Duplicated, Divided, GroupedOn}
use Rattle.mpi_law.specs.declared.effects.Effect.{Effect}
use Rattle.mpi_law.specs.declared.effects.Effect.TheVariants.{Says, Opens, Groups, Ungroups, Joins, Frees, Ends, Sends, Receives, Posts, NullPosts, Completes, Awaits}
use Rattle.agree_law.specs.Tree.{member_at}
use Rattle.mpi_protocol.specs.Packets.{Message}
use Rattle.comm_law.specs.declared.rows.CommRow.{CommRow}
use Rattle.comm_law.specs.Comms.{Comms, comm_at, at, one_call_more, count_call}
use Rattle.mpi_protocol.specs.declared.rows.Waits.TheVariants.{Nothing, Creation, Freeing, Ending, Receiving, Awaiting}
use Rattle.mpi_protocol.specs.Rank.{Rank, thread_at, with_call}
use Rattle.mpi_protocol.specs.Moves.{arrives}
use Rattle.mpi_protocol.specs.Calls.{key_from, key_on, key_under, key_of, around_here, counted, opens, message_of, sent, posted_of, with_post, called, calls}
use Rattle.wayout_law.specs.Potential.{sum_of, More, comm_cost, comms_cost, agree_cost}
use Rattle.wayout_law.proofs.Bound.{FewMore}
use Rattle.wayout_law.proofs.AgreeSpends.{agreeing_cost, begin-cost}
use Rattle.wayout_law.proofs.Shares.{begin_share-cost}
use Rattle.wayout_law.proofs.Leaves.{arrives-cost, posts-cost, freed-same}
use Rattle.wayout_law.proofs.Threads.{threads-called}
use Rattle.wayout_law.proofs.Worlds.{Spends}

opens-cost : (n : ℕ) (more : More) (x : Rank) (o : Origin ℕ) → FewMore more → agree_cost n more x.rank (opens x o).part + agreeing_cost (opens x o).sent ≤ agree_cost n more x.rank x.agree + (n + 11)
opens-cost n more x (Grouped group tag) few =
    let a = begin-cost n more x.rank x.setting.contexts x.agree (key_from group tag) in let f = few (key_from group tag) 0 in omega (arith, a, f)
opens-cost n more x (Duplicated c) few =
    let a = begin-cost n more x.rank x.setting.contexts x.agree (key_on x.comms c kind.Dup) in let f = few (key_on x.comms c kind.Dup) 0 in omega (arith, a, f)
opens-cost n more x (Divided c share) few = begin_share-cost n more x.rank x.agree (key_on x.comms c kind.Share) share
opens-cost n more x (GroupedOn c tag group) few =
    let a = begin-cost n more x.rank x.setting.contexts x.agree (key_under c tag group) in let f = few (key_under c tag group) 0 in omega (arith, a, f)

counted-call : (n c : ℕ) (t : Comms) → comms_cost n (count_call t c) ≡ comms_cost n t
counted-call n c t = rows t.rows
  where
    one : (b : Bool) (m : CommRow) → comm_cost n (if b then one_call_more m else m) ≡ comm_cost n m
    one true m = refl
    one false m = refl

    rows : (ms : List CommRow) → sum_of (comm_cost n) (map (λ m. if at c m then one_call_more m else m) ms) ≡ sum_of (comm_cost n) ms
    rows [] = refl
    rows (m ∷ ms) = let ih = rows ms in let a = one (at c m) m in omega (arith, ih, a)

counted-same : (n : ℕ) (t : Comms) (o : Origin ℕ) → comms_cost n (counted t o) ≡ comms_cost n t
counted-same n t (Grouped group tag) = refl
counted-same n t (Duplicated c) = counted-call n c t
counted-same n t (Divided c share) = counted-call n c t
counted-same n t (GroupedOn c tag group) = refl

-- the thread has one operation less
spend-called : (n : ℕ) (more : More) (scripts : AllScripts) (r : ℕ) (x : Rank) (t : ℕ) (op : Op) (e : Effect ℕ) → FewMore more → t < length x.threads → next_op scripts r t (thread_at x t).calls ≡ Some op → Spends n more scripts r x None (called x t e)
spend-called n more scripts r x t op (Says said) few lt next = let a = threads-called n scripts r t x Nothing op lt next in omega (arith, a)
spend-called n more scripts r x t op (Opens target) few lt next = let a = threads-called n scripts r t x Nothing op lt next in omega (arith, a)
spend-called n more scripts r x t op (Groups target members session) few lt next = let a = threads-called n scripts r t x Nothing op lt next in omega (arith, a)
spend-called n more scripts r x t op (Ungroups name) few lt next = let a = threads-called n scripts r t x Nothing op lt next in omega (arith, a)
spend-called n more scripts r x t op (Joins a) few lt next =
    let h = threads-called n scripts r t x (Creation (key_of x.comms a.origin) a.target a.session) op lt next in
    let o = opens-cost n more x a.origin few in
    let c = counted-same n x.comms a.origin in
    omega (arith, h, o, c)
spend-called n more scripts r x t op (Frees name c) few lt next =
    let h = threads-called n scripts r t x (Freeing (comm_at x.comms c).serial) op lt next in let f = freed-same n (at c) x.comms in omega (arith, h, f)
spend-called n more scripts r x t op (Ends name s) few lt next =
    let h = threads-called n scripts r t x (Ending s) op lt next in let f = freed-same n (λ m. m.session == s) x.comms in omega (arith, h, f)
spend-called n more scripts r x t op (Sends m) few lt next = go (to == x.rank)
  where
    y : Rank
    y = record x { local = x.local; threads = with_call x t Nothing; sends = x.sends + 1 }

    to : ℕ
    to = member_at (comm_at x.comms m.comm).members m.to

    go : (b : Bool) → Spends n more scripts r x None (sent (if b then (arrives y (message_of x m), []) else ((y, None), record { to = to; packet = Message (message_of x m) } ∷ [])))
    go true = let a = threads-called n scripts r t x Nothing op lt next in let b = arrives-cost n more scripts r y (message_of x m) in omega (arith, a, b)
    go false = let a = threads-called n scripts r t x Nothing op lt next in omega (arith, a)
spend-called n more scripts r x t op (Receives a) few lt next =
    let h = threads-called n scripts r t x (Receiving (x.posts + 1)) op lt next in
    let b = posts-cost n more scripts r (with_post x t x.local a (Receiving (x.posts + 1))) (posted_of x a) in
    omega (arith, h, b)
spend-called n more scripts r x t op (Posts target a) few lt next =
    let h = threads-called n scripts r t x Nothing op lt next in
    let b = posts-cost n more scripts r (with_post x t (with_names x.local (bind x.local.names target (objects.Request (x.posts + 1)))) a Nothing) (posted_of x a) in
    omega (arith, h, b)
spend-called n more scripts r x t op (NullPosts target) few lt next = let a = threads-called n scripts r t x Nothing op lt next in omega (arith, a)
spend-called n more scripts r x t op (Completes name m) few lt next = let a = threads-called n scripts r t x (Receiving m) op lt next in omega (arith, a)
spend-called n more scripts r x t op (Awaits name) few lt next = let a = threads-called n scripts r t x (Awaiting name) op lt next in omega (arith, a)

pub spend-calls : (n : ℕ) (more : More) (scripts : AllScripts) (r : ℕ) (x : Rank) (t : ℕ) (op : Op) → FewMore more → t < length x.threads → next_op scripts r t (thread_at x t).calls ≡ Some op → Spends n more scripts r x None (calls x t op)
unfolding calls
spend-calls n more scripts r x t op few lt next = spend-called n more scripts r x t op (effect_of x.setting x.rank (around_here x) x.local op) few lt next
