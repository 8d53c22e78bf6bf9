-- What calls and answers do to the cost of the threads.
use Rattle.std.proofs.Common.{◌≡◌, ◌<◌, ◌≤◌, ◌+◌, ◌*◌, ℕ, zero, suc, Bool, true, false, List, [], ◌∷◌, length, get_or, slice_get, Option, Some, None, refl, arith}
use Rattle.std.specs.Prelude.{if◌then◌else◌}
use Rattle.mpi_base.specs.declared.keys.Key.{Key}
use Rattle.mpi_base.specs.Keys.{same_key}
use Rattle.mpi_base.specs.declared.ops.Op.{Op}
use Rattle.mpi_law.specs.ScriptLists.{AllScripts, script_of, next_op}
use Rattle.mpi_protocol.specs.declared.rows.Waits.{Waits}
use Rattle.mpi_protocol.specs.declared.rows.Waits.TheVariants.{Nothing, Creation, Uncoloured, Freeing, Ending, Receiving, Awaiting}
use Rattle.mpi_protocol.specs.declared.rows.ThreadRow.{ThreadRow}
use Rattle.mpi_protocol.specs.Rank.{Rank, idle_thread, thread_at, is_idle, with_call, with_waits, goes_on, going_on, with_key}
use Rattle.wayout_law.specs.Potential.{sum_at, waits_now, left_after, thread_cost, threads_cost}
use Rattle.wayout_law.proofs.Sums.{sum_at-put}

left-next : (os : List Op) (k : ℕ) (o : Op) → slice_get os k ≡ Some o → left_after os k ≡ suc (left_after os (suc k))
left-next [] k o e = absurd (cc)
left-next (x ∷ os) zero o e = refl
left-next (x ∷ os) (suc k) o e = left-next os k o e

busy-inside : (ts : List ThreadRow) (t : ℕ) → is_idle (get_or ts t idle_thread).waits ≡ false → t < length ts
busy-inside [] t e = absurd (cc)
busy-inside (x ∷ ts) zero e = omega arith
busy-inside (x ∷ ts) (suc t) e = let ih = busy-inside ts t e in omega (arith, ih)

-- an answer
pub threads-answered : (n : ℕ) (scripts : AllScripts) (r t : ℕ) (x : Rank) → is_idle (thread_at x t).waits ≡ false → threads_cost n scripts r (with_waits x t Nothing) + 1 ≡ threads_cost n scripts r x.threads
threads-answered n scripts r t x e =
    let s = sum_at-put (thread_cost n scripts r) x.threads t (record { calls = (thread_at x t).calls; waits = Nothing }) idle_thread (busy-inside x.threads t e) in
    let z : waits_now (thread_at x t) ≡ 1 = rw e refl in
    omega (arith, s, z)

-- a call
abbrev waits_for : Waits → ℕ
waits_for waits = if is_idle waits then 0 else 1

pub threads-called : (n : ℕ) (scripts : AllScripts) (r t : ℕ) (x : Rank) (waits : Waits) (op : Op) → t < length x.threads → next_op scripts r t (thread_at x t).calls ≡ Some op
    → threads_cost n scripts r (with_call x t waits) + (n + 13) ≤ threads_cost n scripts r x.threads + waits_for waits
threads-called n scripts r t x waits op lt e =
    let row : ThreadRow = thread_at x t in
    let a : ℕ = left_after (script_of scripts r t) (suc row.calls) in
    total (threads_cost n scripts r (with_call x t waits)) (threads_cost n scripts r x.threads) (waits_now row) (waits_for waits) ((n + 13) * left_after (script_of scripts r t) row.calls) ((n + 13) * a) (n + 13)
    (rw next (sum_at-put (thread_cost n scripts r) x.threads t (record { calls = suc row.calls; waits = waits }) idle_thread lt))
    (rw (left-next (script_of scripts r t) row.calls op e) (one_more (n + 13) a))
  where
    next : (thread_at x t).calls + 1 ≡ suc (thread_at x t).calls
    next = omega arith

    total : (u v w z p q c : ℕ) → u + (w + p) ≡ v + (z + q) → p ≡ q + c → u + c ≤ v + z
    total u v w z p q c a b = omega (arith, a, b)

    one_more : (a b : ℕ) → a * suc b ≡ a * b + a
    one_more a b = grind arith

-- the creation of a split goes on
going-idle : (key : Key) (next : Option Key) (waits : Waits) → is_idle (going_on key next waits) ≡ is_idle waits
going-idle key next Nothing = refl
going-idle key next (Creation k target session) = go (same_key k key) next
  where
    go : (b : Bool) (next : Option Key) → is_idle (if b then goes_on key next target session else Creation k target session) ≡ false
    go true None = refl
    go true (Some l) = refl
    go false next = refl
going-idle key next (Uncoloured k target session) = refl
going-idle key next (Freeing serial) = refl
going-idle key next (Ending session) = refl
going-idle key next (Receiving number) = refl
going-idle key next (Awaiting name) = refl

pub threads-key : (n : ℕ) (scripts : AllScripts) (r : ℕ) (threads : List ThreadRow) (key : Key) (next : Option Key) → threads_cost n scripts r (with_key threads key next) ≡ threads_cost n scripts r threads
threads-key n scripts r threads key next = go 0 threads
  where
    go : (i : ℕ) (ts : List ThreadRow) → sum_at (thread_cost n scripts r) i (with_key ts key next) ≡ sum_at (thread_cost n scripts r) i ts
    go i [] = refl
    go i (t ∷ ts) = let ih = go (suc i) ts in let a = going-idle key next t.waits in rw a (omega (arith, ih))
