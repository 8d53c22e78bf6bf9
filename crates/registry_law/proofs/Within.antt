-- The registry's part of a rank within a call that sends or posts, and after its reply.
use Rattle.std.proofs.Common.{◌≡◌, ◌≢◌, ◌<◌, ℕ, List, length, get_or, set, refl, ap, ◌∙◌, subst, arith, length-set}
use Rattle.mpi_law.specs.Local.Objects.{Local}
use Rattle.mpi_law.specs.Registry.State as reg
use Rattle.mpi_law.specs.Registry.State.{RankPart, ThreadPart, Wait, blank_part, with_wait}
use Rattle.run_law.proofs.Threads.{part_row}
use Rattle.run_law.proofs.Parts.{thread_in, PartsAfter, set_twice}
use Rattle.run_law.proofs.CallParts.{set_here, parts_set}

-- a thread with so many calls, which waits for something
abbrev pub waiting_part : ℕ → Wait → ThreadPart
waiting_part calls wait = record { calls = calls; wait = wait }

-- after a change of a thread it waits for something else
pub waits_then : (old mid : List RankPart) (r t : ℕ) (l : Local) (calls : ℕ) (now next : Wait) → r < length old → t < length (get_or old r blank_part).threads → PartsAfter old mid r t l (waiting_part calls now)
    → PartsAfter old (set mid r (with_wait (get_or mid r blank_part) t next)) r t l (waiting_part calls next)
waits_then old mid r t l calls now next lr lt h = record {
  long = length-set mid r (with_wait (get_or mid r blank_part) t next) ∙ h.long;
  local = ap (λ (z : RankPart). z.local) here ∙ h.local;
  threads = ap (λ (z : RankPart). z.threads) here ∙ changed;
  others = λ q ne. others q ne;
}
  where
    inside : r < length mid
    inside = let e = h.long in omega (arith, e, lr)

    here : get_or (set mid r (with_wait (get_or mid r blank_part) t next)) r blank_part ≡ with_wait (get_or mid r blank_part) t next
    here = set_here mid r (with_wait (get_or mid r blank_part) t next) blank_part inside

    -- the thread as it was set before
    was : (part_row (get_or mid r blank_part).threads t).calls ≡ calls
    was =
        ap (λ (ts : List ThreadPart). (part_row ts t).calls) h.threads
        ∙ ap (λ (z : ThreadPart). z.calls) (set_here (get_or old r blank_part).threads t (waiting_part calls now) reg.idle_thread lt)

    changed : set (get_or mid r blank_part).threads t (waiting_part (part_row (get_or mid r blank_part).threads t).calls next) ≡ set (get_or old r blank_part).threads t (waiting_part calls next)
    changed =
        ap (λ (n : ℕ). set (get_or mid r blank_part).threads t (waiting_part n next)) was
        ∙ (ap (λ (ts : List ThreadPart). set ts t (waiting_part calls next)) h.threads
        ∙ set_twice (get_or old r blank_part).threads t (waiting_part calls now) (waiting_part calls next))

    others : (q : ℕ) → q ≢ r → get_or (set mid r (with_wait (get_or mid r blank_part) t next)) q blank_part ≡ get_or old q blank_part
    others q ne = (parts_set mid r t (with_wait (get_or mid r blank_part) t next) (get_or mid r blank_part).local _ inside refl refl).others q ne ∙ h.others q ne

-- a part with a thread that has called, and then what it waits for next
pub called_then : (old : List RankPart) (r t : ℕ) (p : RankPart) (l : Local) (calls : ℕ) (now next : Wait) → r < length old → t < length (get_or old r blank_part).threads → p.local ≡ l
    → p.threads ≡ set (get_or old r blank_part).threads t (waiting_part calls now) → PartsAfter old (set (set old r p) r (with_wait p t next)) r t l (waiting_part calls next)
called_then old r t p l calls now next lr lt local threads =
    subst (λ (z : RankPart). PartsAfter old (set (set old r p) r (with_wait z t next)) r t l (waiting_part calls next)) (set_here old r p blank_part lr)
    (waits_then old (set old r p) r t l calls now next lr lt (parts_set old r t p l (waiting_part calls now) lr local threads))

-- what the thread waits for
pub waits_here : (old new : List RankPart) (r t : ℕ) (l : Local) (calls : ℕ) (now : Wait) → t < length (get_or old r blank_part).threads → PartsAfter old new r t l (waiting_part calls now) → (thread_in new r t).wait ≡ now
waits_here old new r t l calls now lt h =
    ap (λ (ts : List ThreadPart). (part_row ts t).wait) h.threads
    ∙ ap (λ (z : ThreadPart). z.wait) (set_here (get_or old r blank_part).threads t (waiting_part calls now) reg.idle_thread lt)
