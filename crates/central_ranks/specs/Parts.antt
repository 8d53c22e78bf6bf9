-- What contracts see of the ranks in code.
use Rattle.std.specs.Prelude.{◌≡◌, ℕ, ◌+◌, ◌-◌, ◌^◌, ◌≤◌, ◌&&◌, not, Bool, true, List, length, get_or, set, nat_lt}
use Rattle.std.specs.List.{list_all}
use Rattle.mpi_law.specs.declared.setting.TheConstants.{THREADS}
use Rattle.mpi_law.specs.declared.effects.Effect.{Effect}
use Rattle.mpi_law.specs.Local.Effects.{local_after}
use Rattle.mpi_law.specs.Registry.State.{RankPart, ThreadPart, Wait, blank_part, idle_thread, is_within_call}
use Rattle.central_ranks.specs.Effects.{sends_after, posts_after}

-- what the registry keeps of a rank, and for how many names and sessions more there is room
pub record PartHeld : Type 0 where
  pub part : RankPart
  pub spare : ℕ

-- the same of each rank
pub record RanksHeld : Type 0 where
  pub parts : List RankPart
  pub spares : List ℕ

-- a rank's part, and a thread of it: a blank one where there is none
abbrev pub part_at : RanksHeld → ℕ → RankPart
part_at s r = get_or s.parts r blank_part

abbrev pub thread_in : RankPart → ℕ → ThreadPart
thread_in p t = get_or p.threads t idle_thread

abbrev pub thread_at : RanksHeld → ℕ → ℕ → ThreadPart
thread_at s r t = thread_in (part_at s r) t

-- the threads of a rank: there are as many as a rank has, and none is within a call
pub record AreThreads (threads : List ThreadPart) : Type 0 where
  pub count : length threads ≡ THREADS
  pub between : list_all (λ t. not (is_within_call t.wait)) threads ≡ true

-- the same of the threads of each rank
abbrev pub AreParts : List RankPart → Type 0
AreParts parts = (r : ℕ) → AreThreads (get_or parts r blank_part).threads

-- a count that is not at its end, which is that of a `u64`
abbrev pub can_rise : ℕ → Bool
can_rise n = nat_lt n (2 ^ 64 - 1)

abbrev pub threads_can_rise : List ThreadPart → Bool
threads_can_rise threads = list_all (λ t. can_rise t.calls) threads

abbrev pub counts_can_rise : RankPart → Bool
counts_can_rise p = can_rise p.sends && (can_rise p.receives && (can_rise p.local.opened && threads_can_rise p.threads))

-- a rank can call: there is room for one name and one session more, and no count is at its end
pub record HasRoom (s : RanksHeld) (r : ℕ) : Type 0 where
  pub spare : 1 ≤ get_or s.spares r 0
  pub counts : counts_can_rise (part_at s r) ≡ true

-- the part once a thread has called what does this, and waits for that
abbrev pub part_called : RankPart → ℕ → Effect ℕ → Wait → RankPart
part_called p t e wait =
    record {
      local = local_after p.receives p.local e;
      threads = set p.threads t (record { calls = (thread_in p t).calls + 1; wait = wait });
      sends = sends_after p.sends e;
      receives = posts_after p.receives e;
    }
