-- A thread of a rank that is set, and set again.
use Rattle.std.proofs.Common.{◌≡◌, ℕ, ◌<◌, List, length, get_or, set, ap, ◌∙◌, set-set, get_or-set_same}
use Rattle.mpi_law.specs.Local.Objects.{Local}
use Rattle.mpi_law.specs.Registry.State.{RankPart, ThreadPart, Wait, blank_part, idle_thread, with_wait}

abbrev pub part_with : Local → List ThreadPart → ℕ → ℕ → ℕ → ThreadPart → RankPart
part_with l threads t sends receives row = record { local = l; threads = set threads t row; sends = sends; receives = receives }

abbrev pub waiting_for : ThreadPart → Wait → ThreadPart
waiting_for row wait = record { calls = row.calls; wait = wait }

module _ (ranks : List RankPart) (r : ℕ) (here : r < length ranks) (l : Local) (threads : List ThreadPart) (t : ℕ) (there : t < length threads) (sends receives : ℕ) (row : ThreadPart) where
  part_there : get_or (set ranks r (part_with l threads t sends receives row)) r blank_part ≡ part_with l threads t sends receives row
  part_there = get_or-set_same ranks r (part_with l threads t sends receives row) blank_part here

  pub thread_there : get_or (get_or (set ranks r (part_with l threads t sends receives row)) r blank_part).threads t idle_thread ≡ row
  thread_there = ap (λ (p : RankPart). get_or p.threads t idle_thread) part_there ∙ get_or-set_same threads t row idle_thread there

  pub waits_on : (wait : Wait)
      → set (set ranks r (part_with l threads t sends receives row)) r (with_wait (get_or (set ranks r (part_with l threads t sends receives row)) r blank_part) t wait)
      ≡ set ranks r (part_with l threads t sends receives (waiting_for row wait))
  waits_on wait =
      set-set ranks r (part_with l threads t sends receives row) (with_wait (get_or (set ranks r (part_with l threads t sends receives row)) r blank_part) t wait)
      ∙ ap (λ (p : RankPart). set ranks r (with_wait p t wait)) part_there
      ∙ ap (λ (ts : List ThreadPart). set ranks r (record { local = l; threads = ts; sends = sends; receives = receives }))
      (set-set threads t row (waiting_for (get_or (set threads t row) t idle_thread) wait)
      ∙ ap (λ (x : ThreadPart). set threads t (waiting_for x wait)) (get_or-set_same threads t row idle_thread there))
