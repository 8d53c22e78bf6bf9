-- Answers.
use Rattle.std.proofs.Common.{◌≡◌, ◌≤◌, ◌==◌, ◌||◌, not, ℕ, if◌then◌else◌, Bool, true, false, Option, Some, None, refl, arith}
use Rattle.std.specs.Prelude.{is_some}
use Rattle.mpi_base.specs.declared.keys.Key.{Key}
use Rattle.mpi_base.specs.Keys.{same_key}
use Rattle.mpi_base.specs.declared.messages.Msg.{Msg}
use Rattle.mpi_law.specs.Local.Messages.{from_nobody}
use Rattle.mpi_law.specs.ScriptLists.{AllScripts}
use Rattle.agree_law.specs.declared.rows.Outcome.{Outcome}
use Rattle.agree_law.specs.Part.{Agree, stage_of}
use Rattle.agree_law.specs.Moves.{close}
use Rattle.mpi_protocol.specs.declared.rows.Waits.{Waits}
use Rattle.mpi_protocol.specs.declared.rows.Waits.TheVariants.{Nothing, Creation, Uncoloured, Freeing, Ending, Receiving, Awaiting}
use Rattle.mpi_protocol.specs.declared.rows.ReceiveRow.{ReceiveRow}
use Rattle.mpi_protocol.specs.Rank.{Rank, thread_at, receive_of, taken_of}
use Rattle.mpi_protocol.specs.Answers.{outcome_of, is_done, is_answerable, answers, answered, answers_creation, answers_row, answers_taken}
use Rattle.wayout_law.specs.Potential.{More, agree_cost, row_cost}
use Rattle.wayout_law.proofs.Sums.{sum_of-filter}
use Rattle.wayout_law.proofs.Threads.{threads-answered}
use Rattle.wayout_law.proofs.Worlds.{Spends}

close-cost : (n : ℕ) (more : More) (r : ℕ) (a : Agree) (key : Key) → agree_cost n more r (close a key) ≤ agree_cost n more r a
unfolding close
close-cost n more r a key = sum_of-filter (row_cost n more a.gathered r) (λ o. not (same_key o.key key)) a.opened

pub spend-answers : (n : ℕ) (more : More) (scripts : AllScripts) (r : ℕ) (x : Rank) (t : ℕ) (waits : Waits) → (thread_at x t).waits ≡ waits → is_answerable x waits ≡ true → Spends n more scripts r x None (answered x t waits)
spend-answers n more scripts r x t Nothing e may = absurd (cc)
spend-answers n more scripts r x t (Creation key target session) e may = go (outcome_of (stage_of x.agree.opened key)) may
  where
    go : (o : Option Outcome) → is_done o ≡ true → Spends n more scripts r x None (answers_creation x t key target session o)
    go None d = absurd (cc)
    go (Some o) d = let a = threads-answered n scripts r t x (rw e refl) in let c = close-cost n more x.rank x.agree key in omega (arith, a, c)
spend-answers n more scripts r x t (Uncoloured key target session) e may = let a = threads-answered n scripts r t x (rw e refl) in omega (arith, a)
spend-answers n more scripts r x t (Freeing serial) e may = let a = threads-answered n scripts r t x (rw e refl) in omega (arith, a)
spend-answers n more scripts r x t (Ending session) e may = let a = threads-answered n scripts r t x (rw e refl) in omega (arith, a)
spend-answers n more scripts r x t (Receiving m) e may = go (m == 0) (receive_of x.receives m) may
  where
    taken_row : (room : ℕ) (o : Option Msg) → is_some o ≡ true → Spends n more scripts r x None (answers_taken x t m room o)
    taken_row room None d = absurd (cc)
    taken_row room (Some msg) d = let a = threads-answered n scripts r t x (rw e refl) in omega (arith, a)

    go : (b : Bool) (o : Option ReceiveRow) → (b || is_some (taken_of o)) ≡ true → Spends n more scripts r x None (if b then answers x t from_nobody else answers_row x t m o)
    go true o d = let a = threads-answered n scripts r t x (rw e refl) in omega (arith, a)
    go false None d = absurd (cc)
    go false (Some w) d = taken_row w.room w.taken d
spend-answers n more scripts r x t (Awaiting name) e may = let a = threads-answered n scripts r t x (rw e refl) in omega (arith, a)
