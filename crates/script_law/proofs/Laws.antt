-- The laws of a journal from the opening.
use Rattle.std.proofs.Common.{◌≡◌, ◌+◌, ◌<◌, ℕ, zero, suc, true, List, length, map, get_or, replicate, None, refl, sym, subst, ap, ◌∙◌, arith}
use Rattle.std.specs.List.{range_with_len}
use Rattle.std.proofs.lemmas.List.{length-map}
use Rattle.std.proofs.lemmas.List.FromFn.{length-range_with_len}
use Rattle.mpi_base.specs.declared.entries.Entry.{Entry}
use Rattle.mpi_law.specs.declared.setting.Setting.{Setting}
use Rattle.mpi_law.specs.declared.setting.TheConstants.{THREADS}
use Rattle.mpi_law.specs.ScriptLists.{AllScripts, script_of, next_op}
use Rattle.mpi_protocol.specs.Rank.{fresh, thread_at, is_idle, idle_thread}
use Rattle.mpi_protocol.specs.World.{opening, blank, rank_at}
use Rattle.mpi_protocol.specs.Run.{IsProtocolRun, end_of, calls_of}
use Rattle.mpi_protocol.specs.Order.{IsDrained, IsQuiet}
use Rattle.script_law.specs.Called.{AreOfScripts, AreEnded}
use Rattle.script_law.proofs.Counts.{counts, count_at}
use Rattle.script_law.proofs.Scripts.{Advances, advances_taken, advances_whole}
use Rattle.script_law.proofs.Runs.{counts_of, calls_at, HaveThreads, run_advances, ranks_after}

-- the threads of a rank at the opening, also of a number that is no rank's
threads_opened : (s : Setting) (a n r : ℕ) → (get_or (map (fresh s) (range_with_len a n)) r blank).threads ≡ replicate THREADS idle_thread
threads_opened s a zero r = refl
threads_opened s a (suc n) zero = refl
threads_opened s a (suc n) (suc r) = threads_opened s (a + 1) n r

none_called : (n t : ℕ) → get_or (counts (replicate n idle_thread)) t 0 ≡ 0
none_called zero t = refl
none_called (suc n) zero = refl
none_called (suc n) (suc t) = none_called n t

opening_threads : (s : Setting) → HaveThreads (opening s)
opening_threads s r = ap (λ xs. length (counts xs)) (threads_opened s 0 s.ranks r)

opening_calls : (s : Setting) (r t : ℕ) → get_or (counts_of (opening s) r) t 0 ≡ 0
opening_calls s r t = ap (λ xs. get_or (counts xs) t 0) (threads_opened s 0 s.ranks r) ∙ none_called THREADS t

pub ranks_at_end : (s : Setting) (journal : List Entry) → length (end_of s journal).ranks ≡ s.ranks
ranks_at_end s journal = ranks_after (opening s) journal ∙ (length-map (range_with_len 0 s.ranks) (fresh s) ∙ length-range_with_len 0 s.ranks)

module _ (s : Setting) (scripts : AllScripts) (journal : List Entry) (run : IsProtocolRun s journal) (drained : IsDrained scripts (opening s) journal) where
  -- what is called of a script from the start
  called : (r t : ℕ) → Advances (script_of scripts r t) 0 (calls_at (end_of s journal) r t) (calls_of r t journal)
  called r t =
      let all = run_advances scripts (opening s) journal r t (opening_threads s) run drained in
      subst (λ (n : ℕ). Advances (script_of scripts r t) 0 n (calls_of r t journal)) (sym (count_at (rank_at (end_of s journal) r) t))
      (subst (λ (n : ℕ). Advances (script_of scripts r t) n (get_or (counts_of (end_of s journal) r) t 0) (calls_of r t journal)) (opening_calls s r t) all)

  pub calls_are_of_scripts : AreOfScripts scripts (end_of s journal) journal
  calls_are_of_scripts =
      record {
        calls = λ r t lr lt. advances_taken (script_of scripts r t) _ _ (called r t);
        count = λ r t lr lt. let e = (called r t).count in omega (arith, e);
      }

  -- a thread with no next operation has called its whole script
  pub whole_script : (r t : ℕ) → next_op scripts r t (calls_at (end_of s journal) r t) ≡ None → calls_of r t journal ≡ script_of scripts r t
  whole_script r t e = advances_whole (script_of scripts r t) _ _ (called r t) e

  pub whole_where_idle : IsQuiet (end_of s journal) scripts → (r t : ℕ) → r < s.ranks → t < THREADS → is_idle (thread_at (rank_at (end_of s journal) r) t).waits ≡ true → calls_of r t journal ≡ script_of scripts r t
  whole_where_idle quiet r t lr lt idle = let n = ranks_at_end s journal in whole_script r t (quiet.ended r t (omega (arith, n, lr)) lt idle)

  pub whole_where_ended : AreEnded scripts (end_of s journal) → (r t : ℕ) → r < s.ranks → t < THREADS → calls_of r t journal ≡ script_of scripts r t
  whole_where_ended ended r t lr lt = let n = ranks_at_end s journal in whole_script r t (ended.last r t (omega (arith, n, lr)) lt)
