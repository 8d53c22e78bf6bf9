-- The counts of a rank from those of its parts, and what leaves or changes them.
use Rattle.std.proofs.Common.{◌≡◌, ◌≤◌, ◌+◌, ◌==◌, ℕ, Bool, List, Option, Some, None, refl, arith}
use Rattle.std.specs.Prelude.{All}
use Rattle.std.proofs.lemmas.List.Elements.{All-nil, All-weaker, All-push, All-filter, All-map, All-set, All-replicate}
use Rattle.mpi_base.specs.declared.keys.Key.{Key}
use Rattle.mpi_base.specs.declared.messages.Msg.{Msg}
use Rattle.mpi_law.specs.declared.setting.Setting.{Setting}
use Rattle.mpi_law.specs.declared.setting.TheConstants.{THREADS}
use Rattle.agree_law.specs.declared.rows.CreationRow.{CreationRow}
use Rattle.agree_law.specs.declared.rows.RoundRow.{RoundRow}
use Rattle.comm_law.specs.declared.rows.CommRow.{CommRow}
use Rattle.comm_law.specs.declared.rows.CommStage.TheVariants.{Live, Left}
use Rattle.comm_law.specs.Comms.{Comms, at, one_call_more, freed, with_stage, add, changed, count_call, mark_free, free_session, leave, note_marker, remove}
use Rattle.match_law.specs.declared.rows.Posted.{Posted}
use Rattle.match_law.specs.Box.{Box, arrive, post}
use Rattle.mpi_protocol.specs.declared.rows.Waits.{Waits}
use Rattle.mpi_protocol.specs.declared.rows.ThreadRow.{ThreadRow}
use Rattle.mpi_protocol.specs.Rank.{Rank, fresh, thread_at, idle_thread, with_call, with_waits, going_on, with_key}
use Rattle.mpi_protocol.specs.Moves.{arrives_to, arrives, posts_to, posts}
use Rattle.rank_law.specs.Counts.{StageWithin, CountsWithin}
use Rattle.rank_law.proofs.Rows.{All-changed, All-get}
use Rattle.rank_law.proofs.Agreement.{AgreeWithin, rounds_rise, opens_rise}

pub record CommsWithin (n : ℕ) (t : Comms) : Type 0 where
  pub added : t.added ≤ n
  pub calls : All (λ m. m.calls ≤ n) t.rows

abbrev pub ThreadsWithin : ℕ → List ThreadRow → Type 0
ThreadsWithin n threads = All (λ t. t.calls ≤ n) threads

pub record PartsWithin (n : ℕ) (x : Rank) : Type 0 where
  pub sends : x.sends ≤ n
  pub posts : x.posts ≤ n
  pub opened : x.local.opened ≤ n
  pub comms : CommsWithin n x.comms
  pub threads : ThreadsWithin n x.threads
  pub agree : AgreeWithin n x.agree

pub counts_of : (n : ℕ) (x : Rank) → PartsWithin n x → CountsWithin n x
counts_of n x h =
    record { sends = h.sends; posts = h.posts; opened = h.opened; added = h.comms.added; calls = h.comms.calls; threads = h.threads; rounds = h.agree.rounds; stages = h.agree.stages }

pub parts_of : (n : ℕ) (x : Rank) → CountsWithin n x → PartsWithin n x
parts_of n x h =
    record {
      sends = h.sends;
      posts = h.posts;
      opened = h.opened;
      comms = record { added = h.added; calls = h.calls };
      threads = h.threads;
      agree = record { rounds = h.rounds; stages = h.stages };
    }

-- The opening, and greater bounds

pub counts-fresh : (s : Setting) (r n : ℕ) → CountsWithin n (fresh s r)
counts-fresh s r n =
    record {
      sends = omega arith;
      posts = omega arith;
      opened = omega arith;
      added = omega arith;
      calls = All-nil (λ (m : CommRow). m.calls ≤ n);
      threads = All-replicate (λ (t : ThreadRow). t.calls ≤ n) THREADS idle_thread (omega arith);
      rounds = All-nil (λ (w : RoundRow). w.round ≤ n);
      stages = All-nil (λ (o : CreationRow). StageWithin n o.stage);
    }

pub counts_rise : (n m : ℕ) (x : Rank) → CountsWithin n x → n ≤ m → CountsWithin m x
counts_rise n m x h le =
    record {
      sends = let u = h.sends in omega (arith, u, le);
      posts = let u = h.posts in omega (arith, u, le);
      opened = let u = h.opened in omega (arith, u, le);
      added = let u = h.added in omega (arith, u, le);
      calls = All-weaker (λ (m : CommRow). m.calls ≤ n) (λ (row : CommRow). row.calls ≤ m) (λ row u. omega (arith, le, u)) x.comms.rows h.calls;
      threads = All-weaker (λ (t : ThreadRow). t.calls ≤ n) (λ (t : ThreadRow). t.calls ≤ m) (λ t u. omega (arith, le, u)) x.threads h.threads;
      rounds = rounds_rise n m x.agree.rounds le h.rounds;
      stages = opens_rise n m x.agree.opened le h.stages;
    }

-- one count more
pub parts_more : (n : ℕ) (x : Rank) → CountsWithin n x → PartsWithin (n + 1) x
parts_more n x h = parts_of (n + 1) x (counts_rise n (n + 1) x h (omega arith))

-- Communicators

-- a change of rows that raises no count
kept : (n : ℕ) (t : Comms) (test : CommRow → Bool) (f : CommRow → CommRow) → ((m : CommRow) → (f m).calls ≡ m.calls) → CommsWithin n t → CommsWithin n (changed test f t)
kept n t test f same h =
    record {
      added = h.added;
      calls = All-changed (λ (m : CommRow). m.calls ≤ n) (λ (m : CommRow). m.calls ≤ n) test f t.rows (λ m u. let e = same m in omega (arith, e, u)) (λ m u. u) h.calls;
    }

pub comms-free : (n : ℕ) (t : Comms) (c : ℕ) → CommsWithin n t → CommsWithin n (mark_free t c)
comms-free n t c = kept n t (at c) freed (λ m. refl)

pub comms-end : (n : ℕ) (t : Comms) (s : ℕ) → CommsWithin n t → CommsWithin n (free_session t s)
comms-end n t s = kept n t (λ m. m.session == s) freed (λ m. refl)

pub comms-leave : (n : ℕ) (t : Comms) (c : ℕ) → CommsWithin n t → CommsWithin n (leave t c)
comms-leave n t c = kept n t (at c) (with_stage Left) (λ m. refl)

pub comms-count : (n : ℕ) (t : Comms) (c : ℕ) → CommsWithin n t → CommsWithin (n + 1) (count_call t c)
comms-count n t c h =
    record {
      added = let u = h.added in omega (arith, u);
      calls = All-changed (λ (m : CommRow). m.calls ≤ n) (λ (m : CommRow). m.calls ≤ n + 1) (at c) one_call_more t.rows (λ m u. omega (arith, u)) (λ m u. omega (arith, u)) h.calls;
    }

pub comms-add : (n : ℕ) (t : Comms) (c : ℕ) (members : List ℕ) (session : ℕ) → CommsWithin n t → CommsWithin (n + 1) (add t c members session)
comms-add n t c members session h =
    record {
      added = let u = h.added in omega (arith, u);
      calls =
          All-push (λ (m : CommRow). m.calls ≤ n + 1) t.rows (record { ctx = c; members = members; session = session; serial = t.added + 1; calls = 0; stage = Live })
          (All-weaker (λ (m : CommRow). m.calls ≤ n) (λ (m : CommRow). m.calls ≤ n + 1) (λ m u. omega (arith, u)) t.rows h.calls) (omega arith);
    }

pub comms-note : (n : ℕ) (t : Comms) (c from : ℕ) → CommsWithin n t → CommsWithin n (note_marker t c from)
comms-note n t c from h = record { added = h.added; calls = h.calls }

pub comms-remove : (n : ℕ) (t : Comms) (c : ℕ) → CommsWithin n t → CommsWithin n (remove t c)
comms-remove n t c h = record { added = h.added; calls = All-filter _ (λ (m : CommRow). m.calls ≤ n) t.rows h.calls }

-- Threads

pub thread_within : (n : ℕ) (x : Rank) (t : ℕ) → ThreadsWithin n x.threads → (thread_at x t).calls ≤ n
thread_within n x t h = All-get (λ (t : ThreadRow). t.calls ≤ n) x.threads t idle_thread (omega arith) h

pub threads-call : (n : ℕ) (x : Rank) (t : ℕ) (waits : Waits) → ThreadsWithin n x.threads → ThreadsWithin (n + 1) (with_call x t waits)
threads-call n x t waits h =
    let at = thread_within n x t h in
    All-set (λ (t : ThreadRow). t.calls ≤ n + 1) x.threads t (record { calls = (thread_at x t).calls + 1; waits = waits }) (omega (arith, at))
    (All-weaker (λ (t : ThreadRow). t.calls ≤ n) (λ (t : ThreadRow). t.calls ≤ n + 1) (λ t u. omega (arith, u)) x.threads h)

pub threads-wait : (n : ℕ) (x : Rank) (t : ℕ) (waits : Waits) → ThreadsWithin n x.threads → ThreadsWithin n (with_waits x t waits)
threads-wait n x t waits h = All-set (λ (t : ThreadRow). t.calls ≤ n) x.threads t (record { calls = (thread_at x t).calls; waits = waits }) (thread_within n x t h) h

pub threads-key : (n : ℕ) (threads : List ThreadRow) (key : Key) (next : Option Key) → ThreadsWithin n threads → ThreadsWithin n (with_key threads key next)
threads-key n threads key next h = All-map (λ (t : ThreadRow). t.calls ≤ n) (λ (t : ThreadRow). record { calls = t.calls; waits = going_on key next t.waits }) threads h

-- Messages: only the box and the receives change

pub counts-arrives : (n : ℕ) (x : Rank) (m : Msg) → PartsWithin n x → CountsWithin n (arrives x m).0
counts-arrives n x m h = go (arrive x.box m).0 (arrive x.box m).1
  where
    go : (b : Box) (o : Option Posted) → CountsWithin n (arrives_to x m b o).0
    go b None = counts_of n _ (record { sends = h.sends; posts = h.posts; opened = h.opened; comms = h.comms; threads = h.threads; agree = h.agree })
    go b (Some p) = counts_of n _ (record { sends = h.sends; posts = h.posts; opened = h.opened; comms = h.comms; threads = h.threads; agree = h.agree })

pub counts-posts : (n : ℕ) (x : Rank) (p : Posted) → PartsWithin n x → CountsWithin n (posts x p).0
counts-posts n x p h = go (post x.box p).0 (post x.box p).1
  where
    go : (b : Box) (o : Option Msg) → CountsWithin n (posts_to x p.number b o).0
    go b None = counts_of n _ (record { sends = h.sends; posts = h.posts; opened = h.opened; comms = h.comms; threads = h.threads; agree = h.agree })
    go b (Some m) = counts_of n _ (record { sends = h.sends; posts = h.posts; opened = h.opened; comms = h.comms; threads = h.threads; agree = h.agree })
