-- An answer raises no count.
use Rattle.std.proofs.Common.{◌≡◌, ◌==◌, ℕ, Bool, true, false, if◌then◌else◌, List, Option, Some, None, refl, arith}
use Rattle.mpi_base.specs.declared.keys.Key.{Key}
use Rattle.mpi_base.specs.declared.messages.Msg.{Msg}
use Rattle.mpi_law.specs.Local.Objects.{Local}
use Rattle.mpi_law.specs.Local.Messages.{from_nobody}
use Rattle.agree_law.specs.declared.rows.Outcome.{Outcome}
use Rattle.agree_law.specs.declared.rows.Outcome.TheVariants as outcome
use Rattle.agree_law.specs.Part.{stage_of}
use Rattle.mpi_protocol.specs.declared.rows.Waits.{Waits}
use Rattle.mpi_protocol.specs.declared.rows.Waits.TheVariants.{Nothing, Creation, Uncoloured, Freeing, Ending, Receiving, Awaiting}
use Rattle.mpi_protocol.specs.declared.rows.ReceiveRow.{ReceiveRow}
use Rattle.mpi_protocol.specs.Rank.{Rank, with_waits, receive_of}
use Rattle.mpi_protocol.specs.Answers.{outcome_of, answers, target_after, answers_creation, answers_taken, answers_row, answers_receive, answered}
use Rattle.rank_law.specs.Counts.{CountsWithin}
use Rattle.rank_law.proofs.Shares.{within-close}
use Rattle.rank_law.proofs.Parts.{PartsWithin, counts_of, parts_of, threads-wait}

-- a creation that ends opens no session
opened_target : (l : Local) (target : List ℕ) (session : ℕ) (o : Outcome) → (target_after l target session o).opened ≡ l.opened
opened_target l target session (outcome.Context c) = refl
opened_target l target session outcome.Exhausted = refl

module _ (n : ℕ) (x : Rank) (h : CountsWithin n x) (t : ℕ) where
  old : PartsWithin n x
  old = parts_of n x h

  idle : (y : Rank) → PartsWithin n y → CountsWithin n (record y { threads = with_waits y t Nothing })
  idle y p = counts_of n _ (record { sends = p.sends; posts = p.posts; opened = p.opened; comms = p.comms; threads = threads-wait n y t Nothing p.threads; agree = p.agree })

  created : (key : Key) (target : List ℕ) (session : ℕ) (o : Option Outcome) → CountsWithin n (answers_creation x t key target session o).state
  created key target session None = h
  created key target session (Some o) =
      idle _
      (record {
        sends = old.sends;
        posts = old.posts;
        opened = let e = opened_target x.local target session o in let u = old.opened in omega (arith, e, u);
        comms = old.comms;
        threads = old.threads;
        agree = within-close n x.agree key old.agree;
      })

  received : (m : ℕ) → CountsWithin n (answers_receive x t m).state
  received m = go (m == 0)
    where
      taken : (room : ℕ) (o : Option Msg) → CountsWithin n (answers_taken x t m room o).state
      taken room None = h
      taken room (Some msg) = idle _ (record { sends = old.sends; posts = old.posts; opened = old.opened; comms = old.comms; threads = old.threads; agree = old.agree })

      row : (o : Option ReceiveRow) → CountsWithin n (answers_row x t m o).state
      row None = h
      row (Some w) = taken w.room w.taken

      go : (b : Bool) → CountsWithin n (if b then answers x t from_nobody else answers_row x t m (receive_of x.receives m)).state
      go true = idle x old
      go false = row (receive_of x.receives m)

  pub counts-answered : (waits : Waits) → CountsWithin n (answered x t waits).state
  counts-answered Nothing = h
  counts-answered (Creation key target session) = created key target session (outcome_of (stage_of x.agree.opened key))
  counts-answered (Uncoloured key target session) =
      idle _ (record { sends = old.sends; posts = old.posts; opened = old.opened; comms = old.comms; threads = old.threads; agree = old.agree })
  counts-answered (Freeing serial) = idle x old
  counts-answered (Ending session) = idle x old
  counts-answered (Receiving m) = received m
  counts-answered (Awaiting name) = idle x old
