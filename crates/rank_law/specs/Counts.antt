-- How far the counters of a rank have gone. All of it is this project's own.
use Rattle.std.specs.Prelude.{ℕ, ◌≤◌, All}
use Rattle.agree_law.specs.declared.rows.Stage.{Stage}
use Rattle.agree_law.specs.declared.rows.Stage.TheVariants.{Sharing, Called, Waiting, Offered, Done}
use Rattle.mpi_protocol.specs.Rank.{Rank}

-- the round of an open creation is at most this; before round 1, and once it is decided, it has none
abbrev pub StageWithin : ℕ → Stage → Type 0
StageWithin n (Sharing s) = Unit {0}
StageWithin n Called = Unit {0}
StageWithin n (Waiting i) = i ≤ n
StageWithin n (Offered i own) = i ≤ n
StageWithin n (Done c) = Unit {0}

-- each count of a rank is at most this: messages sent, receives posted, sessions opened, communicators added, the calls of dup
-- and split on each communicator, the calls of each thread, the rounds that it gathers and the rounds of its open creations
pub record CountsWithin (n : ℕ) (x : Rank) : Type 0 where
  pub sends : x.sends ≤ n
  pub posts : x.posts ≤ n
  pub opened : x.local.opened ≤ n
  pub added : x.comms.added ≤ n
  pub calls : All (λ m. m.calls ≤ n) x.comms.rows
  pub threads : All (λ t. t.calls ≤ n) x.threads
  pub rounds : All (λ w. w.round ≤ n) x.agree.rounds
  pub stages : All (λ o. StageWithin n o.stage) x.agree.opened
