-- A call raises the bound of all counts by one: one case for each effect.
use Rattle.std.proofs.Common.{◌≤◌, ◌+◌, ◌==◌, ℕ, Bool, true, false, if◌then◌else◌, List, [], ◌∷◌, None, arith}
use Rattle.mpi_base.specs.declared.messages.Msg.{Msg}
use Rattle.mpi_law.specs.Local.Objects.{Local}
use Rattle.mpi_law.specs.Local.Effects.{local_after}
use Rattle.mpi_law.specs.declared.effects.Origin.{Origin}
use Rattle.mpi_law.specs.declared.effects.Origin.TheVariants.{Grouped, Duplicated, Divided, GroupedOn}
use Rattle.mpi_law.specs.declared.effects.Sending.{Sending}
use Rattle.mpi_law.specs.declared.effects.Receiving.{Receiving as ReceiveAsked}
use Rattle.mpi_law.specs.declared.effects.Effect.{Effect}
use Rattle.mpi_law.specs.declared.effects.Effect.TheVariants.{Says, Opens, Groups, Ungroups, Joins, Frees, Ends, Sends, Receives, Posts, NullPosts, Completes, Awaits}
use Rattle.comm_law.specs.Comms.{comm_at}
use Rattle.mpi_protocol.specs.declared.rows.Waits.{Waits}
use Rattle.mpi_protocol.specs.declared.rows.Waits.TheVariants.{Nothing, Freeing, Ending, Receiving, Awaiting}
use Rattle.mpi_protocol.specs.Packets.{Message, Sent}
use Rattle.mpi_protocol.specs.Rank.{Rank, with_call}
use Rattle.mpi_protocol.specs.Moves.{Taking, arrives}
use Rattle.mpi_protocol.specs.Calls.{counted, opens, message_of, sends, posted_of, with_post, carried_out, called}
use Rattle.rank_law.specs.Counts.{CountsWithin}
use Rattle.rank_law.proofs.Agreement.{AgreeWithin, within-begin}
use Rattle.rank_law.proofs.Shares.{within-begin_share}
use Rattle.rank_law.proofs.Parts.{CommsWithin, PartsWithin, counts_of, parts_of, parts_more, comms-free, comms-end, comms-count, threads-call, counts-arrives, counts-posts}

-- a call opens at most one session
opened_after : (posts : ℕ) (l : Local) (e : Effect ℕ) → (local_after posts l e).opened ≤ l.opened + 1
opened_after posts l (Says said) = omega arith
opened_after posts l (Opens target) = omega arith
opened_after posts l (Groups target members session) = omega arith
opened_after posts l (Ungroups name) = omega arith
opened_after posts l (Joins a) = omega arith
opened_after posts l (Frees name c) = omega arith
opened_after posts l (Ends name session) = omega arith
opened_after posts l (Sends m) = omega arith
opened_after posts l (Receives a) = omega arith
opened_after posts l (Posts target a) = omega arith
opened_after posts l (NullPosts target) = omega arith
opened_after posts l (Completes name number) = omega arith
opened_after posts l (Awaits name) = omega arith

module _ (n : ℕ) (x : Rank) (h : CountsWithin n x) (t : ℕ) where
  old : PartsWithin n x
  old = parts_of n x h

  more : PartsWithin (n + 1) x
  more = parts_more n x h

  -- only the thread and the rank's objects change
  plain : (l : Local) (waits : Waits) → l.opened ≤ n + 1 → CountsWithin (n + 1) (record x { local = l; threads = with_call x t waits })
  plain l waits le = counts_of (n + 1) _ (record { sends = more.sends; posts = more.posts; opened = le; comms = more.comms; threads = threads-call n x t waits h.threads; agree = more.agree })

  opens_within : (o : Origin ℕ) → AgreeWithin (n + 1) (opens x o).part
  opens_within (Grouped group tag) = within-begin (n + 1) x.rank x.setting.contexts x.agree _ more.agree
  opens_within (Duplicated c) = within-begin (n + 1) x.rank x.setting.contexts x.agree _ more.agree
  opens_within (Divided c share) = within-begin_share (n + 1) x.rank x.agree _ share more.agree
  opens_within (GroupedOn c tag group) = within-begin (n + 1) x.rank x.setting.contexts x.agree _ more.agree

  counted_within : (o : Origin ℕ) → CommsWithin (n + 1) (counted x.comms o)
  counted_within (Grouped group tag) = more.comms
  counted_within (Duplicated c) = comms-count n x.comms c old.comms
  counted_within (Divided c share) = comms-count n x.comms c old.comms
  counted_within (GroupedOn c tag group) = more.comms

  sent_within : (l : Local) (m : Sending ℕ) → l.opened ≤ n + 1 → CountsWithin (n + 1) (sends x t l m).state
  sent_within l m le = go (_ == x.rank) (message_of x m) _
    where
      y : Rank
      y = record x { local = l; threads = with_call x t Nothing; sends = x.sends + 1 }

      done : Bool → Msg → ℕ → Taking × List Sent
      done b msg to = if b then (arrives y msg, []) else ((y, None), record { to = to; packet = Message msg } ∷ [])

      here : PartsWithin (n + 1) y
      here = record { sends = let u = h.sends in omega (arith, u); posts = more.posts; opened = le; comms = more.comms; threads = threads-call n x t Nothing h.threads; agree = more.agree }

      go : (b : Bool) (msg : Msg) (to : ℕ) → CountsWithin (n + 1) (done b msg to).0.0
      go true msg to = counts-arrives (n + 1) y msg here
      go false msg to = counts_of (n + 1) y here

  posted_within : (l : Local) (a : ReceiveAsked ℕ) (waits : Waits) → l.opened ≤ n + 1 → PartsWithin (n + 1) (with_post x t l a waits)
  posted_within l a waits le =
      record { sends = more.sends; posts = let u = h.posts in omega (arith, u); opened = le; comms = more.comms; threads = threads-call n x t waits h.threads; agree = more.agree }

  carried_within : (l : Local) (e : Effect ℕ) → l.opened ≤ n + 1 → CountsWithin (n + 1) (carried_out x t l e).state
  carried_within l (Says said) le = plain l Nothing le
  carried_within l (Opens target) le = plain l Nothing le
  carried_within l (Groups target members session) le = plain l Nothing le
  carried_within l (Ungroups name) le = plain l Nothing le
  carried_within l (Joins a) le =
      counts_of (n + 1) _
      (record {
        sends = more.sends;
        posts = more.posts;
        opened = le;
        comms = counted_within a.origin;
        threads = threads-call n x t _ h.threads;
        agree = opens_within a.origin;
      })
  carried_within l (Frees name c) le =
      counts_of (n + 1) _
      (record {
        sends = more.sends;
        posts = more.posts;
        opened = le;
        comms = comms-free (n + 1) x.comms c more.comms;
        threads = threads-call n x t (Freeing (comm_at x.comms c).serial) h.threads;
        agree = more.agree;
      })
  carried_within l (Ends name s) le =
      counts_of (n + 1) _
      (record {
        sends = more.sends;
        posts = more.posts;
        opened = le;
        comms = comms-end (n + 1) x.comms s more.comms;
        threads = threads-call n x t (Ending s) h.threads;
        agree = more.agree;
      })
  carried_within l (Sends m) le = sent_within l m le
  carried_within l (Receives a) le = counts-posts (n + 1) _ (posted_of x a) (posted_within l a (Receiving (x.posts + 1)) le)
  carried_within l (Posts target a) le = counts-posts (n + 1) _ (posted_of x a) (posted_within l a Nothing le)
  carried_within l (NullPosts target) le = plain l Nothing le
  carried_within l (Completes name number) le = plain l (Receiving number) le
  carried_within l (Awaits name) le = plain l (Awaiting name) le

  pub counts-called : (e : Effect ℕ) → CountsWithin (n + 1) (called x t e).state
  counts-called e = carried_within (local_after x.posts x.local e) e (let u = h.opened in let v = opened_after x.posts x.local e in omega (arith, u, v))
