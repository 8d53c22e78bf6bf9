-- A step raises the bound of all counts by one: offers, settles, deliveries, leaves and give-backs, and any act.
use Rattle.std.proofs.Common.{◌≤◌, ◌<◌, ◌+◌, ℕ, Bool, true, false, List, Option, Some, None, arith}
use Rattle.std.specs.Prelude.{All}
use Rattle.std.proofs.lemmas.List.Elements.{All-weaker}
use Rattle.mpi_base.specs.declared.keys.Key.{Key}
use Rattle.mpi_base.specs.declared.shares.Shared1.{Shared1}
use Rattle.mpi_base.specs.declared.entries.Act.{Act}
use Rattle.mpi_base.specs.declared.entries.Act.TheVariants.{Call, Answer, Deliver, Offer as MakeOffer, Settle, Leave, Back}
use Rattle.mpi_law.specs.Local.{effect_of}
use Rattle.agree_law.specs.declared.rows.Verdict.{Verdict}
use Rattle.agree_law.specs.declared.rows.Verdict.TheVariants.{Ready, Retry, Context, Exhausted}
use Rattle.agree_law.specs.Packets as agree
use Rattle.agree_law.specs.Moves as agree_moves
use Rattle.agree_law.specs.Kinds.{is_share}
use Rattle.agree_law.specs.Offers.{make_offer}
use Rattle.agree_law.specs.Shares.{share_list}
use Rattle.comm_law.specs.declared.rows.CommRow.{CommRow}
use Rattle.mpi_protocol.specs.Packets.{Packet, Agreeing, Message, Marker}
use Rattle.mpi_protocol.specs.Rank.{Rank, thread_at, session_of}
use Rattle.mpi_protocol.specs.Calls.{around_here, calls}
use Rattle.mpi_protocol.specs.Agreeing.{agreed, with_verdict, colour_here, next_key, shares_out, verdict_at, settles_as, offers, settles}
use Rattle.mpi_protocol.specs.Delivers.{takes_packet, agrees, taken, taken_if, delivers}
use Rattle.mpi_protocol.specs.Step.{leaves, gives_back, step}
use Rattle.rank_law.specs.Counts.{CountsWithin}
use Rattle.rank_law.proofs.Agreement.{AgreeWithin, within-offer}
use Rattle.rank_law.proofs.Shares.{within-settle, within-deliver, within-give_back}
use Rattle.rank_law.proofs.Parts.{PartsWithin, counts_of, parts_of, parts_more, counts_rise, comms-leave, comms-add, comms-note, comms-remove, threads-key, counts-arrives}
use Rattle.rank_law.proofs.Calls.{counts-called}
use Rattle.rank_law.proofs.Answers.{counts-answered}

module _ (n : ℕ) (x : Rank) (h : CountsWithin n x) where
  old : PartsWithin n x
  old = parts_of n x h

  more : PartsWithin (n + 1) x
  more = parts_more n x h

  still : CountsWithin (n + 1) x
  still = counts_of (n + 1) x more

  -- The agreement

  moved : (m : agree.Moved) → AgreeWithin (n + 1) m.part → CountsWithin (n + 1) (agreed x m).state
  moved m w = counts_of (n + 1) _ (record { sends = more.sends; posts = more.posts; opened = more.opened; comms = more.comms; threads = more.threads; agree = w })

  decided : (key : Key) (v : Verdict) (m : agree.Moved) → AgreeWithin (n + 1) m.part → CountsWithin (n + 1) (agreed (with_verdict x key v) m).state
  decided key Ready m w = moved m w
  decided key Retry m w = moved m w
  decided key (Context c) m w =
      counts_of (n + 1) _
      (record {
        sends = more.sends;
        posts = more.posts;
        opened = more.opened;
        comms = comms-add n x.comms c key.members (session_of x.threads key) old.comms;
        threads = more.threads;
        agree = w;
      })
  decided key Exhausted m w = moved m w

  shared : (key : Key) (list : List Shared1) (m : agree.Moved) → AgreeWithin (n + 1) m.part → CountsWithin (n + 1) (shares_out x key list m).state
  shared key list m w =
      counts_of (n + 1) _
      (record {
        sends = more.sends;
        posts = more.posts;
        opened = more.opened;
        comms = more.comms;
        threads = threads-key (n + 1) x.threads key (next_key key (colour_here x key list) list) more.threads;
        agree = w;
      })

  counts-offers : (key : Key) → CountsWithin (n + 1) (offers x key).state
  unfolding offers
  counts-offers key = moved (make_offer x.rank x.setting.contexts x.agree key) (within-offer (n + 1) x.rank x.setting.contexts x.agree key more.agree)

  counts-settles : (key : Key) → CountsWithin (n + 1) (settles x key).state
  unfolding settles
  counts-settles key = go (is_share key.kind)
    where
      after : agree.Moved
      after = agree_moves.settle x.rank x.setting.contexts x.agree key

      within : AgreeWithin (n + 1) after.part
      within = within-settle n x.rank x.setting.contexts x.agree key old.agree

      go : (b : Bool) → CountsWithin (n + 1) (settles_as x key b).state
      go true = shared key (share_list x.agree.shares key) after within
      go false = decided key (verdict_at x key) after within

  -- Deliveries

  agreeing_within : (p : agree.Packet) (m : agree.Moved) → AgreeWithin (n + 1) m.part → CountsWithin (n + 1) (agrees x p m).state
  agreeing_within (agree.Up key i own mask) m w = moved m w
  agreeing_within (agree.Down key i v) m w = decided key v m w
  agreeing_within (agree.Share key s) m w = moved m w
  agreeing_within (agree.Shares key list) m w = shared key list m w

  taken_within : (from : ℕ) (p : Packet) → CountsWithin (n + 1) (taken x from p).state
  taken_within from (Agreeing p) = agreeing_within p _ (within-deliver n x.rank x.setting.contexts x.agree from p old.agree)
  taken_within from (Message m) = counts-arrives (n + 1) x m more
  taken_within from (Marker c) =
      counts_of (n + 1) _
      (record { sends = more.sends; posts = more.posts; opened = more.opened; comms = comms-note (n + 1) x.comms c from more.comms; threads = more.threads; agree = more.agree })

  counts-delivers : (from : ℕ) (p : Option Packet) → CountsWithin (n + 1) (delivers x from p).state
  unfolding delivers
  counts-delivers from None = still
  counts-delivers from (Some p) = go (takes_packet x from p)
    where
      go : (b : Bool) → CountsWithin (n + 1) (taken_if b x from p).state
      go true = taken_within from p
      go false = still

  -- Leaves and give-backs

  counts-leaves : (c : ℕ) → CountsWithin (n + 1) (leaves x c).state
  unfolding leaves
  counts-leaves c =
      counts_of (n + 1) _
      (record { sends = more.sends; posts = more.posts; opened = more.opened; comms = comms-leave (n + 1) x.comms c more.comms; threads = more.threads; agree = more.agree })

  counts-gives_back : (c : ℕ) → CountsWithin (n + 1) (gives_back x c).state
  unfolding gives_back
  counts-gives_back c =
      counts_of (n + 1) _
      (record {
        sends = more.sends;
        posts = more.posts;
        opened = more.opened;
        comms = comms-remove (n + 1) x.comms c more.comms;
        threads = more.threads;
        agree = within-give_back (n + 1) x.agree c more.agree;
      })

  -- Any act

  pub counts-step : (act : Act) (p : Option Packet) → CountsWithin (n + 1) (step x act p).state
  unfolding step calls
  counts-step (Call t op) p = counts-called n x h t (effect_of x.setting x.rank (around_here x) x.local op)
  counts-step (Answer t) p = counts_rise n (n + 1) _ (counts-answered n x h t (thread_at x t).waits) (omega arith)
  counts-step (Deliver from) p = counts-delivers from p
  counts-step (MakeOffer key) p = counts-offers key
  counts-step (Settle key) p = counts-settles key
  counts-step (Leave c) p = counts-leaves c
  counts-step (Back c) p = counts-gives_back c

  -- each communicator counts fewer calls than a number beyond
  pub calls_below : (m : ℕ) → n < m → All (λ row. row.calls < m) x.comms.rows
  calls_below m lt = All-weaker (λ (row : CommRow). row.calls ≤ n) (λ (row : CommRow). row.calls < m) (λ row u. omega (arith, lt, u)) x.comms.rows h.calls
