-- What a step does to the calls that are counted: one case for each act, effect and answer.
use Rattle.std.proofs.Common.{◌≡◌, ◌+◌, ◌==◌, ℕ, Bool, true, false, if◌then◌else◌, List, [], ◌∷◌, Option, Some, None, refl, ap}
use Rattle.mpi_base.specs.declared.keys.Key.{Key}
use Rattle.mpi_base.specs.declared.messages.Msg.{Msg}
use Rattle.mpi_base.specs.declared.shares.Shared1.{Shared1}
use Rattle.mpi_base.specs.declared.entries.Act.{Act}
use Rattle.mpi_base.specs.declared.entries.Act.TheVariants.{Call, Answer, Deliver, Offer as MakeOffer, Settle, Leave, Back}
use Rattle.mpi_law.specs.Local.{effect_of}
use Rattle.mpi_law.specs.Local.Objects.{Local}
use Rattle.mpi_law.specs.Local.Effects.{local_after}
use Rattle.mpi_law.specs.Local.Messages.{from_nobody}
use Rattle.mpi_law.specs.declared.effects.Sending.{Sending}
use Rattle.mpi_law.specs.declared.effects.Receiving.{Receiving as ReceiveAsked}
use Rattle.mpi_law.specs.declared.effects.Effect.{Effect}
use Rattle.mpi_law.specs.declared.effects.Effect.TheVariants.{Says, Opens, Groups, Ungroups, Joins, Frees, Ends, Sends, Receives, Posts, NullPosts, Completes, Awaits}
use Rattle.agree_law.specs.declared.rows.Outcome.{Outcome}
use Rattle.agree_law.specs.declared.rows.Verdict.{Verdict}
use Rattle.agree_law.specs.declared.rows.Verdict.TheVariants.{Ready, Retry, Context, Exhausted}
use Rattle.agree_law.specs.Part.{stage_of}
use Rattle.agree_law.specs.Packets as agree
use Rattle.agree_law.specs.Moves as agree_moves
use Rattle.agree_law.specs.Kinds.{is_share}
use Rattle.agree_law.specs.Shares.{share_list}
use Rattle.comm_law.specs.Comms.{comm_at}
use Rattle.match_law.specs.declared.rows.Posted.{Posted}
use Rattle.match_law.specs.Box.{Box, arrive, post}
use Rattle.mpi_protocol.specs.declared.rows.Waits.{Waits}
use Rattle.mpi_protocol.specs.declared.rows.Waits.TheVariants.{Nothing, Creation, Uncoloured, Freeing, Ending, Receiving, Awaiting}
use Rattle.mpi_protocol.specs.declared.rows.ReceiveRow.{ReceiveRow}
use Rattle.mpi_protocol.specs.Packets.{Packet, Agreeing, Message, Marker, Sent}
use Rattle.mpi_protocol.specs.Rank.{Rank, thread_at, with_call, receive_of}
use Rattle.mpi_protocol.specs.Moves.{Taking, arrives_to, arrives, posts_to, posts}
use Rattle.mpi_protocol.specs.Calls.{around_here, message_of, sends, posted_of, with_post, carried_out, calls}
use Rattle.mpi_protocol.specs.Answers.{outcome_of, answers, answers_creation, answers_taken, answers_row, answers_receive, answered}
use Rattle.mpi_protocol.specs.Agreeing.{agreed, with_verdict, colour_here, next_key, shares_out, verdict_at, settles_as, offers, settles}
use Rattle.mpi_protocol.specs.Delivers.{takes_packet, agrees, taken, taken_if, delivers}
use Rattle.mpi_protocol.specs.Step.{leaves, gives_back, step}
use Rattle.script_law.proofs.Counts.{counts, one_more, counts_after, counts-call, counts-wait, counts-key}

-- Messages change no thread

threads-arrives : (x : Rank) (m : Msg) → (arrives x m).0.threads ≡ x.threads
threads-arrives x m = go (arrive x.box m).0 (arrive x.box m).1
  where
    go : (b : Box) (o : Option Posted) → (arrives_to x m b o).0.threads ≡ x.threads
    go b None = refl
    go b (Some p) = refl

threads-posts : (x : Rank) (p : Posted) → (posts x p).0.threads ≡ x.threads
threads-posts x p = go (post x.box p).0 (post x.box p).1
  where
    go : (b : Box) (o : Option Msg) → (posts_to x p.number b o).0.threads ≡ x.threads
    go b None = refl
    go b (Some m) = refl

module _ (x : Rank) where
  -- Calls

  sent_once : (t : ℕ) (l : Local) (m : Sending ℕ) → counts (sends x t l m).state.threads ≡ one_more (counts x.threads) t
  sent_once t l m = go (_ == x.rank) (message_of x m) _
    where
      y : Rank
      y = record x { local = l; threads = with_call x t Nothing; sends = x.sends + 1 }

      done : Bool → Msg → ℕ → Taking × List Sent
      done b msg to = if b then (arrives y msg, []) else ((y, None), record { to = to; packet = Message msg } ∷ [])

      go : (b : Bool) (msg : Msg) (to : ℕ) → counts (done b msg to).0.0.threads ≡ one_more (counts x.threads) t
      go true msg to = rw (threads-arrives y msg) (counts-call x t Nothing)
      go false msg to = counts-call x t Nothing

  posted_once : (t : ℕ) (l : Local) (a : ReceiveAsked ℕ) (waits : Waits) → counts (posts (with_post x t l a waits) (posted_of x a)).0.threads ≡ one_more (counts x.threads) t
  posted_once t l a waits = rw (threads-posts (with_post x t l a waits) (posted_of x a)) (counts-call x t waits)

  carried_once : (t : ℕ) (l : Local) (e : Effect ℕ) → counts (carried_out x t l e).state.threads ≡ one_more (counts x.threads) t
  carried_once t l (Says said) = counts-call x t Nothing
  carried_once t l (Opens target) = counts-call x t Nothing
  carried_once t l (Groups target members session) = counts-call x t Nothing
  carried_once t l (Ungroups name) = counts-call x t Nothing
  carried_once t l (Joins a) = counts-call x t _
  carried_once t l (Frees name c) = counts-call x t (Freeing (comm_at x.comms c).serial)
  carried_once t l (Ends name s) = counts-call x t (Ending s)
  carried_once t l (Sends m) = sent_once t l m
  carried_once t l (Receives a) = posted_once t l a (Receiving (x.posts + 1))
  carried_once t l (Posts target a) = posted_once t l a Nothing
  carried_once t l (NullPosts target) = counts-call x t Nothing
  carried_once t l (Completes name number) = counts-call x t (Receiving number)
  carried_once t l (Awaits name) = counts-call x t (Awaiting name)

  -- Answers

  created_same : (t : ℕ) (key : Key) (target : List ℕ) (session : ℕ) (o : Option Outcome) → counts (answers_creation x t key target session o).state.threads ≡ counts x.threads
  created_same t key target session None = refl
  created_same t key target session (Some o) = counts-wait x t Nothing

  received_same : (t m : ℕ) → counts (answers_receive x t m).state.threads ≡ counts x.threads
  received_same t m = go (m == 0)
    where
      taken_same : (room : ℕ) (o : Option Msg) → counts (answers_taken x t m room o).state.threads ≡ counts x.threads
      taken_same room None = refl
      taken_same room (Some msg) = counts-wait x t Nothing

      row : (o : Option ReceiveRow) → counts (answers_row x t m o).state.threads ≡ counts x.threads
      row None = refl
      row (Some w) = taken_same w.room w.taken

      go : (b : Bool) → counts (if b then answers x t from_nobody else answers_row x t m (receive_of x.receives m)).state.threads ≡ counts x.threads
      go true = counts-wait x t Nothing
      go false = row (receive_of x.receives m)

  answered_same : (t : ℕ) (waits : Waits) → counts (answered x t waits).state.threads ≡ counts x.threads
  answered_same t Nothing = refl
  answered_same t (Creation key target session) = created_same t key target session (outcome_of (stage_of x.agree.opened key))
  answered_same t (Uncoloured key target session) = counts-wait x t Nothing
  answered_same t (Freeing serial) = counts-wait x t Nothing
  answered_same t (Ending session) = counts-wait x t Nothing
  answered_same t (Receiving m) = received_same t m
  answered_same t (Awaiting name) = counts-wait x t Nothing

  -- The agreement

  decided_same : (key : Key) (v : Verdict) (m : agree.Moved) → (agreed (with_verdict x key v) m).state.threads ≡ x.threads
  decided_same key Ready m = refl
  decided_same key Retry m = refl
  decided_same key (Context c) m = refl
  decided_same key Exhausted m = refl

  shared_same : (key : Key) (list : List Shared1) (m : agree.Moved) → counts (shares_out x key list m).state.threads ≡ counts x.threads
  shared_same key list m = counts-key x.threads key (next_key key (colour_here x key list) list)

  offers_same : (key : Key) → counts (offers x key).state.threads ≡ counts x.threads
  unfolding offers
  offers_same key = refl

  settles_same : (key : Key) → counts (settles x key).state.threads ≡ counts x.threads
  unfolding settles
  settles_same key = go (is_share key.kind)
    where
      after : agree.Moved
      after = agree_moves.settle x.rank x.setting.contexts x.agree key

      go : (b : Bool) → counts (settles_as x key b).state.threads ≡ counts x.threads
      go true = shared_same key (share_list x.agree.shares key) after
      go false = ap counts (decided_same key (verdict_at x key) after)

  -- Deliveries

  agreeing_same : (p : agree.Packet) (m : agree.Moved) → counts (agrees x p m).state.threads ≡ counts x.threads
  agreeing_same (agree.Up key i own mask) m = refl
  agreeing_same (agree.Down key i v) m = ap counts (decided_same key v m)
  agreeing_same (agree.Share key s) m = refl
  agreeing_same (agree.Shares key list) m = shared_same key list m

  taken_same : (from : ℕ) (p : Packet) → counts (taken x from p).state.threads ≡ counts x.threads
  taken_same from (Agreeing p) = agreeing_same p _
  taken_same from (Message m) = ap counts (threads-arrives x m)
  taken_same from (Marker c) = refl

  delivers_same : (from : ℕ) (p : Option Packet) → counts (delivers x from p).state.threads ≡ counts x.threads
  unfolding delivers
  delivers_same from None = refl
  delivers_same from (Some p) = go (takes_packet x from p)
    where
      go : (b : Bool) → counts (taken_if b x from p).state.threads ≡ counts x.threads
      go true = taken_same from p
      go false = refl

  -- Any act

  pub counts-step : (act : Act) (p : Option Packet) → counts (step x act p).state.threads ≡ counts_after (counts x.threads) act
  unfolding step calls leaves gives_back
  counts-step (Call t op) p = let e = effect_of x.setting x.rank (around_here x) x.local op in carried_once t (local_after x.posts x.local e) e
  counts-step (Answer t) p = answered_same t (thread_at x t).waits
  counts-step (Deliver from) p = delivers_same from p
  counts-step (MakeOffer key) p = offers_same key
  counts-step (Settle key) p = settles_same key
  counts-step (Leave c) p = refl
  counts-step (Back c) p = refl
