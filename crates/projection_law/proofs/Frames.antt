-- A step keeps the rank's number and its setting, and no step changes another rank.
use Rattle.std.proofs.Common.{◌≡◌, ◌≢◌, ◌⊎◌, inl, inr, ◌<◌, ◌≤◌, ◌==◌, ◌+◌, ℕ, Bool, true, false, if◌then◌else◌, List, [], ◌∷◌, ◌++◌, length, set, get_or, Option, Some, None, refl}
use Rattle.mpi_base.specs.declared.keys.Key.{Key}
use Rattle.mpi_base.specs.declared.entries.Act.{Act}
use Rattle.mpi_base.specs.declared.entries.Act.TheVariants.{Call, Answer, Deliver, Offer as MakeOffer, Settle, Leave, Back}
use Rattle.mpi_base.specs.declared.messages.Msg.{Msg}
use Rattle.mpi_law.specs.Local.{effect_of}
use Rattle.mpi_law.specs.Local.Objects.{Local}
use Rattle.mpi_law.specs.Local.Messages.{from_nobody}
use Rattle.mpi_law.specs.declared.effects.Sending.{Sending}
use Rattle.mpi_law.specs.declared.effects.Effect.{Effect}
use Rattle.mpi_law.specs.declared.effects.Effect.TheVariants.{Says, Opens, Groups, Ungroups, Joins, Frees, Ends, Sends, Receives, Posts, NullPosts, Completes, Awaits}
use Rattle.agree_law.specs.declared.rows.Outcome.{Outcome}
use Rattle.agree_law.specs.declared.rows.Verdict.{Verdict}
use Rattle.agree_law.specs.declared.rows.Verdict.TheVariants.{Ready, Retry, Context, Exhausted}
use Rattle.agree_law.specs.Part.{stage_of}
use Rattle.agree_law.specs.Packets as agree
use Rattle.agree_law.specs.Kinds.{is_share}
use Rattle.agree_law.proofs.Lists.{set_place}
use Rattle.match_law.specs.declared.rows.Posted.{Posted}
use Rattle.match_law.specs.Box.{Box, arrive, post}
use Rattle.mpi_protocol.specs.declared.rows.Waits.{Waits}
use Rattle.mpi_protocol.specs.declared.rows.Waits.TheVariants.{Nothing, Creation, Uncoloured, Freeing, Ending, Receiving, Awaiting}
use Rattle.mpi_protocol.specs.declared.rows.ReceiveRow.{ReceiveRow}
use Rattle.mpi_protocol.specs.Packets.{Packet, Agreeing, Message, Marker, Sent}
use Rattle.mpi_protocol.specs.Rank.{Rank, thread_at, with_call, receive_of}
use Rattle.mpi_protocol.specs.Moves.{Move, Taking, arrives_to, arrives, posts_to, posts}
use Rattle.mpi_protocol.specs.Calls.{around_here, sends, message_of, called, calls}
use Rattle.mpi_protocol.specs.Answers.{outcome_of, answers, answers_creation, answers_taken, answers_row, answered}
use Rattle.mpi_protocol.specs.Agreeing.{with_verdict, offers, settles_as, settles, verdict_at}
use Rattle.mpi_protocol.specs.Delivers.{takes_packet, agrees, taken_if, delivers}
use Rattle.mpi_protocol.specs.Step.{step, leaves, gives_back}
use Rattle.mpi_protocol.specs.World.{World, rank_at, blank, links_with, put_on, taken_off}

-- the rank has the same number and setting
pub record Same (x y : Rank) : Type 0 where
  pub rank : y.rank ≡ x.rank
  pub setting : y.setting ≡ x.setting

same : (x : Rank) → Same x x
same x = record { rank = refl; setting = refl }

same_arrives : (x y : Rank) (m : Msg) → Same x y → Same x (arrives y m).0
same_arrives x y m s = go (arrive y.box m).0 (arrive y.box m).1
  where
    go : (b : Box) (o : Option Posted) → Same x (arrives_to y m b o).0
    go b None = record { rank = s.rank; setting = s.setting }
    go b (Some q) = record { rank = s.rank; setting = s.setting }

same_posts : (x y : Rank) (q : Posted) → Same x y → Same x (posts y q).0
same_posts x y q s = go (post y.box q).0 (post y.box q).1
  where
    go : (b : Box) (o : Option Msg) → Same x (posts_to y q.number b o).0
    go b None = record { rank = s.rank; setting = s.setting }
    go b (Some m) = record { rank = s.rank; setting = s.setting }

same_sends : (x : Rank) (t : ℕ) (l : Local) (m : Sending ℕ) → Same x (sends x t l m).state
same_sends x t l m = go (_ == x.rank) (record x { local = l; threads = with_call x t Nothing; sends = x.sends + 1 }) (message_of x m) _ (record { rank = refl; setting = refl })
  where
    done : Bool → Rank → Msg → ℕ → Taking × List Sent
    done b y msg to = if b then (arrives y msg, []) else ((y, None), record { to = to; packet = Message msg } ∷ [])

    go : (b : Bool) (y : Rank) (msg : Msg) (to : ℕ) → Same x y → Same x (done b y msg to).0.0
    go true y msg to s = same_arrives x y msg s
    go false y msg to s = s

same_called : (x : Rank) (t : ℕ) (e : Effect ℕ) → Same x (called x t e).state
same_called x t (Says said) = record { rank = refl; setting = refl }
same_called x t (Opens target) = record { rank = refl; setting = refl }
same_called x t (Groups target members session) = record { rank = refl; setting = refl }
same_called x t (Ungroups name) = record { rank = refl; setting = refl }
same_called x t (Joins a) = record { rank = refl; setting = refl }
same_called x t (Frees name c) = record { rank = refl; setting = refl }
same_called x t (Ends name s) = record { rank = refl; setting = refl }
same_called x t (Sends m) = same_sends x t x.local m
same_called x t (Receives a) = same_posts x _ _ (record { rank = refl; setting = refl })
same_called x t (Posts target a) = same_posts x _ _ (record { rank = refl; setting = refl })
same_called x t (NullPosts target) = record { rank = refl; setting = refl }
same_called x t (Completes name n) = record { rank = refl; setting = refl }
same_called x t (Awaits name) = record { rank = refl; setting = refl }

same_answered : (x : Rank) (t : ℕ) (s : Waits) → Same x (answered x t s).state
same_answered x t Nothing = same x
same_answered x t (Creation key target session) = go (outcome_of (stage_of x.agree.opened key))
  where
    go : (o : Option Outcome) → Same x (answers_creation x t key target session o).state
    go None = same x
    go (Some o) = record { rank = refl; setting = refl }
same_answered x t (Uncoloured key target session) = record { rank = refl; setting = refl }
same_answered x t (Freeing serial) = record { rank = refl; setting = refl }
same_answered x t (Ending session) = record { rank = refl; setting = refl }
same_answered x t (Receiving n) = go (n == 0)
  where
    taken : (room : ℕ) (o : Option Msg) → Same x (answers_taken x t n room o).state
    taken room None = same x
    taken room (Some m) = record { rank = refl; setting = refl }

    row : (o : Option ReceiveRow) → Same x (answers_row x t n o).state
    row None = same x
    row (Some w) = taken w.room w.taken

    go : (b : Bool) → Same x (if b then answers x t from_nobody else answers_row x t n (receive_of x.receives n)).state
    go true = record { rank = refl; setting = refl }
    go false = row (receive_of x.receives n)
same_answered x t (Awaiting name) = record { rank = refl; setting = refl }

pub same_verdict : (x : Rank) (key : Key) (v : Verdict) → Same x (with_verdict x key v)
same_verdict x key Ready = same x
same_verdict x key Retry = same x
same_verdict x key (Context c) = record { rank = refl; setting = refl }
same_verdict x key Exhausted = same x

same_agrees : (x : Rank) (p : agree.Packet) (m : agree.Moved) → Same x (agrees x p m).state
same_agrees x (agree.Up key i own mask) m = record { rank = refl; setting = refl }
same_agrees x (agree.Down key i v) m = let s = same_verdict x key v in record { rank = s.rank; setting = s.setting }
same_agrees x (agree.Share key s) m = record { rank = refl; setting = refl }
same_agrees x (agree.Shares key list) m = record { rank = refl; setting = refl }

same_taken : (x : Rank) (from : ℕ) (p : Packet) (b : Bool) → Same x (taken_if b x from p).state
same_taken x from p false = same x
same_taken x from (Agreeing p) true = same_agrees x p _
same_taken x from (Message m) true = same_arrives x x m (same x)
same_taken x from (Marker c) true = record { rank = refl; setting = refl }

same_settles : (x : Rank) (key : Key) (b : Bool) → Same x (settles_as x key b).state
same_settles x key true = record { rank = refl; setting = refl }
same_settles x key false = let s = same_verdict x key (verdict_at x key) in record { rank = s.rank; setting = s.setting }

pub same_step : (x : Rank) (act : Act) (p : Option Packet) → Same x (step x act p).state
unfolding step calls offers settles delivers leaves gives_back
same_step x (Call t op) p = same_called x t (effect_of x.setting x.rank (around_here x) x.local op)
same_step x (Answer t) p = same_answered x t (thread_at x t).waits
same_step x (Deliver from) None = same x
same_step x (Deliver from) (Some p) = same_taken x from p (takes_packet x from p)
same_step x (MakeOffer key) p = record { rank = refl; setting = refl }
same_step x (Settle key) p = same_settles x key (is_share key.kind)
same_step x (Leave c) p = record { rank = refl; setting = refl }
same_step x (Back c) p = record { rank = refl; setting = refl }

-- The ranks after a choice

ranks_put : (w : World) (r : ℕ) (ss : List Sent) → (put_on w r ss).ranks ≡ w.ranks
ranks_put w r [] = refl
ranks_put w r (s ∷ ss) = ranks_put (record w { links = links_with w r s }) r ss

pub ranks_moved : (w : World) (r : ℕ) (act : Act) (m : Move) → (put_on (record (taken_off w r act) { ranks = set w.ranks r m.state }) r m.sent).ranks ≡ set w.ranks r m.state
ranks_moved w r act m = ranks_put (record (taken_off w r act) { ranks = set w.ranks r m.state }) r m.sent

-- the rank that moves has its next state, any other stays
pub rank_moved : (P : ℕ → Rank → Type 0) (w : World) (r : ℕ) (y : Rank) → P r y → ((q : ℕ) → q < length w.ranks → P q (rank_at w q)) → (q : ℕ) → q < length w.ranks → P q (get_or (set w.ranks r y) q blank)
rank_moved P w r y here there q lt = go (set_place w.ranks r y blank q)
  where
    go : ((q ≡ r) × (r < length w.ranks) × (get_or (set w.ranks r y) q blank ≡ y)) ⊎ (((q ≢ r) ⊎ (length w.ranks ≤ r)) × (get_or (set w.ranks r y) q blank ≡ rank_at w q)) → P q (get_or (set w.ranks r y) q blank)
    go (inl c) = rw (c.2, c.0) here
    go (inr c) = rw c.1 (there q lt)
