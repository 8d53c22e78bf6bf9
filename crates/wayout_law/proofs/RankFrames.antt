-- The same at a rank: what each choice but an offer and a settle leaves of the offered creations and of the rounds.
use Rattle.std.proofs.Common.{◌≡◌, ◌+◌, ◌==◌, ℕ, Bool, true, false, [], ◌∷◌, Option, Some, None, refl}
use Rattle.std.specs.Prelude.{if◌then◌else◌}
use Rattle.mpi_base.specs.declared.keys.Kind.TheVariants as kind
use Rattle.mpi_base.specs.declared.messages.Msg.{Msg}
use Rattle.mpi_base.specs.declared.ops.Op.{Op}
use Rattle.local_law.specs.Names.{bind}
use Rattle.local_law.specs.Objects as objects
use Rattle.mpi_law.specs.Local.{effect_of}
use Rattle.mpi_law.specs.Local.Objects.{with_names}
use Rattle.mpi_law.specs.Local.Messages.{from_nobody}
use Rattle.mpi_law.specs.declared.effects.Origin.{Origin}
use Rattle.mpi_law.specs.declared.effects.Origin.TheVariants.{Grouped, Duplicated, Divided, GroupedOn}
use Rattle.mpi_law.specs.declared.effects.Effect.{Effect}
use Rattle.mpi_law.specs.declared.effects.Effect.TheVariants.{Says, Opens, Groups, Ungroups, Joins, Frees, Ends, Sends, Receives, Posts, NullPosts, Completes, Awaits}
use Rattle.agree_law.specs.declared.rows.Outcome.{Outcome}
use Rattle.agree_law.specs.Tree.{member_at}
use Rattle.agree_law.specs.Part.{stage_of}
use Rattle.agree_law.specs.Packets.{Up, Down, Share, Shares}
use Rattle.agree_law.specs.Verdicts.{take_down}
use Rattle.agree_law.specs.Moves.{deliver}
use Rattle.agree_law.specs.Moves as agree_moves
use Rattle.comm_law.specs.Comms.{comm_at}
use Rattle.mpi_protocol.specs.declared.rows.Waits.{Waits}
use Rattle.mpi_protocol.specs.declared.rows.Waits.TheVariants.{Nothing, Creation, Uncoloured, Freeing, Ending, Receiving, Awaiting}
use Rattle.mpi_protocol.specs.declared.rows.ReceiveRow.{ReceiveRow}
use Rattle.mpi_protocol.specs.Packets.{Packet, Agreeing, Message, Marker}
use Rattle.mpi_protocol.specs.Rank.{Rank, with_call, receive_of}
use Rattle.mpi_protocol.specs.Moves.{arrives}
use Rattle.mpi_protocol.specs.Calls.{key_from, key_on, key_under, around_here, opens, message_of, sent, posted_of, with_post, called, calls}
use Rattle.mpi_protocol.specs.Answers.{outcome_of, answered, answers, answers_creation, answers_row, answers_taken}
use Rattle.mpi_protocol.specs.Delivers.{takes_packet, taken}
use Rattle.mpi_protocol.specs.Step.{leaves, gives_back}
use Rattle.projection_law.proofs.Calls.{arrives_agree, posts_agree}
use Rattle.wayout_law.proofs.Frames.{Frame, frame-same, frame-begin, frame-begin_share, frame-close, frame-give_back, frame-up, frame-share, frame-down, frame-shares}

pub same : (r : ℕ) (x : Rank) → Frame r x.agree x.agree
same r x = frame-same r x.agree x.agree refl refl

pub frame-answered : (r : ℕ) (x : Rank) (t : ℕ) (waits : Waits) → Frame r x.agree (answered x t waits).state.agree
frame-answered r x t Nothing = same r x
frame-answered r x t (Creation key target session) = go (outcome_of (stage_of x.agree.opened key))
  where
    go : (o : Option Outcome) → Frame r x.agree (answers_creation x t key target session o).state.agree
    go None = same r x
    go (Some o) = frame-close r x.agree key
frame-answered r x t (Uncoloured key target session) = same r x
frame-answered r x t (Freeing serial) = same r x
frame-answered r x t (Ending session) = same r x
frame-answered r x t (Receiving n) = go (n == 0) (receive_of x.receives n)
  where
    taken_row : (room : ℕ) (o : Option Msg) → Frame r x.agree (answers_taken x t n room o).state.agree
    taken_row room None = same r x
    taken_row room (Some m) = same r x

    go : (b : Bool) (o : Option ReceiveRow) → Frame r x.agree (if b then answers x t from_nobody else answers_row x t n o).state.agree
    go true o = same r x
    go false None = same r x
    go false (Some w) = taken_row w.room w.taken
frame-answered r x t (Awaiting name) = same r x

pub frame-leaves : (r : ℕ) (x : Rank) (c : ℕ) → Frame r x.agree (leaves x c).state.agree
unfolding leaves
frame-leaves r x c = same r x

pub frame-gives_back : (r : ℕ) (x : Rank) (c : ℕ) → Frame r x.agree (gives_back x c).state.agree
unfolding gives_back
frame-gives_back r x c = frame-give_back r x.agree c

-- Calls

frame-opens : (x : Rank) (o : Origin ℕ) → Frame x.rank x.agree (opens x o).part
frame-opens x (Grouped group tag) = frame-begin x.rank x.setting.contexts x.agree (key_from group tag)
frame-opens x (Duplicated c) = frame-begin x.rank x.setting.contexts x.agree (key_on x.comms c kind.Dup)
frame-opens x (Divided c share) = frame-begin_share x.rank x.agree (key_on x.comms c kind.Share) share
frame-opens x (GroupedOn c tag group) = frame-begin x.rank x.setting.contexts x.agree (key_under c tag group)

frame-called : (x : Rank) (t : ℕ) (e : Effect ℕ) → Frame x.rank x.agree (called x t e).state.agree
frame-called x t (Says said) = same x.rank x
frame-called x t (Opens target) = same x.rank x
frame-called x t (Groups target members session) = same x.rank x
frame-called x t (Ungroups name) = same x.rank x
frame-called x t (Joins a) = frame-opens x a.origin
frame-called x t (Frees name c) = same x.rank x
frame-called x t (Ends name s) = same x.rank x
frame-called x t (Sends m) = go (member_at (comm_at x.comms m.comm).members m.to == x.rank)
  where
    y : Rank
    y = record x { local = x.local; threads = with_call x t Nothing; sends = x.sends + 1 }

    go : (b : Bool) → Frame x.rank x.agree (sent (if b then (arrives y (message_of x m), []) else ((y, None), record { to = member_at (comm_at x.comms m.comm).members m.to; packet = Message (message_of x m) } ∷ []))).state.agree
    go true = rw (arrives_agree y (message_of x m)) (same x.rank x)
    go false = same x.rank x
frame-called x t (Receives a) = rw (posts_agree (with_post x t x.local a (Receiving (x.posts + 1))) (posted_of x a)) (same x.rank x)
frame-called x t (Posts target a) = rw (posts_agree (with_post x t (with_names x.local (bind x.local.names target (objects.Request (x.posts + 1)))) a Nothing) (posted_of x a)) (same x.rank x)
frame-called x t (NullPosts target) = same x.rank x
frame-called x t (Completes name n) = same x.rank x
frame-called x t (Awaits name) = same x.rank x

pub frame-calls : (x : Rank) (t : ℕ) (op : Op) → Frame x.rank x.agree (calls x t op).state.agree
unfolding calls
frame-calls x t op = frame-called x t (effect_of x.setting x.rank (around_here x) x.local op)

-- Deliveries

pub frame-taken : (x : Rank) (from : ℕ) (p : Packet) → takes_packet x from p ≡ true → Frame x.rank x.agree (taken x from p).state.agree
unfolding takes_packet agree_moves.takes_packet deliver take_down
frame-taken x from (Agreeing (Up key i own mask)) e = frame-up x.rank x.setting.contexts x.agree from key i own mask
frame-taken x from (Agreeing (Down key i v)) e = rw e (frame-down x.rank x.agree from key i v e)
frame-taken x from (Agreeing (Share key s)) e = frame-share x.rank x.agree from key s
frame-taken x from (Agreeing (Shares key list)) e = frame-shares x.rank x.setting.contexts x.agree from key list e
frame-taken x from (Message m) e = rw (arrives_agree x m) (same x.rank x)
frame-taken x from (Marker c) e = same x.rank x
