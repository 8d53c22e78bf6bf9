-- What a step of a rank does to its names, its threads and its communicators: a fact of these three goes on to hold after
-- each step where it does after each of these changes.
use Rattle.std.proofs.Common.{◌≡◌, ℕ, ◌+◌, ◌==◌, if◌then◌else◌, Bool, true, false, List, [], ◌∷◌, Option, Some, None, refl}
use Rattle.std.specs.Prelude.{ℤ}
use Rattle.mpi_base.specs.declared.keys.Key.{Key}
use Rattle.mpi_base.specs.declared.messages.Msg.{Msg}
use Rattle.mpi_base.specs.declared.shares.Shared1.{Shared1}
use Rattle.mpi_base.specs.declared.entries.Act.{Act}
use Rattle.mpi_base.specs.declared.entries.Act.TheVariants.{Call, Answer, Deliver, Offer as MakeOffer, Settle, Leave, Back}
use Rattle.local_law.specs.Names.{unbind}
use Rattle.mpi_law.specs.Local.Objects.{Local, with_names}
use Rattle.mpi_law.specs.Local.{effect_of}
use Rattle.mpi_law.specs.Local.Effects.{local_after}
use Rattle.mpi_law.specs.declared.effects.Effect.{Effect}
use Rattle.mpi_law.specs.declared.effects.Effect.TheVariants.{Says, Opens, Groups, Ungroups, Joins, Frees, Ends, Sends, Receives, Posts, NullPosts, Completes, Awaits}
use Rattle.agree_law.specs.Packets as agree
use Rattle.agree_law.specs.Kinds.{is_share}
use Rattle.agree_law.specs.Part.{stage_of}
use Rattle.agree_law.specs.Classes.{split_key}
use Rattle.agree_law.specs.Shares.{share_list}
use Rattle.agree_law.specs.declared.rows.Outcome.{Outcome}
use Rattle.agree_law.specs.declared.rows.Verdict.{Verdict}
use Rattle.agree_law.specs.declared.rows.Verdict.TheVariants.{Ready, Retry, Context, Exhausted}
use Rattle.comm_law.specs.Comms.{Comms as Known, add, note_marker, leave, remove, comm_at, mark_free, free_session}
use Rattle.match_law.specs.declared.rows.Posted.{Posted}
use Rattle.match_law.specs.Box.{arrive, post}
use Rattle.mpi_protocol.specs.declared.rows.Waits.{Waits}
use Rattle.mpi_protocol.specs.declared.rows.Waits.TheVariants.{Nothing, Creation, Uncoloured, Freeing, Ending, Receiving, Awaiting}
use Rattle.mpi_protocol.specs.declared.rows.ThreadRow.{ThreadRow}
use Rattle.mpi_protocol.specs.declared.rows.ReceiveRow.{ReceiveRow}
use Rattle.mpi_protocol.specs.Packets.{Packet, Sent, Agreeing, Message, Marker}
use Rattle.mpi_protocol.specs.Rank.{Rank, thread_at, session_of, with_key, with_call, with_waits, receive_of}
use Rattle.mpi_protocol.specs.Moves.{Taking, arrives, arrives_to, posts, posts_to}
use Rattle.mpi_protocol.specs.Calls.{around_here, key_of, counted, sends_to, called, calls}
use Rattle.mpi_law.specs.Local.Messages.{from_nobody}
use Rattle.mpi_protocol.specs.Answers.{target_after, answers, answered, answers_creation, answers_row, answers_taken, outcome_of}
use Rattle.mpi_protocol.specs.Agreeing.{offers, settles, settles_as, with_verdict, verdict_at, colour_here, next_key, with_shares}
use Rattle.mpi_protocol.specs.Delivers.{delivers, taken, taken_if, takes_packet}
use Rattle.mpi_protocol.specs.Step.{step, is_enabled, may_leave, leaves, gives_back}
use Rattle.run_law.proofs.Found.{Found, found}

-- what a thread waits for after an effect, and the communicators after it
abbrev pub waits_after : Rank → Effect ℕ → Waits
waits_after x (Says said) = Nothing
waits_after x (Opens target) = Nothing
waits_after x (Groups target members session) = Nothing
waits_after x (Ungroups name) = Nothing
waits_after x (Joins a) = Creation (key_of x.comms a.origin) a.target a.session
waits_after x (Frees name c) = Freeing (comm_at x.comms c).serial
waits_after x (Ends name s) = Ending s
waits_after x (Sends m) = Nothing
waits_after x (Receives a) = Receiving (x.posts + 1)
waits_after x (Posts target a) = Nothing
waits_after x (NullPosts target) = Nothing
waits_after x (Completes name n) = Receiving n
waits_after x (Awaits name) = Awaiting name

abbrev pub comms_after : Rank → Effect ℕ → Known
comms_after x (Says said) = x.comms
comms_after x (Opens target) = x.comms
comms_after x (Groups target members session) = x.comms
comms_after x (Ungroups name) = x.comms
comms_after x (Joins a) = counted x.comms a.origin
comms_after x (Frees name c) = mark_free x.comms c
comms_after x (Ends name s) = free_session x.comms s
comms_after x (Sends m) = x.comms
comms_after x (Receives a) = x.comms
comms_after x (Posts target a) = x.comms
comms_after x (NullPosts target) = x.comms
comms_after x (Completes name n) = x.comms
comms_after x (Awaits name) = x.comms

-- the names after an answer
pub data AnswerLocal (x : Rank) : Waits → Local → Type 0 where
  binds_target : (key : Key) (target : List ℕ) (session : ℕ) (o : Outcome) → AnswerLocal x (Creation key target session) (target_after x.local target session o)
  frees_target : (key : Key) (target : List ℕ) (session : ℕ) → AnswerLocal x (Uncoloured key target session) (with_names x.local (unbind x.local.names target))
  same_names : (w : Waits) → AnswerLocal x w x.local

-- a key goes on under one with the same parent
abbrev pub SameParent : Key → Option Key → Type 0
SameParent key None = Unit {0}
SameParent key (Some k) = k.parent ≡ key.parent

module _ (P : Local → List ThreadRow → Known → Type 0) where
  abbrev pub OnRank : Rank → Type 0
  OnRank x = P x.local x.threads x.comms

  pub record Kinds (x : Rank) : Type 0 where
    pub still : OnRank x
    pub call : (t : ℕ) (e : Effect ℕ) → Found (around_here x) x.local.names e → P (local_after x.posts x.local e) (with_call x t (waits_after x e)) (comms_after x e)
    pub answer : (t : ℕ) (l : Local) → AnswerLocal x (thread_at x t).waits l → P l (with_waits x t Nothing) x.comms
    pub shared : (key : Key) (next : Option Key) → SameParent key next → P x.local (with_key x.threads key next) x.comms
    pub added : (c : ℕ) (members : List ℕ) (session : ℕ) → P x.local x.threads (add x.comms c members session)
    pub noted : (c from : ℕ) → P x.local x.threads (note_marker x.comms c from)
    pub left : (c : ℕ) → may_leave x c ≡ true → P x.local x.threads (leave x.comms c)
    pub removed : (c : ℕ) → P x.local x.threads (remove x.comms c)

  -- Messages

  arrived : (x : Rank) (m : Msg) → OnRank x → OnRank (arrives x m).0
  arrived x m h = go (arrive x.box m).1
    where
      go : (o : Option Posted) → OnRank (arrives_to x m (arrive x.box m).0 o).0
      go None = h
      go (Some p) = h

  posted : (x : Rank) (p : Posted) → OnRank x → OnRank (posts x p).0
  posted x p h = go (post x.box p).1
    where
      go : (o : Option Msg) → OnRank (posts_to x p.number (post x.box p).0 o).0
      go None = h
      go (Some m) = h

  abbrev OnSent : Taking × List Sent → Type 0
  OnSent done = OnRank done.0.0

  sent_kept : (x : Rank) (m : Msg) (to : ℕ) → OnRank x → OnRank (sends_to x m to).0.0
  sent_kept x m to h = go (to == x.rank)
    where
      go : (b : Bool) → OnSent (if b then (arrives x m, []) else ((x, None), record { to = to; packet = Message m } ∷ []))
      go true = arrived x m h
      go false = h

  -- Calls

  called_kept : (x : Rank) (t : ℕ) (e : Effect ℕ) → P (local_after x.posts x.local e) (with_call x t (waits_after x e)) (comms_after x e) → OnRank (called x t e).state
  called_kept x t (Says said) h = h
  called_kept x t (Opens target) h = h
  called_kept x t (Groups target members session) h = h
  called_kept x t (Ungroups name) h = h
  called_kept x t (Joins a) h = h
  called_kept x t (Frees name c) h = h
  called_kept x t (Ends name s) h = h
  called_kept x t (Sends m) h = sent_kept _ _ _ h
  called_kept x t (Receives a) h = posted _ _ h
  called_kept x t (Posts target a) h = posted _ _ h
  called_kept x t (NullPosts target) h = h
  called_kept x t (Completes name n) h = h
  called_kept x t (Awaits name) h = h

  -- Answers

  answered_kept : (x : Rank) (t : ℕ) (w : Waits) → OnRank x → ((l : Local) → AnswerLocal x w l → P l (with_waits x t Nothing) x.comms) → OnRank (answered x t w).state
  answered_kept x t Nothing h k = h
  answered_kept x t (Creation key target session) h k = go (outcome_of (stage_of x.agree.opened key))
    where
      go : (o : Option Outcome) → OnRank (answers_creation x t key target session o).state
      go None = h
      go (Some o) = k _ (binds_target key target session o)
  answered_kept x t (Uncoloured key target session) h k = k _ (frees_target key target session)
  answered_kept x t (Freeing serial) h k = k _ (same_names (Freeing serial))
  answered_kept x t (Ending session) h k = k _ (same_names (Ending session))
  answered_kept x t (Awaiting name) h k = k _ (same_names (Awaiting name))
  answered_kept x t (Receiving n) h k = go (n == 0) (receive_of x.receives n)
    where
      taken_row : (room : ℕ) (o : Option Msg) → OnRank (answers_taken x t n room o).state
      taken_row room None = h
      taken_row room (Some m) = k _ (same_names (Receiving n))

      go : (b : Bool) (o : Option ReceiveRow) → OnRank (if b then answers x t from_nobody else answers_row x t n o).state
      go true o = k _ (same_names (Receiving n))
      go false None = h
      go false (Some w) = taken_row w.room w.taken

  -- Deliveries and settles

  verdict_kept : (x : Rank) (key : Key) (v : Verdict) → Kinds x → OnRank (with_verdict x key v)
  verdict_kept x key Ready k = k.still
  verdict_kept x key Retry k = k.still
  verdict_kept x key (Context c) k = k.added c key.members (session_of x.threads key)
  verdict_kept x key Exhausted k = k.still

  shares_kept : (x : Rank) (key : Key) (list : List Shared1) → Kinds x → OnRank (with_shares x key list)
  shares_kept x key list k = go (colour_here x key list)
    where
      go : (c : Option ℤ) → P x.local (with_key x.threads key (next_key key c list)) x.comms
      go None = k.shared key None tt
      go (Some c) = k.shared key (Some (split_key key (Some c) list)) refl

  taken_kept : (x : Rank) (from : ℕ) (p : Packet) → Kinds x → OnRank (taken x from p).state
  taken_kept x from (Agreeing (agree.Up key i own mask)) k = k.still
  taken_kept x from (Agreeing (agree.Down key i v)) k = verdict_kept x key v k
  taken_kept x from (Agreeing (agree.Share key s)) k = k.still
  taken_kept x from (Agreeing (agree.Shares key list)) k = shares_kept x key list k
  taken_kept x from (Message m) k = arrived x m k.still
  taken_kept x from (Marker c) k = k.noted c from

  delivered_kept : (x : Rank) (from : ℕ) (p : Option Packet) → Kinds x → OnRank (delivers x from p).state
  unfolding delivers
  delivered_kept x from None k = k.still
  delivered_kept x from (Some p) k = go (takes_packet x from p)
    where
      go : (b : Bool) → OnRank (taken_if b x from p).state
      go true = taken_kept x from p k
      go false = k.still

  settled_kept : (x : Rank) (key : Key) → Kinds x → OnRank (settles x key).state
  unfolding settles
  settled_kept x key k = go (is_share key.kind)
    where
      go : (b : Bool) → OnRank (settles_as x key b).state
      go true = shares_kept x key (share_list x.agree.shares key) k
      go false = verdict_kept x key (verdict_at x key) k

  -- any step
  pub step_kept : (x : Rank) (act : Act) (p : Option Packet) → is_enabled x act ≡ true → Kinds x → OnRank (step x act p).state
  unfolding step is_enabled calls offers leaves gives_back
  step_kept x (Call t o) p can k = called_kept x t (effect_of x.setting x.rank (around_here x) x.local o) (k.call t _ (found x.setting x.rank (around_here x) x.local o))
  step_kept x (Answer t) p can k = answered_kept x t (thread_at x t).waits k.still (k.answer t)
  step_kept x (Deliver from) p can k = delivered_kept x from p k
  step_kept x (MakeOffer key) p can k = k.still
  step_kept x (Settle key) p can k = settled_kept x key k
  step_kept x (Leave c) p can k = k.left c can
  step_kept x (Back c) p can k = k.removed c
