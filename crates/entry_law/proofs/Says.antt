-- What each step says in its entry besides the choice and the packet.
use Rattle.std.proofs.Common.{◌≡◌, ◌==◌, ◌||◌, ℕ, Bool, true, false, if◌then◌else◌, List, length, nat_lt, Option, Some, None, refl}
use Rattle.std.specs.Option.{is_some}
use Rattle.token_text.specs.Words.{FitsIf}
use Rattle.history_text.specs.Text.{IsThere}
use Rattle.mpi_base.specs.declared.keys.Key.{Key}
use Rattle.mpi_base.specs.declared.messages.Msg.{Msg}
use Rattle.mpi_base.specs.declared.ops.Op.{Op}
use Rattle.mpi_base.specs.declared.replies.Reply.TheVariants as reply
use Rattle.mpi_base.specs.declared.errors.ErrClass.TheVariants as class
use Rattle.mpi_law.specs.Local.{effect_of}
use Rattle.mpi_law.specs.Local.Objects.{Local}
use Rattle.mpi_law.specs.Local.Effects.{local_after}
use Rattle.mpi_law.specs.Local.Messages.{from_nobody}
use Rattle.mpi_law.specs.declared.effects.Effect.{Effect}
use Rattle.mpi_law.specs.declared.effects.Effect.TheVariants.{Says, Opens, Groups, Ungroups, Joins, Frees, Ends, Sends, Receives, Posts, NullPosts, Completes, Awaits}
use Rattle.agree_law.specs.declared.rows.Outcome.{Outcome}
use Rattle.agree_law.specs.declared.rows.Outcome.TheVariants as outcome
use Rattle.agree_law.specs.Part.{stage_of}
use Rattle.agree_law.specs.Packets as agree
use Rattle.mpi_protocol.specs.declared.rows.Waits.{Waits}
use Rattle.mpi_protocol.specs.declared.rows.Waits.TheVariants.{Nothing, Creation, Uncoloured, Freeing, Ending, Receiving, Awaiting}
use Rattle.mpi_protocol.specs.declared.rows.ReceiveRow.{ReceiveRow}
use Rattle.mpi_protocol.specs.Packets.{Packet, Agreeing, Message, Marker}
use Rattle.mpi_protocol.specs.Rank.{Rank, receive_of, taken_of, has_taken}
use Rattle.mpi_protocol.specs.Moves.{Move}
use Rattle.mpi_protocol.specs.Calls.{around_here, sends_to, sent, carried_out, calls}
use Rattle.mpi_protocol.specs.Answers.{outcome_of, is_done, is_answerable, answers, answers_creation, received_reply, answers_taken, answers_row, answers_receive, answered}
use Rattle.mpi_protocol.specs.Delivers.{takes_packet, agrees, taken_if, delivers}
use Rattle.entry_law.proofs.Replies.{ReplyWhole, EffectWhole, effect_whole}

-- a call says nothing and drops nothing, and may reply
pub record SaysCall (m : Move) : Type 0 where
  pub said : m.said ≡ None
  pub dropped : m.dropped ≡ None
  pub reply : FitsIf ReplyWhole m.reply

-- an answer replies, and that is all
pub record SaysAnswer (m : Move) : Type 0 where
  pub said : m.said ≡ None
  pub matched : m.matched ≡ None
  pub dropped : m.dropped ≡ None
  pub reply : IsThere ReplyWhole m.reply

-- a delivery may bring a match
pub record SaysMatch (m : Move) : Type 0 where
  pub said : m.said ≡ None
  pub dropped : m.dropped ≡ None
  pub reply : m.reply ≡ None

-- Calls

sends_say : (x : Rank) (m : Msg) (to : ℕ) → SaysCall (sent (sends_to x m to))
sends_say x m to = record { said = refl; dropped = refl; reply = tt }

carried_says : (x : Rank) (t : ℕ) (l : Local) (e : Effect ℕ) → EffectWhole e → SaysCall (carried_out x t l e)
carried_says x t l (Says said) h = record { said = refl; dropped = refl; reply = h }
carried_says x t l (Opens target) h = record { said = refl; dropped = refl; reply = tt }
carried_says x t l (Groups target members session) h = record { said = refl; dropped = refl; reply = tt }
carried_says x t l (Ungroups name) h = record { said = refl; dropped = refl; reply = tt }
carried_says x t l (Joins a) h = record { said = refl; dropped = refl; reply = tt }
carried_says x t l (Frees name c) h = record { said = refl; dropped = refl; reply = tt }
carried_says x t l (Ends name s) h = record { said = refl; dropped = refl; reply = tt }
carried_says x t l (Sends m) h = sends_say _ _ _
carried_says x t l (Receives a) h = record { said = refl; dropped = refl; reply = tt }
carried_says x t l (Posts target a) h = record { said = refl; dropped = refl; reply = tt }
carried_says x t l (NullPosts target) h = record { said = refl; dropped = refl; reply = tt }
carried_says x t l (Completes name n) h = record { said = refl; dropped = refl; reply = tt }
carried_says x t l (Awaits name) h = record { said = refl; dropped = refl; reply = tt }

pub call_says : (x : Rank) (t : ℕ) (op : Op) → SaysCall (calls x t op)
unfolding calls
call_says x t op =
    let e = effect_of x.setting x.rank (around_here x) x.local op in
    carried_says x t (local_after x.posts x.local e) e (effect_whole x.setting x.rank (around_here x) x.local op)

-- Answers

module _ (x : Rank) (t : ℕ) where
  creation_says : (key : Key) (target : List ℕ) (session : ℕ) (o : Option Outcome) → is_done o ≡ true → SaysAnswer (answers_creation x t key target session o)
  creation_says key target session None e = absurd (cc (e))
  creation_says key target session (Some (outcome.Context c)) e = record { said = refl; matched = refl; dropped = refl; reply = tt }
  creation_says key target session (Some outcome.Exhausted) e = record { said = refl; matched = refl; dropped = refl; reply = tt }

  reply_whole : (room : ℕ) (m : Msg) → ReplyWhole (received_reply room m)
  reply_whole room m = go (nat_lt room (length m.payload))
    where
      go : (b : Bool) → ReplyWhole (if b then reply.Refused class.Truncate else reply.Received (Some m.source) (Some m.tag) m.payload)
      go true = tt
      go false = tt

  taken_says : (n room : ℕ) (o : Option Msg) → is_some o ≡ true → SaysAnswer (answers_taken x t n room o)
  taken_says n room None e = absurd (cc (e))
  taken_says n room (Some m) e = record { said = refl; matched = refl; dropped = refl; reply = reply_whole room m }

  row_says : (n : ℕ) (o : Option ReceiveRow) → is_some (taken_of o) ≡ true → SaysAnswer (answers_row x t n o)
  row_says n None e = absurd (cc (e))
  row_says n (Some w) e = taken_says n w.room w.taken e

  receive_says : (n : ℕ) → ((n == 0) || has_taken x.receives n) ≡ true → SaysAnswer (answers_receive x t n)
  receive_says n e = go (n == 0) e
    where
      go : (b : Bool) → (b || has_taken x.receives n) ≡ true → SaysAnswer (if b then answers x t from_nobody else answers_row x t n (receive_of x.receives n))
      go true u = record { said = refl; matched = refl; dropped = refl; reply = refl }
      go false u = row_says n (receive_of x.receives n) u

  pub answer_says : (waits : Waits) → is_answerable x waits ≡ true → SaysAnswer (answered x t waits)
  answer_says Nothing e = absurd (cc (e))
  answer_says (Creation key target session) e = creation_says key target session (outcome_of (stage_of x.agree.opened key)) e
  answer_says (Uncoloured key target session) e = record { said = refl; matched = refl; dropped = refl; reply = tt }
  answer_says (Freeing serial) e = record { said = refl; matched = refl; dropped = refl; reply = tt }
  answer_says (Ending session) e = record { said = refl; matched = refl; dropped = refl; reply = tt }
  answer_says (Receiving n) e = receive_says n e
  answer_says (Awaiting name) e = record { said = refl; matched = refl; dropped = refl; reply = tt }

-- Deliveries

agrees_says : (x : Rank) (p : agree.Packet) (m : agree.Moved) → SaysMatch (agrees x p m)
agrees_says x (agree.Up key i own mask) m = record { said = refl; dropped = refl; reply = refl }
agrees_says x (agree.Down key i v) m = record { said = refl; dropped = refl; reply = refl }
agrees_says x (agree.Share key s) m = record { said = refl; dropped = refl; reply = refl }
agrees_says x (agree.Shares key list) m = record { said = refl; dropped = refl; reply = refl }

taken_if_says : (x : Rank) (from : ℕ) (p : Packet) (b : Bool) → SaysMatch (taken_if b x from p)
taken_if_says x from p false = record { said = refl; dropped = refl; reply = refl }
taken_if_says x from (Agreeing p) true = agrees_says x p _
taken_if_says x from (Message m) true = record { said = refl; dropped = refl; reply = refl }
taken_if_says x from (Marker c) true = record { said = refl; dropped = refl; reply = refl }

pub deliver_says : (x : Rank) (from : ℕ) (p : Option Packet) → SaysMatch (delivers x from p)
unfolding delivers
deliver_says x from None = record { said = refl; dropped = refl; reply = refl }
deliver_says x from (Some p) = taken_if_says x from p (takes_packet x from p)
