-- The answer of a receive: the registry owes what the rank tells, and the rank's row of the receive goes.
use Rattle.std.proofs.Common.{◌≡◌, ◌<◌, ◌==◌, ℕ, Bool, true, false, [], ◌∷◌, ◌++◌, length, Option, Some, None, unwrap_or, refl, sym, ap, ◌∙◌, if◌then◌else◌}
use Rattle.std.specs.Option.{option_map, is_some}
use Rattle.std.proofs.lemmas.List.{append-nil}
use Rattle.mpi_base.specs.declared.messages.Msg.{Msg}
use Rattle.mpi_base.specs.declared.replies.Reply.{Reply}
use Rattle.mpi_base.specs.declared.entries.Act.TheVariants.{Answer}
use Rattle.mpi_base.specs.declared.entries.Choice.{Choice}
use Rattle.mpi_law.specs.declared.setting.Setting.{Setting}
use Rattle.mpi_law.specs.Local.Messages.{from_nobody}
use Rattle.mpi_law.specs.Registry.State as state
use Rattle.mpi_law.specs.Registry.State.{Registry, Message, Receive, thread_of}
use Rattle.mpi_law.specs.Registry.Messages.{receive_of}
use Rattle.mpi_law.specs.Registry.Replies.{owed, owed_receive, received as received_in}
use Rattle.mpi_law.specs.Registry.Events.{Replies}
use Rattle.mpi_protocol.specs.declared.rows.ReceiveRow.{ReceiveRow}
use Rattle.mpi_protocol.specs.declared.rows.Waits.TheVariants.{Receiving}
use Rattle.mpi_protocol.specs.Rank.{Rank, thread_at, has_taken, taken_of, without_receive, receive_of as row_of}
use Rattle.mpi_protocol.specs.Moves.{Move}
use Rattle.mpi_protocol.specs.Answers.{is_answerable, answers, received_reply}
use Rattle.mpi_protocol.specs.Step.{step}
use Rattle.mpi_protocol.specs.Run.{entry_events, reply_events}
use Rattle.mpi_protocol.specs.World.{World, rank_at, link, after, move_of, moved, entry_at}
use Rattle.message_law.proofs.Frames.{put, receives_same}
use Rattle.message_law.proofs.MarkerSteps.{proper, markers_same}
use Rattle.message_law.proofs.Lines.{IsWide, after-link}
use Rattle.message_law.proofs.Numbers.{Shaped}
use Rattle.message_law.proofs.Worlds.{posted_of, rows_of, posts_of, comms_of, Fits, Ground, after_fits, put_same}
use Rattle.message_law.proofs.Deliveries.{GoesOn, marks_self, boxes_of}
use Rattle.message_law.proofs.QuietRegistry.{replies_fit}
use Rattle.message_law.proofs.Quiets.{quiet_step_fits, answers_quietly, receives_without}
use Rattle.message_law.proofs.QuietActs.{allowed_goes}
use Rattle.message_law.proofs.Topics.{as_msg, RowFits}

-- a receive that has taken a message is told what the registry owes it
receive_is_owed : (g : Registry) (w : ReceiveRow) (x : Receive) (m : Msg) → RowFits g (Some w) (Some x) → w.taken ≡ Some m → owed_receive g (Some x) ≡ Some (received_reply w.room m)
receive_is_owed g w x m f t = go x.taken f.2
  where
    go : (o : Option Message) → w.taken ≡ option_map (as_msg g.comms) o → option_map (received_in g x.room) o ≡ Some (received_reply w.room m)
    go None e = absurd (cc (t, e))
    go (Some z) e =
        let is : m ≡ as_msg g.comms z = ap (λ (o : Option Msg). unwrap_or o m) (sym t ∙ e) in
        let room = f.1 in
        rw (is, room) refl

pub receive_answer_fits : (w : World) (g : Registry) (r t k : ℕ) (said : Reply) → IsWide w → r < length w.ranks → has_taken (rank_at w r).receives k ≡ true → Fits w g
    → Fits (after w (record { rank = r; act = Answer t }) (answers (record (rank_at w r) { receives = without_receive (rank_at w r).receives k }) t said)) g
receive_answer_fits w g r t k said wide lr taken h =
    let b = boxes_of w g r lr h in
    after_fits w (record { rank = r; act = Answer t }) (answers (record (rank_at w r) { receives = without_receive (rank_at w r).receives k }) t said) wide lr g (link w) (λ a z la lz. ap proper (lines a z la lz)) h.apart
    (record {
      messages = b.messages;
      receives = receives_same (length w.ranks) g (posted_of w) (put r (rank_at w r).box.posted (posted_of w)) (put r (without_receive (rows_of w r) k) (rows_of w)) (put r (without_receive (rank_at w r).receives k) (rows_of w)) (posts_of w) (put r (rank_at w r).posts (posts_of w))
          (λ z lz. put_same r (rank_at w r).box.posted (posted_of w) z refl) (λ z i lz. refl) (λ z lz. put_same r (rank_at w r).posts (posts_of w) z refl)
          (receives_without (length w.ranks) g (posted_of w) (rows_of w) (posts_of w) r k lr taken h.receives);
      markers = markers_same (length w.ranks) g (comms_of w) (put r (rank_at w r).comms (comms_of w)) (link w) (link w) (λ z. marks_self r (rank_at w r).comms (comms_of w) z refl) (λ a z la lz. refl) h.markers;
      own = h.own;
      apart = b.apart;
    })
  where
    lines : (a b : ℕ) → a < length w.ranks → b < length w.ranks → link (after w (record { rank = r; act = Answer t }) (answers (record (rank_at w r) { receives = without_receive (rank_at w r).receives k }) t said)) a b ≡ link w a b
    lines a b la lb = after-link w (record { rank = r; act = Answer t }) (answers (record (rank_at w r) { receives = without_receive (rank_at w r).receives k }) t said) wide lr a b tt la lb ∙ by (a == r)
      where
        by : (i : Bool) → (if i then link w a b ++ [] else link w a b) ≡ link w a b
        by true = append-nil (link w a b)
        by false = refl

-- The answer of a thread that waits for a receive, here and in the registry

module _ (s : Setting) (w : World) (g : Registry) (shaped : Shaped w) (ground : Ground w g) (h : Fits w g) (r : ℕ) (lr : r < length w.ranks)
    (t k : ℕ) (here : (thread_at (rank_at w r) t).waits ≡ Receiving k) (there : (thread_of g r t).wait ≡ state.Receiving k) where
  abbrev x : Rank
  x = rank_at w r

  abbrev answering : Choice
  answering = record { rank = r; act = Answer t }

  answer_events : (y : Rank) (said : Reply) → move_of w answering ≡ answers y t said → entry_events (entry_at w answering) ≡ Replies r t said ∷ []
  unfolding entry_events
  answer_events y said e = ap (λ (m : Move). reply_events x.rank t m.reply) e ∙ ap (λ (q : ℕ). Replies q t said ∷ []) (shaped.named r lr)

  -- the move answers, and the registry owes the same reply
  goes : (y : Rank) (said : Reply) → move_of w answering ≡ answers y t said → owed g r t ≡ Some said → Fits (after w answering (answers y t said)) g → GoesOn s g (entry_events (entry_at w answering)) (moved w answering)
  goes y said is owes fits =
      let parts : r < length g.ranks = rw ground.parts lr in
      rw (answer_events y said is, is) (allowed_goes s g (Replies r t said ∷ []) (after w answering (answers y t said)) (owes, tt) (replies_fit s (after w answering (answers y t said)) g r t (Some said) parts fits))

  nobody_move : (k == 0) ≡ true → move_of w answering ≡ answers x t from_nobody
  unfolding step
  nobody_move e = rw (here, e) refl

  -- from the null process nothing is received
  nobody : (k == 0) ≡ true → GoesOn s g (entry_events (entry_at w answering)) (moved w answering)
  nobody e = goes x from_nobody (nobody_move e) (rw (there, e) refl) (quiet_step_fits w answering (answers x t from_nobody) g shaped.wide lr tt (answers_quietly x t x.local x.agree from_nobody) h)

  received_move : (k == 0) ≡ false → (row : ReceiveRow) → row_of x.receives k ≡ Some row → (m : Msg) → row.taken ≡ Some m → move_of w answering ≡ answers (record x { receives = without_receive x.receives k }) t (received_reply row.room m)
  unfolding step
  received_move e row found m took = rw (here, e, found, took) refl

  -- the message that the receive has taken
  received : (k == 0) ≡ false → (row : ReceiveRow) → row_of x.receives k ≡ Some row → (m : Msg) → row.taken ≡ Some m → GoesOn s g (entry_events (entry_at w answering)) (moved w answering)
  received e row found m took =
      goes (record x { receives = without_receive x.receives k }) (received_reply row.room m) (received_move e row found m took) owes
      (receive_answer_fits w g r t k (received_reply row.room m) shaped.wide lr (rw (found, took) refl) h)
    where
      by : (o : Option Receive) → RowFits g (Some row) o → owed_receive g o ≡ Some (received_reply row.room m)
      by None f = absurd f
      by (Some z) f = receive_is_owed g row z m f took

      owes : owed g r t ≡ Some (received_reply row.room m)
      owes = rw (there, e) (by (receive_of g r k) (rw found at (h.receives.taken r k lr)))

  -- whichever it is
  pub receive_answer_step : is_answerable x (Receiving k) ≡ true → GoesOn s g (entry_events (entry_at w answering)) (moved w answering)
  receive_answer_step may = go (k == 0) refl
    where
      by_taken : (k == 0) ≡ false → (row : ReceiveRow) → row_of x.receives k ≡ Some row → (o : Option Msg) → row.taken ≡ o → is_some o ≡ true → GoesOn s g (entry_events (entry_at w answering)) (moved w answering)
      by_taken e row found None f i = absurd (cc (i))
      by_taken e row found (Some m) f i = received e row found m f

      by_row : (k == 0) ≡ false → (o : Option ReceiveRow) → row_of x.receives k ≡ o → is_some (taken_of o) ≡ true → GoesOn s g (entry_events (entry_at w answering)) (moved w answering)
      by_row e None f i = absurd (cc (i))
      by_row e (Some row) f i = by_taken e row f row.taken refl i

      go : (b : Bool) → (k == 0) ≡ b → GoesOn s g (entry_events (entry_at w answering)) (moved w answering)
      go true e = nobody e
      go false e = by_row e (row_of x.receives k) refl (rw e at may)
