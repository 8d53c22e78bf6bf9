-- Deliveries of messages and markers, leaves and give-backs, as the world allows them.
use Rattle.std.proofs.Common.{◌≡◌, ◌≢◌, ◌<◌, ℕ, true, false, List, ◌∷◌, length, Option, Some, None, refl, subst, arith}
use Rattle.mpi_base.specs.declared.messages.Msg.{Msg}
use Rattle.mpi_base.specs.declared.entries.Act.TheVariants.{Deliver, Leave, Back}
use Rattle.mpi_law.specs.declared.setting.Setting.{Setting}
use Rattle.mpi_law.specs.Registry.State.{Registry}
use Rattle.match_law.specs.Box.{has_posted}
use Rattle.comm_law.specs.declared.rows.CommRow.{CommRow}
use Rattle.comm_law.specs.declared.rows.CommStage.{CommStage}
use Rattle.comm_law.specs.declared.rows.CommStage.TheVariants.{Live, Freed, Left}
use Rattle.comm_law.specs.Comms.{Comms, row_at, is_freed, is_left, is_freed_row, all_marked, all_marked_row}
use Rattle.mpi_protocol.specs.Packets as packet
use Rattle.mpi_protocol.specs.Packets.{Packet}
use Rattle.mpi_protocol.specs.Delivers.{is_context, takes_packet}
use Rattle.mpi_protocol.specs.Step.{may_leave, may_give_back}
use Rattle.mpi_protocol.specs.World.{World, rank_at, link, moved, entry_at}
use Rattle.mpi_protocol.specs.Run.{entry_events}
use Rattle.agree_law.proofs.Lists.{AllOf}
use Rattle.message_law.proofs.Numbers.{Shaped}
use Rattle.message_law.proofs.Worlds.{Fits, Ground}
use Rattle.message_law.proofs.Deliveries.{GoesOn, message_is_taken, message_goes_on, marker_is_taken, marker_goes_on}
use Rattle.message_law.proofs.Leavings.{leave_goes_on, back_goes_on}
use Rattle.message_law.proofs.Belongings.{MessageBelongs, coming_belongs}
use Rattle.message_law.proofs.Topics.{messages_on, MarkerFits, Belongs}

not_marked : (t : Comms) (r c : ℕ) → row_at t c ≡ None → all_marked t r c ≡ true → ⊥
unfolding all_marked
not_marked t r c e f = let z : all_marked_row t r None ≡ true = rw e at f in absurd (cc (z))

module _ (s : Setting) (w : World) (g : Registry) (shaped : Shaped w) (ground : Ground w g) (h : Fits w g) (r : ℕ) (lr : r < length w.ranks) where
  -- Deliveries

  module _ (from : ℕ) (lf : from < length w.ranks) (other : from ≢ r) (rest : List Packet) where
    context_of : (msg : Msg) → link w from r ≡ packet.Message msg ∷ rest → is_context (rank_at w r) msg.ctx ≡ true
    context_of msg head =
        let b = (subst (λ (ps : List Packet). AllOf (MessageBelongs g r) (messages_on ps)) head (coming_belongs w g h r lr from lf)).0 in
        subst (λ (c : ℕ). is_context (rank_at w r) c ≡ true) b.at.ctx (ground.contexts b.at.place r lr b.at.live)

    context_at : (c : ℕ) → link w from r ≡ packet.Marker c ∷ rest → is_context (rank_at w r) c ≡ true
    context_at c head =
        let b : Belongs g from r c = (subst (λ (ps : List Packet). AllOf (MarkerFits g from r) ps) head (h.markers.on_line from r lf lr)).0 in
        subst (λ (d : ℕ). is_context (rank_at w r) d ≡ true) b.ctx (ground.contexts b.place r lr (b.there, b.live))

    pub message_taken : (msg : Msg) → link w from r ≡ packet.Message msg ∷ rest → takes_packet (rank_at w r) from (packet.Message msg) ≡ true
    message_taken msg head = message_is_taken s w g from r shaped.wide lf lr other (shaped.named r lr) ground.standing.apart h msg rest head (context_of msg head)

    pub message_step : (msg : Msg) → link w from r ≡ packet.Message msg ∷ rest → GoesOn s g (entry_events (entry_at w (record { rank = r; act = Deliver from }))) (moved w (record { rank = r; act = Deliver from }))
    message_step msg head = message_goes_on s w g from r shaped.wide lf lr other (shaped.named r lr) ground.standing.apart h msg rest head (context_of msg head)

    pub marker_taken : (c : ℕ) → link w from r ≡ packet.Marker c ∷ rest → takes_packet (rank_at w r) from (packet.Marker c) ≡ true
    marker_taken c head = marker_is_taken s w g from r shaped.wide lf lr other (shaped.named r lr) ground.standing.apart h c rest head (context_at c head)

    pub marker_step : (c : ℕ) → link w from r ≡ packet.Marker c ∷ rest → GoesOn s g (entry_events (entry_at w (record { rank = r; act = Deliver from }))) (moved w (record { rank = r; act = Deliver from }))
    marker_step c head = marker_goes_on s w g from r shaped.wide lf lr other (shaped.named r lr) ground.standing.apart h c rest head (context_at c head)

  -- Leaves

  freed_stays : (k : CommStage) → is_freed k ≡ true → is_left k ≡ false
  freed_stays Live e = absurd (cc (e))
  freed_stays Freed e = refl
  freed_stays Left e = absurd (cc (e))

  pub leave_step : (c : ℕ) → may_leave (rank_at w r) c ≡ true → GoesOn s g (entry_events (entry_at w (record { rank = r; act = Leave c }))) (moved w (record { rank = r; act = Leave c }))
  leave_step c may = go (row_at (rank_at w r).comms c) refl (grind (arith, may))
    where
      go : (o : Option CommRow) → row_at (rank_at w r).comms c ≡ o → is_freed_row (row_at (rank_at w r).comms c) ≡ true → GoesOn s g (entry_events (entry_at w (record { rank = r; act = Leave c }))) (moved w (record { rank = r; act = Leave c }))
      go None e f = absurd (let z : is_freed_row None ≡ true = rw e at f in cc (z))
      go (Some m) e f =
          let z : is_freed_row (Some m) ≡ true = rw e at f in
          let at = ground.standing.rows r c m lr e in
          subst (λ (d : ℕ). GoesOn s g (entry_events (entry_at w (record { rank = r; act = Leave d }))) (moved w (record { rank = r; act = Leave d }))) at.2
          (leave_goes_on s w g r shaped.wide lr (shaped.named r lr) ground.standing h at.0 at.1 m (rw at.2 e) at.3 (freed_stays m.stage z))

  -- Give-backs

  pub back_step : (c : ℕ) → may_give_back (rank_at w r) c ≡ true → GoesOn s g (entry_events (entry_at w (record { rank = r; act = Back c }))) (moved w (record { rank = r; act = Back c }))
  back_step c may = go (row_at (rank_at w r).comms c) refl (grind (arith, may)) (grind (arith, may))
    where
      go : (o : Option CommRow) → row_at (rank_at w r).comms c ≡ o → all_marked (rank_at w r).comms (rank_at w r).rank c ≡ true → has_posted (rank_at w r).box c ≡ false → GoesOn s g (entry_events (entry_at w (record { rank = r; act = Back c }))) (moved w (record { rank = r; act = Back c }))
      go None e f k = absurd (not_marked (rank_at w r).comms r c e (let n = shaped.named r lr in rw n at f))
      go (Some m) e f k =
          let marked : all_marked (rank_at w r).comms r c ≡ true = let n = shaped.named r lr in rw n at f in
          let at = ground.standing.rows r c m lr e in
          subst (λ (d : ℕ). GoesOn s g (entry_events (entry_at w (record { rank = r; act = Back d }))) (moved w (record { rank = r; act = Back d }))) at.2
          (back_goes_on s w g r shaped.wide lr (shaped.named r lr) ground.standing h at.0 at.1 m (rw at.2 e) at.3 ground.between (rw at.2 marked) (rw at.2 k))
