-- A delivery of a message or a marker: the topics go on with the registry.
use Rattle.std.proofs.Common.{◌≡◌, ◌≢◌, ◌<◌, ◌==◌, ◌&&◌, ℕ, Bool, true, false, List, [], ◌∷◌, ◌++◌, length, drop, Option, Some, None, refl, sym, ap, ◌∙◌, subst, arith, if◌then◌else◌}
use Rattle.std.proofs.lemmas.Bool.Decides.{nat_tests}
use Rattle.std.proofs.lemmas.List.{append-nil}
use Rattle.mpi_base.specs.declared.messages.Msg.{Msg}
use Rattle.mpi_base.specs.declared.entries.Act.TheVariants.{Deliver}
use Rattle.mpi_base.specs.declared.entries.Choice.{Choice}
use Rattle.mpi_law.specs.declared.setting.Setting.{Setting}
use Rattle.mpi_law.specs.Registry.State.{Registry}
use Rattle.mpi_law.specs.Registry.Apart.{LiveApart}
use Rattle.mpi_law.specs.Registry.Events.{Event}
use Rattle.mpi_law.specs.Registry.Runs.{IsRegistryRun, registry_after}
use Rattle.match_law.specs.declared.rows.Posted.{Posted}
use Rattle.match_law.specs.Box.{Box, arrive}
use Rattle.comm_law.specs.Comms.{Comms, note_marker}
use Rattle.mpi_protocol.specs.Packets as packet
use Rattle.mpi_protocol.specs.Packets.{Packet}
use Rattle.mpi_protocol.specs.declared.rows.ReceiveRow.{ReceiveRow}
use Rattle.mpi_protocol.specs.Rank.{Rank, receive_of as row_of}
use Rattle.mpi_protocol.specs.Moves.{Move, moves, arrives, arrives_to}
use Rattle.mpi_protocol.specs.Delivers.{delivers, is_context, takes_packet, came}
use Rattle.mpi_protocol.specs.Step.{step}
use Rattle.mpi_protocol.specs.World.{World, rank_at, link, after, move_of, moved, entry_at}
use Rattle.mpi_protocol.specs.Run.{entry_events, match_events}
use Rattle.message_law.proofs.Frames.{put, put_pair, messages_same, receives_same}
use Rattle.message_law.proofs.Arrivals.{from_is}
use Rattle.message_law.proofs.MarkerSteps.{proper, SameMarks, markers_same, markers_steady, message_comes_off, marker_is_new, marker_is_noted}
use Rattle.message_law.proofs.Lines.{IsWide, after-link}
use Rattle.message_law.proofs.Worlds.{kept_of, posted_of, rows_of, sends_of, posts_of, comms_of, Fits, FitsAt, after_fits, same_marks, put_same}
use Rattle.message_law.proofs.Boxes.{Boxes, arrival_goes_on}
use Rattle.message_law.proofs.Topics.{messages_on, NoneOwn, Messages, Markers}

-- the registry goes on by events, and fits a world
pub record GoesOn (s : Setting) (g : Registry) (es : List Event) (w : World) : Type 0 where
  pub allowed : (rest : List Event) → IsRegistryRun s (registry_after s g es) rest → IsRegistryRun s g (es ++ rest)
  pub fits : Fits w (registry_after s g es)

pub arrives_comms : (x : Rank) (m : Msg) → (arrives x m).0.comms ≡ x.comms
arrives_comms x m = go (arrive x.box m).0 (arrive x.box m).1
  where
    go : (b : Box) (o : Option Posted) → (arrives_to x m b o).0.comms ≡ x.comms
    go b None = refl
    go b (Some p) = refl

pub marks_self : (r : ℕ) (t : Comms) (f : ℕ → Comms) (s : ℕ) → t ≡ f r → SameMarks (f s) (put r t f s)
marks_self r t f s e = subst (λ (z : Comms). SameMarks (f s) z) (sym (put_same r t f s e)) (same_marks (f s))

-- a world as boxes of one of its ranks
pub boxes_of : (w : World) (g : Registry) (r : ℕ) → r < length w.ranks → Fits w g → Boxes w g r (rank_at w r) (link w)
boxes_of w g r lr h = record {
  messages = messages_same (length w.ranks) g (kept_of w) (put r (rank_at w r).box.kept (kept_of w)) (sends_of w) (put r (rank_at w r).sends (sends_of w)) (link w) (link w) (λ s ls. put_same r (rank_at w r).box.kept (kept_of w) s refl) (λ s ls. put_same r (rank_at w r).sends (sends_of w) s refl) (λ a b la lb. refl) h.messages;
  receives = receives_same (length w.ranks) g (posted_of w) (put r (rank_at w r).box.posted (posted_of w)) (rows_of w) (put r (rank_at w r).receives (rows_of w)) (posts_of w) (put r (rank_at w r).posts (posts_of w))
      (λ s ls. put_same r (rank_at w r).box.posted (posted_of w) s refl) (λ s k ls. ap (λ (ws : List ReceiveRow). row_of ws k) (put_same r (rank_at w r).receives (rows_of w) s refl)) (λ s ls. put_same r (rank_at w r).posts (posts_of w) s refl) h.receives;
  apart = h.apart r lr;
}

module _ (s : Setting) (w : World) (g : Registry) (from r : ℕ) (wide : IsWide w) (lf : from < length w.ranks) (lr : r < length w.ranks) (other : from ≢ r) (named : (rank_at w r).rank ≡ r) (apart : LiveApart g) (h : Fits w g) where
  abbrev choice : Choice
  choice = record { rank = r; act = Deliver from }

  own_after : (rest : List Packet) → NoneOwn (length w.ranks) (put_pair from r rest (link w))
  own_after rest b lb = go (b == from) refl (b == r) refl
    where
      go : (t : Bool) → (b == from) ≡ t → (u : Bool) → (b == r) ≡ u → messages_on (if t && u then rest else link w b b) ≡ []
      go true t true u = absurd (other (grind (arith, nat_tests, t, u)))
      go true t false u = h.own b lb
      go false t u k = h.own b lb

  lines_after : (m : Move) (p : Packet) (rest : List Packet) → m.sent ≡ [] → link w from r ≡ p ∷ rest → (a b : ℕ) → a < length w.ranks → b < length w.ranks → proper (link (after w choice m) a b) ≡ proper (put_pair from r rest (link w) a b)
  lines_after m p rest none head a b la lb =
      let t = after-link w choice m wide lr a b lf la lb in
      let d : drop 1 (link w from r) ≡ rest = rw head refl in
      let e : link (after w choice m) a b ≡ put_pair from r rest (link w) a b = t ∙ rw (none, d) (by (a == r)) in
      ap proper e
    where
      by : (u : Bool) → (if u then put_pair from r rest (link w) a b ++ [] else put_pair from r rest (link w) a b) ≡ put_pair from r rest (link w) a b
      by true = append-nil (put_pair from r rest (link w) a b)
      by false = refl

  -- A message

  module _ (msg : Msg) (rest : List Packet) (head : link w from r ≡ packet.Message msg ∷ rest) (context : is_context (rank_at w r) msg.ctx ≡ true) where
    -- it is taken
    pub message_is_taken : takes_packet (rank_at w r) from (packet.Message msg) ≡ true
    unfolding takes_packet
    message_is_taken = let e = from_is (length w.ranks) g (kept_of w) (sends_of w) (link w) h.messages from r lf lr msg rest head in grind (arith, nat_tests, e, context)

    move_is : move_of w choice ≡ came (arrives (rank_at w r) msg)
    unfolding step delivers
    move_is = rw (head, message_is_taken) refl

    events_are : entry_events (entry_at w choice) ≡ match_events r (arrives (rank_at w r) msg).1
    unfolding entry_events
    events_are = ap (λ (m : Move). match_events (rank_at w r).rank m.matched) move_is ∙ ap (λ (k : ℕ). match_events k (arrives (rank_at w r) msg).1) named

    pub message_goes_on : GoesOn s g (entry_events (entry_at w choice)) (moved w choice)
    message_goes_on =
        let b = arrival_goes_on s w g r lr (rank_at w r) (link w) apart (boxes_of w g r lr h) from lf msg rest head in
        let marks : Markers (length w.ranks) (registry_after s g (match_events r (arrives (rank_at w r) msg).1)) (put r (arrives (rank_at w r) msg).0.comms (comms_of w)) (put_pair from r rest (link w))
        = markers_steady (length w.ranks) g (registry_after s g (match_events r (arrives (rank_at w r) msg).1)) (put r (arrives (rank_at w r) msg).0.comms (comms_of w)) (put_pair from r rest (link w)) b.steady
        (markers_same (length w.ranks) g (comms_of w) (put r (arrives (rank_at w r) msg).0.comms (comms_of w)) (put_pair from r rest (link w)) (put_pair from r rest (link w)) (λ z. marks_self r (arrives (rank_at w r) msg).0.comms (comms_of w) z (arrives_comms (rank_at w r) msg)) (λ a z la lz. refl)
        (message_comes_off (length w.ranks) g (comms_of w) (link w) from r msg rest head h.markers)) in
        let there : FitsAt w (registry_after s g (match_events r (arrives (rank_at w r) msg).1)) r (came (arrives (rank_at w r) msg)).state (put_pair from r rest (link w)) = record { messages = b.boxes.messages; receives = b.boxes.receives; markers = marks; own = own_after rest; apart = b.boxes.apart } in
        rw (events_are, move_is) (record {
          allowed = b.allowed;
          fits = after_fits w choice (came (arrives (rank_at w r) msg)) wide lr (registry_after s g (match_events r (arrives (rank_at w r) msg).1)) (put_pair from r rest (link w)) (lines_after (came (arrives (rank_at w r) msg)) (packet.Message msg) rest refl head) h.apart there;
        })

  -- A marker

  module _ (c : ℕ) (rest : List Packet) (head : link w from r ≡ packet.Marker c ∷ rest) (context : is_context (rank_at w r) c ≡ true) where
    pub marker_is_taken : takes_packet (rank_at w r) from (packet.Marker c) ≡ true
    unfolding takes_packet
    marker_is_taken = let e = marker_is_new (length w.ranks) g (comms_of w) (link w) h.markers from r c lf lr rest head in grind (arith, e, context)

    abbrev noting : Move
    noting = moves (record (rank_at w r) { comms = note_marker (rank_at w r).comms c from }) []

    noted_move : move_of w choice ≡ noting
    unfolding step delivers
    noted_move = rw (head, marker_is_taken) refl

    no_events : entry_events (entry_at w choice) ≡ []
    unfolding entry_events
    no_events = ap (λ (m : Move). match_events (rank_at w r).rank m.matched) noted_move

    pub marker_goes_on : GoesOn s g (entry_events (entry_at w choice)) (moved w choice)
    marker_goes_on =
        let b = boxes_of w g r lr h in
        let ms : Messages (length w.ranks) g (put r (rank_at w r).box.kept (kept_of w)) (put r (rank_at w r).sends (sends_of w)) (put_pair from r rest (link w))
        = messages_same (length w.ranks) g (put r (rank_at w r).box.kept (kept_of w)) (put r (rank_at w r).box.kept (kept_of w)) (put r (rank_at w r).sends (sends_of w)) (put r (rank_at w r).sends (sends_of w)) (link w) (put_pair from r rest (link w)) (λ z lz. refl) (λ z lz. refl) (λ a z la lz. on a z (a == from) refl (z == r) refl) b.messages in
        let there : FitsAt w g r noting.state (put_pair from r rest (link w)) = record { messages = ms; receives = b.receives; markers = marker_is_noted (length w.ranks) g (comms_of w) (link w) h.markers from r c lf lr rest head; own = own_after rest; apart = b.apart } in
        rw (no_events, noted_move) (record {
          allowed = λ more run. run;
          fits = after_fits w choice noting wide lr g (put_pair from r rest (link w)) (lines_after noting (packet.Marker c) rest refl head) h.apart there;
        })
      where
        on : (a z : ℕ) → (t : Bool) → (a == from) ≡ t → (u : Bool) → (z == r) ≡ u → messages_on (if t && u then rest else link w a z) ≡ messages_on (link w a z)
        on a z true t true u =
            let is_a : a ≡ from = grind (arith, nat_tests, t) in
            let is_z : z ≡ r = grind (arith, nat_tests, u) in
            rw (is_a, is_z, head) refl
        on a z true t false u = refl
        on a z false t u k = refl
