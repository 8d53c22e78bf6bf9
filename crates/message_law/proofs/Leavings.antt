-- A leave and a give-back: the topics go on with the registry.
use Rattle.std.proofs.Common.{◌≡◌, ◌<◌, ◌==◌, ◌&&◌, not, ℕ, zero, suc, Bool, true, false, List, [], ◌∷◌, ◌++◌, filter, length, get_or, position, Some, None, refl, sym, ap, ◌∙◌, arith, if◌then◌else◌}
use Rattle.std.specs.List.{list_any, list_all}
use Rattle.std.proofs.lemmas.Bool.Decides.{nat_tests}
use Rattle.std.proofs.lemmas.List.{append-nil}
use Rattle.mpi_base.specs.MemberLists.{has_rank}
use Rattle.mpi_base.specs.declared.entries.Act.TheVariants.{Leave, Back}
use Rattle.mpi_base.specs.declared.entries.Choice.{Choice}
use Rattle.mpi_law.specs.declared.setting.Setting.{Setting}
use Rattle.mpi_law.specs.Registry.State.{Registry, blank_comm, comm_at, is_between_calls}
use Rattle.mpi_law.specs.Registry.Creations.{has_open_under}
use Rattle.mpi_law.specs.Registry.Contexts.{is_live_at, comm_of}
use Rattle.mpi_law.specs.Registry.Apart.{LiveApart}
use Rattle.mpi_law.specs.Registry.Events.{Backs, registry_next}
use Rattle.mpi_law.specs.Registry.Runs.{MayBack, registry_after}
use Rattle.match_law.specs.Box.{has_posted, kept_on, drop_ctx}
use Rattle.comm_law.specs.declared.rows.CommRow.{CommRow}
use Rattle.comm_law.specs.Comms.{row_at, is_left, all_marked}
use Rattle.comm_law.specs.Comms as comm
use Rattle.mpi_protocol.specs.Packets as packet
use Rattle.mpi_protocol.specs.Packets.{Packet}
use Rattle.mpi_protocol.specs.declared.rows.ReceiveRow.{ReceiveRow}
use Rattle.mpi_protocol.specs.Rank.{receive_of as row_of}
use Rattle.mpi_protocol.specs.Moves.{Move, moves}
use Rattle.mpi_protocol.specs.Step.{step, leaves, gives_back, markers}
use Rattle.mpi_protocol.specs.World.{World, rank_at, link, after, move_of, moved, entry_at}
use Rattle.mpi_protocol.specs.Run.{entry_events}
use Rattle.agree_law.specs.Moves as agree_moves
use Rattle.message_law.proofs.BoxFacts.{drop_stays_apart}
use Rattle.message_law.proofs.Frames.{put, messages_same, receives_same}
use Rattle.message_law.proofs.MarkerSteps.{proper}
use Rattle.message_law.proofs.Leaves.{marker_lines, leave_keeps_markers}
use Rattle.message_law.proofs.GiveBacks.{back_in, back_keeps_markers, all_left}
use Rattle.message_law.proofs.Drops.{drops_as_many, back_drops_messages}
use Rattle.message_law.proofs.BackReceives.{none_waits, back_keeps_receives}
use Rattle.message_law.proofs.Sends.{messages_on-append}
use Rattle.message_law.proofs.Lines.{IsWide, to_of-markers, after-link}
use Rattle.message_law.proofs.Worlds.{kept_of, posted_of, rows_of, sends_of, posts_of, comms_of, Fits, FitsAt, after_fits, put_same}
use Rattle.message_law.proofs.Deliveries.{GoesOn, boxes_of}
use Rattle.message_law.proofs.Topics.{messages_on, OnLive, Messages, Standing}

-- the one place that passes a test
position_is : {A : Type 0} (t : A → Bool) (xs : List A) (d : A) (p : ℕ) → p < length xs → t (get_or xs p d) ≡ true → ((q : ℕ) → q < length xs → t (get_or xs q d) ≡ true → q ≡ p) → position t xs ≡ Some p
position_is t [] d p l e f = absurd (omega (arith, l))
position_is t (x ∷ xs) d zero l e f = grind (arith, nat_tests, e)
position_is t (x ∷ xs) d (suc p) l e f =
    let first = f 0 (omega arith) in
    let ih = position_is t xs d p (omega (arith, l)) e (λ q k z. let a = f (suc q) (omega (arith, k)) z in omega (arith, a)) in
    by (t x) refl first ih
  where
    by : (b : Bool) → t x ≡ b → (t x ≡ true → 0 ≡ suc p) → position t xs ≡ Some p → position t (x ∷ xs) ≡ Some (suc p)
    by true e first ih = absurd (let z = first e in omega (arith, z))
    by false e first ih = grind (arith, nat_tests, e, ih)

-- a context stands for the communicator that is live with it
pub comm_of_live : (g : Registry) (p r : ℕ) → LiveApart g → OnLive g p r → comm_of g.comms r (comm_at g p).ctx ≡ Some p
comm_of_live g p r apart on =
    position_is (λ m. (m.ctx == (comm_at g p).ctx) && is_live_at m r) g.comms blank_comm p on.0 (let l = on.1 in grind (arith, nat_tests, l))
    (λ q l e. apart q p r l on.0 (grind (arith, e)) on.1 (grind (arith, nat_tests, e)))

all_from_each : (t : ℕ → Bool) (ms : List ℕ) → ((q : ℕ) → has_rank ms q ≡ true → t q ≡ true) → list_all t ms ≡ true
all_from_each t [] f = refl
all_from_each t (m ∷ ms) f = let a = f m (grind (arith, nat_tests)) in let ih = all_from_each t ms (λ q e. f q (grind (arith, e))) in grind (arith, a, ih)

none_from_each : (t : ℕ → Bool) (ms : List ℕ) → ((q : ℕ) → has_rank ms q ≡ true → t q ≡ false) → list_any t ms ≡ false
none_from_each t [] f = refl
none_from_each t (m ∷ ms) f = let a = f m (grind (arith, nat_tests)) in let ih = none_from_each t ms (λ q e. f q (grind (arith, e))) in grind (arith, a, ih)

module _ (s : Setting) (w : World) (g : Registry) (r : ℕ) (wide : IsWide w) (lr : r < length w.ranks) (named : (rank_at w r).rank ≡ r) (standing : Standing (length w.ranks) g (comms_of w)) (h : Fits w g)
    (p : ℕ) (live : OnLive g p r) (m : CommRow) (row : row_at (rank_at w r).comms (comm_at g p).ctx ≡ Some m) (members : m.members ≡ (comm_at g p).members) where
  -- A leave

  module _ (stays : is_left m.stage ≡ false) where
    abbrev leaving : Choice
    leaving = record { rank = r; act = Leave (comm_at g p).ctx }

    abbrev left_move : Move
    left_move = moves (record (rank_at w r) { comms = comm.leave (rank_at w r).comms (comm_at g p).ctx }) (markers r (comm_at g p).ctx (comm_at g p).members)

    left_move_is : move_of w leaving ≡ left_move
    unfolding step leaves
    left_move_is = rw (row, members, named) refl

    abbrev left_line : ℕ → ℕ → List Packet
    left_line = marker_lines r (comm_at g p).ctx (comm_at g p).members (link w)

    lines_are : (a b : ℕ) → a < length w.ranks → b < length w.ranks → link (after w leaving left_move) a b ≡ left_line a b
    lines_are a b la lb =
        after-link w leaving left_move wide lr a b tt la lb
        ∙ rw (to_of-markers r (comm_at g p).ctx b (comm_at g p).members (standing.distinct p)) (by (a == r) (has_rank (comm_at g p).members b && not (b == r)))
      where
        by : (t u : Bool) → (if t then link w a b ++ (if u then packet.Marker (comm_at g p).ctx ∷ [] else []) else link w a b) ≡ (if t && u then link w a b ++ packet.Marker (comm_at g p).ctx ∷ [] else link w a b)
        by true true = refl
        by true false = append-nil (link w a b)
        by false u = refl

    on_same : (a b : ℕ) → messages_on (left_line a b) ≡ messages_on (link w a b)
    on_same a b = by ((a == r) && (has_rank (comm_at g p).members b && not (b == r)))
      where
        by : (t : Bool) → messages_on (if t then link w a b ++ packet.Marker (comm_at g p).ctx ∷ [] else link w a b) ≡ messages_on (link w a b)
        by true = messages_on-append (link w a b) (packet.Marker (comm_at g p).ctx ∷ []) ∙ append-nil (messages_on (link w a b))
        by false = refl

    left_events : entry_events (entry_at w leaving) ≡ []
    unfolding entry_events
    left_events = refl

    pub leave_goes_on : GoesOn s g (entry_events (entry_at w leaving)) (moved w leaving)
    leave_goes_on =
        let b = boxes_of w g r lr h in
        let ms : Messages (length w.ranks) g (put r (rank_at w r).box.kept (kept_of w)) (put r (rank_at w r).sends (sends_of w)) left_line
        = messages_same (length w.ranks) g (put r (rank_at w r).box.kept (kept_of w)) (put r (rank_at w r).box.kept (kept_of w)) (put r (rank_at w r).sends (sends_of w)) (put r (rank_at w r).sends (sends_of w)) (link w) left_line (λ z lz. refl) (λ z lz. refl) (λ a z la lz. on_same a z) b.messages in
        let there : FitsAt w g r left_move.state left_line = record {
          messages = ms;
          receives = b.receives;
          markers = leave_keeps_markers (length w.ranks) g (comms_of w) (link w) h.markers standing p r lr live m row stays;
          own = λ z lz. on_same z z ∙ h.own z lz;
          apart = b.apart;
        } in
        rw (left_events, left_move_is) (record {
          allowed = λ more run. run;
          fits = after_fits w leaving left_move wide lr g left_line (λ a z la lz. ap proper (lines_are a z la lz)) h.apart there;
        })

  -- A give-back

  module _ (between : is_between_calls g ≡ true) (marked : all_marked (rank_at w r).comms r (comm_at g p).ctx ≡ true) (none : has_posted (rank_at w r).box (comm_at g p).ctx ≡ false) where
    abbrev giving : Choice
    giving = record { rank = r; act = Back (comm_at g p).ctx }

    back_events_are : entry_events (entry_at w giving) ≡ Backs r (comm_at g p).ctx (kept_on (rank_at w r).box (comm_at g p).ctx) ∷ []
    unfolding entry_events step gives_back
    back_events_are = ap (λ (k : ℕ). Backs k (comm_at g p).ctx (kept_on (rank_at w r).box (comm_at g p).ctx) ∷ []) named

    abbrev back_move : Move
    back_move = record {
      state = record (rank_at w r) { agree = agree_moves.give_back (rank_at w r).agree (comm_at g p).ctx; comms = comm.remove (rank_at w r).comms (comm_at g p).ctx; box = drop_ctx (rank_at w r).box (comm_at g p).ctx };
      said = None;
      matched = None;
      dropped = Some (kept_on (rank_at w r).box (comm_at g p).ctx);
      reply = None;
      sent = [];
    }

    back_move_is : move_of w giving ≡ back_move
    unfolding step gives_back
    back_move_is = refl

    registry_is : registry_after s g (Backs r (comm_at g p).ctx (kept_on (rank_at w r).box (comm_at g p).ctx) ∷ []) ≡ back_in g p r
    unfolding registry_next
    registry_is = rw (comm_of_live g p r standing.apart live) refl

    has_left_all : (q : ℕ) → has_rank (comm_at g p).members q ≡ true → (has_rank (comm_at g p).freed q ≡ true) × (has_open_under g p q ≡ false)
    has_left_all q i = standing.left p q i (all_left (length w.ranks) g (comms_of w) (link w) h.markers standing p r lr live m row members marked q i)

    -- the back is allowed, and its number is that of the registry's open messages
    pub back_is_allowed : MayBack g r (comm_at g p).ctx (kept_on (rank_at w r).box (comm_at g p).ctx)
    back_is_allowed = record {
      between = between;
      place = p;
      here = comm_of_live g p r standing.apart live;
      freed = all_from_each (has_rank (comm_at g p).freed) (comm_at g p).members (λ q i. (has_left_all q i).0);
      settled = none_from_each (has_open_under g p) (comm_at g p).members (λ q i. (has_left_all q i).1);
      complete = none_waits (length w.ranks) g (posted_of w) (rows_of w) (posts_of w) h.receives p r lr live none;
      left = sym (drops_as_many (length w.ranks) g (kept_of w) (sends_of w) (comms_of w) (link w) h.messages h.own h.markers standing p r lr live m row members marked);
    }

    back_lines : (a b : ℕ) → a < length w.ranks → b < length w.ranks → link (after w giving back_move) a b ≡ link w a b
    back_lines a b la lb = after-link w giving back_move wide lr a b tt la lb ∙ by (a == r)
      where
        by : (t : Bool) → (if t then link w a b ++ [] else link w a b) ≡ link w a b
        by true = append-nil (link w a b)
        by false = refl

    pub back_goes_on : GoesOn s g (entry_events (entry_at w giving)) (moved w giving)
    back_goes_on =
        let b = boxes_of w g r lr h in
        let xs = back_keeps_receives (length w.ranks) g (posted_of w) (rows_of w) (posts_of w) h.receives p r lr live none in
        let ms = back_drops_messages (length w.ranks) g (kept_of w) (sends_of w) (comms_of w) (link w) h.messages h.own h.markers standing p r lr live m row members marked in
        let there : FitsAt w (back_in g p r) r back_move.state (link w) = record {
          messages = messages_same (length w.ranks) (back_in g p r) (put r (filter (λ z. not (z.ctx == (comm_at g p).ctx)) (kept_of w r)) (kept_of w)) (put r (filter (λ z. not (z.ctx == (comm_at g p).ctx)) (kept_of w r)) (kept_of w)) (sends_of w) (put r (rank_at w r).sends (sends_of w)) (link w) (link w) (λ z lz. refl) (λ z lz. put_same r (rank_at w r).sends (sends_of w) z refl) (λ a z la lz. refl) ms;
          receives = receives_same (length w.ranks) (back_in g p r) (posted_of w) (put r (rank_at w r).box.posted (posted_of w)) (rows_of w) (put r (rank_at w r).receives (rows_of w)) (posts_of w) (put r (rank_at w r).posts (posts_of w))
              (λ z lz. put_same r (rank_at w r).box.posted (posted_of w) z refl) (λ z k lz. ap (λ (ws : List ReceiveRow). row_of ws k) (put_same r (rank_at w r).receives (rows_of w) z refl)) (λ z lz. put_same r (rank_at w r).posts (posts_of w) z refl) xs;
          markers = back_keeps_markers (length w.ranks) g (comms_of w) (link w) h.markers standing p r lr live m row members marked;
          own = h.own;
          apart = drop_stays_apart (rank_at w r).box (comm_at g p).ctx (h.apart r lr);
        } in
        rw (back_events_are, back_move_is) (record {
          allowed = λ more run. (back_is_allowed, run);
          fits = rw registry_is (after_fits w giving back_move wide lr (back_in g p r) (link w) (λ a z la lz. ap proper (back_lines a z la lz)) h.apart there);
        })
