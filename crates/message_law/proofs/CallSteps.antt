-- A call that sends or posts: the topics go on with the registry, from the message or the receive on.
use Rattle.std.proofs.Common.{◌≡◌, ◌≢◌, ◌<◌, ◌+◌, ◌==◌, ◌&&◌, ℕ, Bool, true, false, List, [], ◌∷◌, ◌++◌, length, get_or, Some, None, refl, sym, ap, ◌∙◌, subst, arith, if◌then◌else◌}
use Rattle.std.proofs.lemmas.Bool.Decides.{nat_tests}
use Rattle.std.proofs.lemmas.List.{append-nil}
use Rattle.mpi_base.specs.MemberLists.{has_rank}
use Rattle.mpi_base.specs.declared.messages.Msg.{Msg}
use Rattle.mpi_base.specs.declared.ops.Op.{Op}
use Rattle.mpi_base.specs.declared.entries.Act.TheVariants.{Call}
use Rattle.mpi_base.specs.declared.entries.Choice.{Choice}
use Rattle.mpi_law.specs.declared.setting.Setting.{Setting}
use Rattle.mpi_law.specs.Registry.State.{Registry, RankPart, Message, blank_part, comm_at, part_of}
use Rattle.mpi_law.specs.Registry.Calls.{message_of_call}
use Rattle.mpi_law.specs.Registry.Runs.{registry_after}
use Rattle.comm_law.specs.declared.rows.CommRow.{CommRow}
use Rattle.comm_law.specs.Comms.{row_at, is_left}
use Rattle.mpi_protocol.specs.declared.rows.Waits.TheVariants.{Nothing}
use Rattle.mpi_protocol.specs.Packets as packet
use Rattle.mpi_protocol.specs.Packets.{Packet}
use Rattle.mpi_protocol.specs.Rank.{Rank, with_call}
use Rattle.mpi_protocol.specs.Moves.{Move, arrives}
use Rattle.mpi_protocol.specs.Calls.{sent}
use Rattle.mpi_protocol.specs.Run.{match_events}
use Rattle.mpi_protocol.specs.World.{World, rank_at, link, after}
use Rattle.message_law.proofs.Frames.{put, put_pair, messages_same, receives_grown}
use Rattle.message_law.proofs.Leaves.{live_at_all}
use Rattle.message_law.proofs.MarkerSteps.{proper, markers_same, markers_steady, message_keeps_markers, same_comms}
use Rattle.message_law.proofs.Sends.{with_message, IsOneMore, send_is_last}
use Rattle.message_law.proofs.Lines.{IsWide, after-link}
use Rattle.message_law.proofs.Worlds.{kept_of, posted_of, rows_of, sends_of, posts_of, comms_of, Fits, after_fits}
use Rattle.message_law.proofs.Boxes.{arrival_goes_on}
use Rattle.message_law.proofs.Deliveries.{GoesOn, boxes_of, arrives_comms, marks_self}
use Rattle.message_law.proofs.Topics.{as_msg, messages_on, OnLive, has_left, Messages, Receives, Standing}

-- a communicator that a rank may use: it is live there and the rank's row of it, which stands for it, is not left
pub record Usable (g : Registry) (x : Rank) (r p : ℕ) : Type 0 where
  pub live : OnLive g p r
  pub row : CommRow
  pub found : row_at x.comms (comm_at g p).ctx ≡ Some row
  pub members : row.members ≡ (comm_at g p).members
  pub stays : is_left row.stage ≡ false

usable_stays : (w : World) (g : Registry) (r p : ℕ) → Usable g (rank_at w r) r p → has_left g (comms_of w) r p ≡ false
usable_stays w g r p u = let l = u.live.1 in let back : has_rank (comm_at g p).returned r ≡ false = grind (arith, l) in let f = u.found in rw (back, f) u.stays

-- the counts of receives, or of sends, stay
abbrev pub IsAsBefore : (RankPart → ℕ) → ℕ → Registry → List RankPart → Type 0
IsAsBefore count n g parts = (a : ℕ) → a < n → count (get_or parts a blank_part) ≡ count (part_of g a)

module _ (s : Setting) (w : World) (g : Registry) (r t : ℕ) (op : Op) (wide : IsWide w) (lr : r < length w.ranks) (named : (rank_at w r).rank ≡ r) (standing : Standing (length w.ranks) g (comms_of w)) (h : Fits w g)
    (p : ℕ) (u : Usable g (rank_at w r) r p) (parts : List RankPart) where
  abbrev calling : Choice
  calling = record { rank = r; act = Call t op }

  -- A message

  module _ (to tag : ℕ) (payload : List ℕ) (more : IsOneMore (λ z. z.sends) g parts r) (others : IsAsBefore (λ z. z.receives) (length w.ranks) g parts)
      (good : has_rank (comm_at g p).members (get_or (comm_at g p).members to 0) ≡ true) where
    abbrev message : Message
    message = message_of_call g r (record { comm = p; to = to; tag = tag; payload = payload })

    abbrev caller : Rank
    caller = record (rank_at w r) { threads = with_call (rank_at w r) t Nothing; sends = (rank_at w r).sends + 1 }

    -- the receiver, and the message as it has it
    abbrev receiver : ℕ
    receiver = get_or (comm_at g p).members to 0

    abbrev msg : Msg
    msg = as_msg g.comms message

    there : OnLive g p receiver
    there = live_at_all (length w.ranks) g (comms_of w) (link w) p r receiver h.markers u.live (usable_stays w g r p u) good

    mine : has_rank (comm_at g p).members r ≡ true
    mine = let k = u.live.1 in grind (arith, k)

    abbrev new : Registry
    new = with_message g message parts

    xs : Receives (length w.ranks) new (put r caller.box.posted (posted_of w)) (put r caller.receives (rows_of w)) (put r caller.posts (posts_of w))
    xs = let b = boxes_of w g r lr h in receives_grown (length w.ranks) g new (put r caller.box.posted (posted_of w)) (put r caller.receives (rows_of w)) (put r caller.posts (posts_of w)) (record { longer = λ d k. k; ctx = λ d k. refl; members = λ d k. refl }) b.receives.live refl others b.receives

    ms_on : (line : ℕ → ℕ → List Packet) → Messages (length w.ranks) g (kept_of w) (sends_of w) line → Messages (length w.ranks) new (put r caller.box.kept (kept_of w)) (put r caller.sends (sends_of w)) (put_pair r receiver (line r receiver ++ packet.Message msg ∷ []) line)
    ms_on line ms = messages_same (length w.ranks) new (kept_of w) (put r caller.box.kept (kept_of w)) (put r caller.sends (sends_of w)) (put r caller.sends (sends_of w))
        (put_pair r receiver (line r receiver ++ packet.Message msg ∷ []) line) (put_pair r receiver (line r receiver ++ packet.Message msg ∷ []) line)
        (λ b lb. kept b (b == r) refl) (λ b lb. refl) (λ a b la lb. refl)
        (send_is_last (length w.ranks) g (kept_of w) (sends_of w) line ms message parts more refl refl there lr mine)
      where
        kept : (b : ℕ) → (z : Bool) → (b == r) ≡ z → (if z then (rank_at w r).box.kept else kept_of w b) ≡ kept_of w b
        kept b true e = let is : b ≡ r = grind (arith, nat_tests, e) in rw is refl
        kept b false e = refl

    abbrev on_link : Move
    on_link = sent ((caller, None), record { to = receiver; packet = packet.Message msg } ∷ [])

    -- to another rank it goes on the link
    pub send_goes_on : receiver ≢ r → GoesOn s new [] (after w calling on_link)
    send_goes_on ne = record {
      allowed = λ rest run. run;
      fits = after_fits w calling on_link wide lr new line'
          (λ a b la lb. ap proper (lines a b la lb)) h.apart
          (record {
            messages = ms_on (link w) h.messages;
            receives = xs;
            markers = markers_steady (length w.ranks) g new (put r caller.comms (comms_of w)) line' (same_comms _ _ refl)
                (markers_same (length w.ranks) g (comms_of w) (put r caller.comms (comms_of w)) line' line' (λ z. marks_self r caller.comms (comms_of w) z refl) (λ a b la lb. refl)
                (message_keeps_markers (length w.ranks) g (comms_of w) (link w) h.markers r receiver p lr (standing.ranks p receiver good) (λ e. ne (sym e)) there mine (usable_stays w g r p u) msg refl));
            own = λ b lb. own b lb (b == r) refl (b == receiver) refl;
            apart = h.apart r lr;
          });
    }
      where
        line' : ℕ → ℕ → List Packet
        line' = put_pair r receiver (link w r receiver ++ packet.Message msg ∷ []) (link w)

        lines : (a b : ℕ) → a < length w.ranks → b < length w.ranks → link (after w calling on_link) a b ≡ line' a b
        lines a b la lb =
            after-link w calling on_link wide lr a b tt la lb
            ∙ by (a == r) refl (b == receiver) refl (receiver == b) (grind (arith, nat_tests))
          where
            by : (i : Bool) → (a == r) ≡ i → (j : Bool) → (b == receiver) ≡ j → (k : Bool) → k ≡ (b == receiver)
                → (if i then link w a b ++ (if k then packet.Message msg ∷ [] else []) else link w a b) ≡ (if i && j then link w r receiver ++ packet.Message msg ∷ [] else link w a b)
            by false i j e k f = refl
            by true i true e true f = let x : a ≡ r = grind (arith, nat_tests, i) in let y : b ≡ receiver = grind (arith, nat_tests, e) in rw (x, y) refl
            by true i false e false f = append-nil (link w a b)
            by true i true e false f = absurd (cc (e, f))
            by true i false e true f = absurd (cc (e, f))

        own : (b : ℕ) → b < length w.ranks → (i : Bool) → (b == r) ≡ i → (j : Bool) → (b == receiver) ≡ j → messages_on (if i && j then link w r receiver ++ packet.Message msg ∷ [] else link w b b) ≡ []
        own b lb true i true j = absurd (ne (let x : b ≡ r = grind (arith, nat_tests, i) in let y : b ≡ receiver = grind (arith, nat_tests, j) in sym y ∙ x))
        own b lb true i false j = h.own b lb
        own b lb false i j k = h.own b lb

    abbrev at_once : Move
    at_once = sent (arrives caller msg, [])

    abbrev matched : Registry
    matched = registry_after s new (match_events r (arrives caller msg).1)

    -- as if the message were on a link of the rank to itself
    abbrev no_own : ℕ → ℕ → List Packet
    no_own = put_pair r r [] (link w)

    abbrev with_own : ℕ → ℕ → List Packet
    with_own = put_pair r r (no_own r r ++ packet.Message msg ∷ []) no_own

    -- to itself the rank's step takes it
    pub own_send_goes_on : receiver ≡ r → GoesOn s new (match_events r (arrives caller msg).1) (after w calling at_once)
    own_send_goes_on is =
        let clean : Messages (length w.ranks) g (kept_of w) (sends_of w) no_own = messages_same (length w.ranks) g (kept_of w) (kept_of w) (sends_of w) (sends_of w) (link w) no_own (λ b lb. refl) (λ b lb. refl) (λ a b la lb. cleared a b lb) h.messages in
        let here : put_pair r r [] (link w) r r ≡ [] = grind (arith, nat_tests) in
        let on : put_pair r r (put_pair r r [] (link w) r r ++ packet.Message msg ∷ []) no_own r r ≡ packet.Message msg ∷ [] = rw here (grind (arith, nat_tests)) in
        let ms : Messages (length w.ranks) new (put r caller.box.kept (kept_of w)) (put r caller.sends (sends_of w)) with_own = subst (λ (z : ℕ). Messages (length w.ranks) new (put r caller.box.kept (kept_of w)) (put r caller.sends (sends_of w)) (put_pair r z (put_pair r r [] (link w) r z ++ packet.Message msg ∷ []) no_own)) is (ms_on no_own clean) in
        let b = arrival_goes_on s w new r lr caller with_own standing.apart (record { messages = ms; receives = xs; apart = h.apart r lr }) r lr msg [] on in
        record {
          allowed = b.allowed;
          fits = after_fits w calling at_once wide lr matched (link w)
              (λ a z la lz. ap proper (lines a z la lz)) h.apart
              (record {
                messages = messages_same (length w.ranks) matched (put r (arrives caller msg).0.box.kept (kept_of w)) (put r (arrives caller msg).0.box.kept (kept_of w)) (put r (arrives caller msg).0.sends (sends_of w)) (put r (arrives caller msg).0.sends (sends_of w))
                    (put_pair r r [] with_own) (link w) (λ z lz. refl) (λ z lz. refl) (λ a z la lz. back a z lz) b.boxes.messages;
                receives = b.boxes.receives;
                markers = markers_steady (length w.ranks) new matched (put r (arrives caller msg).0.comms (comms_of w)) (link w) b.steady
                    (markers_steady (length w.ranks) g new (put r (arrives caller msg).0.comms (comms_of w)) (link w) (same_comms _ _ refl)
                    (markers_same (length w.ranks) g (comms_of w) (put r (arrives caller msg).0.comms (comms_of w)) (link w) (link w) (λ z. marks_self r (arrives caller msg).0.comms (comms_of w) z (arrives_comms caller msg)) (λ a z la lz. refl) h.markers));
                own = h.own;
                apart = b.boxes.apart;
              });
        }
      where
        cleared : (a b : ℕ) → b < length w.ranks → messages_on (put_pair r r [] (link w) a b) ≡ messages_on (link w a b)
        cleared a b lb = by (a == r) refl (b == r) refl
          where
            by : (i : Bool) → (a == r) ≡ i → (j : Bool) → (b == r) ≡ j → messages_on (if i && j then [] else link w a b) ≡ messages_on (link w a b)
            by true i true j = let x : a ≡ r = grind (arith, nat_tests, i) in let y : b ≡ r = grind (arith, nat_tests, j) in rw (x, y, h.own r lr) refl
            by true i false j = refl
            by false i j k = refl

        back : (a b : ℕ) → b < length w.ranks → messages_on (link w a b) ≡ messages_on (put_pair r r [] with_own a b)
        back a b lb = by (a == r) refl (b == r) refl
          where
            by : (i : Bool) → (a == r) ≡ i → (j : Bool) → (b == r) ≡ j → messages_on (link w a b) ≡ messages_on (if i && j then [] else (if i && j then put_pair r r [] (link w) r r ++ packet.Message msg ∷ [] else (if i && j then [] else link w a b)))
            by true i true j = let x : a ≡ r = grind (arith, nat_tests, i) in let y : b ≡ r = grind (arith, nat_tests, j) in rw (x, y) (h.own r lr)
            by true i false j = refl
            by false i j k = refl

        lines : (a b : ℕ) → a < length w.ranks → b < length w.ranks → link (after w calling at_once) a b ≡ link w a b
        lines a b la lb = after-link w calling at_once wide lr a b tt la lb ∙ by (a == r)
          where
            by : (i : Bool) → (if i then link w a b ++ [] else link w a b) ≡ link w a b
            by true = append-nil (link w a b)
            by false = refl
