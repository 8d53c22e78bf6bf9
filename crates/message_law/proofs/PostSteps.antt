-- A call that posts a receive: the topics go on with the registry, from the receive on.
use Rattle.std.proofs.Common.{◌≡◌, ◌<◌, ◌+◌, ◌==◌, ℕ, Bool, true, false, List, [], ◌∷◌, ◌++◌, length, Option, Some, None, refl, sym, ap, ◌∙◌, subst, arith, if◌then◌else◌}
use Rattle.std.proofs.lemmas.Bool.Decides.{nat_tests}
use Rattle.std.proofs.lemmas.List.{append-nil}
use Rattle.mpi_base.specs.declared.messages.Msg.{Msg}
use Rattle.mpi_base.specs.declared.ops.Op.{Op}
use Rattle.mpi_base.specs.declared.entries.Act.TheVariants.{Call}
use Rattle.mpi_base.specs.declared.entries.Choice.{Choice}
use Rattle.mpi_law.specs.declared.setting.Setting.{Setting}
use Rattle.mpi_law.specs.Local.Objects.{Local}
use Rattle.mpi_law.specs.declared.effects.Receiving.{Receiving}
use Rattle.mpi_law.specs.Registry.State.{Registry, RankPart, Receive, comm_at}
use Rattle.mpi_law.specs.Registry.Apart.{LiveApart}
use Rattle.mpi_law.specs.Registry.Calls.{receive_of_call}
use Rattle.mpi_law.specs.Registry.Runs.{registry_after}
use Rattle.match_law.specs.declared.rows.Posted.{Posted}
use Rattle.match_law.specs.Box.{Box, post}
use Rattle.mpi_protocol.specs.declared.rows.Waits.{Waits}
use Rattle.mpi_protocol.specs.Rank.{Rank, with_receive}
use Rattle.mpi_protocol.specs.Moves.{Move, posts, posts_to}
use Rattle.mpi_protocol.specs.Calls.{posted_of as posted_row, with_post, requested, received}
use Rattle.mpi_protocol.specs.Run.{match_events}
use Rattle.mpi_protocol.specs.World.{World, rank_at, link, after}
use Rattle.message_law.proofs.Frames.{put, messages_same, messages_grown, receives_same}
use Rattle.message_law.proofs.MarkerSteps.{proper, markers_same, markers_steady, same_comms}
use Rattle.message_law.proofs.Sends.{with_posted, IsOneMore, post_is_last}
use Rattle.message_law.proofs.Lines.{IsWide, after-link}
use Rattle.message_law.proofs.Worlds.{kept_of, posted_of, rows_of, sends_of, posts_of, comms_of, Fits, FitsAt, after_fits}
use Rattle.message_law.proofs.Boxes.{posting_goes_on}
use Rattle.message_law.proofs.Deliveries.{GoesOn, marks_self}
use Rattle.message_law.proofs.CallSteps.{IsAsBefore}
use Rattle.message_law.proofs.Topics.{as_posted, OnLive, Messages, Receives}

posts_comms : (x : Rank) (p : Posted) → (posts x p).0.comms ≡ x.comms
posts_comms x p = go (post x.box p).0 (post x.box p).1
  where
    go : (b : Box) (o : Option Msg) → (posts_to x p.number b o).0.comms ≡ x.comms
    go b None = refl
    go b (Some m) = refl

module _ (s : Setting) (w : World) (g : Registry) (r t : ℕ) (op : Op) (l : Local) (waits : Waits) (wide : IsWide w) (lr : r < length w.ranks) (apart : LiveApart g) (h : Fits w g)
    (p : ℕ) (live : OnLive g p r) (source tag : Option ℕ) (room : ℕ) (parts : List RankPart) (more : IsOneMore (λ z. z.receives) g parts r) (others : IsAsBefore (λ z. z.sends) (length w.ranks) g parts) where
  abbrev calling : Choice
  calling = record { rank = r; act = Call t op }

  abbrev receive : Receive
  receive = receive_of_call g r (record { comm = p; source = source; tag = tag; room = room })

  abbrev asked : Receiving ℕ
  asked = record { comm = (comm_at g p).ctx; source = source; tag = tag; room = room }

  abbrev caller : Rank
  caller = with_post (rank_at w r) t l asked waits

  abbrev new : Registry
  new = with_posted g receive parts

  receive_is : posted_row (rank_at w r) asked ≡ as_posted g.comms receive
  receive_is = let c = h.receives.counted r lr in rw c refl

  kept_same : {A : Type 0} (f : Rank → A) (b : ℕ) → f caller ≡ f (rank_at w r) → put r (f caller) (λ z. f (rank_at w z)) b ≡ f (rank_at w b)
  kept_same f b e = by (b == r) refl
    where
      by : (z : Bool) → (b == r) ≡ z → (if z then f caller else f (rank_at w b)) ≡ f (rank_at w b)
      by true k = let is : b ≡ r = grind (arith, nat_tests, k) in rw is e
      by false k = refl

  ms : Messages (length w.ranks) new (put r caller.box.kept (kept_of w)) (put r caller.sends (sends_of w)) (link w)
  ms = messages_same (length w.ranks) new (kept_of w) (put r caller.box.kept (kept_of w)) (sends_of w) (put r caller.sends (sends_of w)) (link w) (link w) (λ b lb. kept_same (λ x. x.box.kept) b refl) (λ b lb. kept_same (λ x. x.sends) b refl) (λ a b la lb. refl)
      (messages_grown (length w.ranks) g new (kept_of w) (sends_of w) (link w) (record { longer = λ d k. k; ctx = λ d k. refl; members = λ d k. refl }) (λ d z on. on) refl others h.messages)

  xs : Receives (length w.ranks) new (put r (caller.box.posted ++ posted_row (rank_at w r) asked ∷ []) (posted_of w)) (put r caller.receives (rows_of w)) (put r caller.posts (posts_of w))
  xs = receives_same (length w.ranks) new (put r (posted_of w r ++ as_posted g.comms receive ∷ []) (posted_of w)) (put r (caller.box.posted ++ posted_row (rank_at w r) asked ∷ []) (posted_of w)) (put r (with_receive (rows_of w r) receive.number receive.room) (rows_of w)) (put r caller.receives (rows_of w)) (put r (posts_of w r + 1) (posts_of w)) (put r caller.posts (posts_of w))
      (λ b lb. rw receive_is refl) (λ b k lb. let c = h.receives.counted r lr in rw c refl) (λ b lb. refl)
      (post_is_last (length w.ranks) g (posted_of w) (rows_of w) (posts_of w) h.receives receive parts more refl refl live lr)

  lines : (m : Move) → m.sent ≡ [] → (a b : ℕ) → a < length w.ranks → b < length w.ranks → link (after w calling m) a b ≡ link w a b
  lines m none a b la lb = after-link w calling m wide lr a b tt la lb ∙ rw none (by (a == r))
    where
      by : (i : Bool) → (if i then link w a b ++ [] else link w a b) ≡ link w a b
      by true = append-nil (link w a b)
      by false = refl

  -- the receive waits, or takes a message that was kept
  pub post_goes_on : (m : Move) → m.state ≡ (posts caller (posted_row (rank_at w r) asked)).0 → m.sent ≡ [] → GoesOn s new (match_events r (posts caller (posted_row (rank_at w r) asked)).1) (after w calling m)
  post_goes_on m state none =
      let b = posting_goes_on s w new r lr caller (link w) (posted_row (rank_at w r) asked) apart ms xs (h.apart r lr) in
      let at : FitsAt w (registry_after s new (match_events r (posts caller (posted_row (rank_at w r) asked)).1)) r (posts caller (posted_row (rank_at w r) asked)).0 (link w) = record {
        messages = b.boxes.messages;
        receives = b.boxes.receives;
        markers = markers_steady (length w.ranks) new (registry_after s new (match_events r (posts caller (posted_row (rank_at w r) asked)).1)) (put r (posts caller (posted_row (rank_at w r) asked)).0.comms (comms_of w)) (link w) b.steady
            (markers_steady (length w.ranks) g new (put r (posts caller (posted_row (rank_at w r) asked)).0.comms (comms_of w)) (link w) (same_comms _ _ refl)
            (markers_same (length w.ranks) g (comms_of w) (put r (posts caller (posted_row (rank_at w r) asked)).0.comms (comms_of w)) (link w) (link w) (λ z. marks_self r (posts caller (posted_row (rank_at w r) asked)).0.comms (comms_of w) z (posts_comms caller (posted_row (rank_at w r) asked))) (λ a z la lz. refl) h.markers));
        own = h.own;
        apart = b.boxes.apart;
      } in
      record {
        allowed = b.allowed;
        fits = after_fits w calling m wide lr (registry_after s new (match_events r (posts caller (posted_row (rank_at w r) asked)).1)) (link w) (λ a z la lz. ap proper (lines m none a z la lz)) h.apart
            (subst (λ (x : Rank). FitsAt w (registry_after s new (match_events r (posts caller (posted_row (rank_at w r) asked)).1)) r x (link w)) (sym state) at);
      }

  -- with the reply in the call's entry, or without
  pub request_goes_on : GoesOn s new (match_events r (posts caller (posted_row (rank_at w r) asked)).1) (after w calling (requested (posts caller (posted_row (rank_at w r) asked))))
  request_goes_on = post_goes_on (requested (posts caller (posted_row (rank_at w r) asked))) refl refl

  pub receive_goes_on : GoesOn s new (match_events r (posts caller (posted_row (rank_at w r) asked)).1) (after w calling (received (posts caller (posted_row (rank_at w r) asked))))
  receive_goes_on = post_goes_on (received (posts caller (posted_row (rank_at w r) asked))) refl refl
