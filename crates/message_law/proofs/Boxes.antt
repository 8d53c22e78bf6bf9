-- A message that comes to a rank and a receive that it posts: the registry goes on by the match, if there is one.
use Rattle.std.proofs.Common.{◌≡◌, ◌<◌, ◌==◌, ℕ, Bool, true, false, List, [], ◌∷◌, ◌++◌, length, Option, Some, None, refl, sym, ap, ◌∙◌, arith, if◌then◌else◌}
use Rattle.std.specs.Prelude.{find}
use Rattle.std.proofs.lemmas.Bool.Decides.{nat_tests}
use Rattle.mpi_base.specs.declared.messages.Msg.{Msg}
use Rattle.mpi_law.specs.declared.setting.Setting.{Setting}
use Rattle.mpi_law.specs.Registry.State.{Registry}
use Rattle.mpi_law.specs.Registry.Apart.{LiveApart}
use Rattle.mpi_law.specs.Registry.Messages.{after_match}
use Rattle.mpi_law.specs.Registry.Events.{Event, Matches, registry_next}
use Rattle.mpi_law.specs.Registry.Runs.{MayMatch, IsRegistryRun, registry_after}
use Rattle.match_law.specs.declared.rows.Posted.{Posted}
use Rattle.match_law.specs.Box.{fits, without_first, receive_for, message_for, arrive, arrived, post, posted_to}
use Rattle.mpi_protocol.specs.declared.rows.ReceiveRow.{ReceiveRow}
use Rattle.mpi_protocol.specs.Packets as packet
use Rattle.mpi_protocol.specs.Packets.{Packet}
use Rattle.mpi_protocol.specs.Rank.{Rank, with_taken, receive_of as row_of}
use Rattle.mpi_protocol.specs.Moves.{arrives, arrives_to, posts, posts_to}
use Rattle.mpi_protocol.specs.Run.{match_events}
use Rattle.mpi_protocol.specs.World.{World}
use Rattle.message_law.proofs.BoxFacts.{IsApart, arrived_apart, posted_to_apart}
use Rattle.message_law.proofs.Frames.{put, put_pair, messages_same, receives_same}
use Rattle.message_law.proofs.Arrivals.{arrival_is_kept}
use Rattle.message_law.proofs.Takings.{arrival_is_taken, posting_takes}
use Rattle.message_law.proofs.MarkerSteps.{Steady, same_comms}
use Rattle.message_law.proofs.Worlds.{kept_of, posted_of, rows_of, sends_of, posts_of}
use Rattle.message_law.proofs.Topics.{Messages, Receives}

pub put_at : {A : Type 0} (r : ℕ) (y : A) (f : ℕ → A) → put r y f r ≡ y
put_at r y f = let e : (r == r) ≡ true = grind (arith, nat_tests) in rw e refl

pub put_twice : {A : Type 0} (r : ℕ) (y z : A) (f : ℕ → A) (s : ℕ) → put r z (put r y f) s ≡ put r z f s
put_twice r y z f s = by (s == r)
  where
    by : (b : Bool) → (if b then z else (if b then y else f s)) ≡ (if b then z else f s)
    by true = refl
    by false = refl

put_is : {A : Type 0} (r : ℕ) (y z : A) (f : ℕ → A) (s : ℕ) → y ≡ z → put r y f s ≡ put r z f s
put_is r y z f s e = ap (λ (v : _). put r v f s) e

-- messages and receives, where a rank is at a state
pub record Boxes (w : World) (g : Registry) (r : ℕ) (x : Rank) (line : ℕ → ℕ → List Packet) : Type 0 where
  pub messages : Messages (length w.ranks) g (put r x.box.kept (kept_of w)) (put r x.sends (sends_of w)) line
  pub receives : Receives (length w.ranks) g (put r x.box.posted (posted_of w)) (put r x.receives (rows_of w)) (put r x.posts (posts_of w))
  pub apart : IsApart x.box

-- the registry goes on by events
pub record BoxesGoOn (s : Setting) (w : World) (g : Registry) (r : ℕ) (es : List Event) (x : Rank) (line : ℕ → ℕ → List Packet) : Type 0 where
  pub allowed : (rest : List Event) → IsRegistryRun s (registry_after s g es) rest → IsRegistryRun s g (es ++ rest)
  pub boxes : Boxes w (registry_after s g es) r x line
  pub steady : Steady g (registry_after s g es)

matched_go : (s : Setting) (g : Registry) (r number from sent : ℕ) → MayMatch g r number from sent → (rest : List Event) → IsRegistryRun s (registry_after s g (Matches r number from sent ∷ [])) rest → IsRegistryRun s g (Matches r number from sent ∷ rest)
matched_go s g r number from sent may rest h = (may, h)

module _ (s : Setting) (w : World) (g : Registry) (r : ℕ) (lr : r < length w.ranks) (x : Rank) (line : ℕ → ℕ → List Packet) (apart : LiveApart g) (h : Boxes w g r x line) where
  -- A message comes

  module _ (q : ℕ) (lq : q < length w.ranks) (msg : Msg) (rest : List Packet) (head : line q r ≡ packet.Message msg ∷ rest) where
    comes : (o : Option Posted) → receive_for x.box.posted msg ≡ o
        → BoxesGoOn s w g r (match_events r (arrives_to x msg (arrived x.box msg o).0 (arrived x.box msg o).1).1) (arrives_to x msg (arrived x.box msg o).0 (arrived x.box msg o).1).0 (put_pair q r rest line)
    unfolding registry_next
    comes None e = record {
      allowed = λ more run. run;
      boxes = record {
        messages = messages_same (length w.ranks) g (put r (put r x.box.kept (kept_of w) r ++ msg ∷ []) (put r x.box.kept (kept_of w))) (put r (x.box.kept ++ msg ∷ []) (kept_of w)) (put r x.sends (sends_of w)) (put r x.sends (sends_of w)) (put_pair q r rest line) (put_pair q r rest line)
            (λ b lb. sym (put_twice r x.box.kept (put r x.box.kept (kept_of w) r ++ msg ∷ []) (kept_of w) b ∙ put_is r (put r x.box.kept (kept_of w) r ++ msg ∷ []) (x.box.kept ++ msg ∷ []) (kept_of w) b (ap (λ (ms : List Msg). ms ++ msg ∷ []) (put_at r x.box.kept (kept_of w))))) (λ b lb. refl) (λ a b la lb. refl)
            (arrival_is_kept (length w.ranks) g (put r x.box.kept (kept_of w)) (put r x.sends (sends_of w)) line h.messages q r lq lr msg rest head);
        receives = h.receives;
        apart = arrived_apart x.box msg None e h.apart;
      };
      steady = same_comms _ _ refl;
    }
    comes (Some p) e =
        let none = h.apart in
        let found : find (λ y. fits y msg) x.box.posted ≡ Some p = e in
        let t = arrival_is_taken (length w.ranks) g (put r x.box.kept (kept_of w)) (put r x.sends (sends_of w)) line (put r x.box.posted (posted_of w)) (put r x.receives (rows_of w)) (put r x.posts (posts_of w)) apart h.messages q r lq lr msg rest p head
        (rw (put_at r x.box.kept (kept_of w), put_at r x.box.posted (posted_of w)) none) (rw (put_at r x.box.posted (posted_of w)) found) h.receives in
        record {
          allowed = λ more run. matched_go s g r p.number msg.from msg.number t.allowed more run;
          boxes = record {
            messages = t.messages;
            receives = receives_same (length w.ranks) (after_match g r p.number msg.from msg.number)
                (put r (without_first (λ y. fits y msg) (put r x.box.posted (posted_of w) r)) (put r x.box.posted (posted_of w))) (put r (without_first (λ y. fits y msg) x.box.posted) (posted_of w))
                (put r (with_taken (put r x.receives (rows_of w) r) p.number msg) (put r x.receives (rows_of w))) (put r (with_taken x.receives p.number msg) (rows_of w)) (put r x.posts (posts_of w)) (put r x.posts (posts_of w))
                (λ b lb. sym (put_twice r x.box.posted (without_first (λ y. fits y msg) (put r x.box.posted (posted_of w) r)) (posted_of w) b ∙ put_is r (without_first (λ y. fits y msg) (put r x.box.posted (posted_of w) r)) (without_first (λ y. fits y msg) x.box.posted) (posted_of w) b (ap (without_first (λ y. fits y msg)) (put_at r x.box.posted (posted_of w)))))
                (λ b k lb. sym (ap (λ (ws : List ReceiveRow). row_of ws k) (put_twice r x.receives (with_taken (put r x.receives (rows_of w) r) p.number msg) (rows_of w) b ∙ put_is r (with_taken (put r x.receives (rows_of w) r) p.number msg) (with_taken x.receives p.number msg) (rows_of w) b (ap (λ (ws : List ReceiveRow). with_taken ws p.number msg) (put_at r x.receives (rows_of w))))))
                (λ b lb. refl)
                t.receives;
            apart = arrived_apart x.box msg (Some p) e h.apart;
          };
          steady = same_comms _ _ refl;
        }

    pub arrival_goes_on : BoxesGoOn s w g r (match_events r (arrives x msg).1) (arrives x msg).0 (put_pair q r rest line)
    unfolding arrive
    arrival_goes_on = comes (receive_for x.box.posted msg) refl

-- A receive is posted: the registry has it as the last

module _ (s : Setting) (w : World) (g : Registry) (r : ℕ) (lr : r < length w.ranks) (x : Rank) (line : ℕ → ℕ → List Packet) (p : Posted) (apart : LiveApart g)
    (ms : Messages (length w.ranks) g (put r x.box.kept (kept_of w)) (put r x.sends (sends_of w)) line)
    (xs : Receives (length w.ranks) g (put r (x.box.posted ++ p ∷ []) (posted_of w)) (put r x.receives (rows_of w)) (put r x.posts (posts_of w))) (none : IsApart x.box) where
  posted_so : (o : Option Msg) → message_for x.box.kept p ≡ o
      → BoxesGoOn s w g r (match_events r (posts_to x p.number (posted_to x.box p o).0 (posted_to x.box p o).1).1) (posts_to x p.number (posted_to x.box p o).0 (posted_to x.box p o).1).0 line
  unfolding registry_next
  posted_so None e = record {
    allowed = λ more run. run;
    boxes = record { messages = ms; receives = xs; apart = posted_to_apart x.box p None e none };
    steady = same_comms _ _ refl;
  }
  posted_so (Some msg) e =
      let found : find (λ z. fits p z) x.box.kept ≡ Some msg = e in
      let t = posting_takes (length w.ranks) g (put r x.box.kept (kept_of w)) (put r x.sends (sends_of w)) line (put r (x.box.posted ++ p ∷ []) (posted_of w)) (put r x.receives (rows_of w)) (put r x.posts (posts_of w)) apart ms r lr x.box.posted p msg
      (put_at r (x.box.posted ++ p ∷ []) (posted_of w)) (rw (put_at r x.box.kept (kept_of w)) none) (rw (put_at r x.box.kept (kept_of w)) found) xs in
      record {
        allowed = λ more run. matched_go s g r p.number msg.from msg.number t.allowed more run;
        boxes = record {
          messages = messages_same (length w.ranks) (after_match g r p.number msg.from msg.number) (put r (without_first (λ z. fits p z) (put r x.box.kept (kept_of w) r)) (put r x.box.kept (kept_of w))) (put r (without_first (λ z. fits p z) x.box.kept) (kept_of w)) (put r x.sends (sends_of w)) (put r x.sends (sends_of w)) line line
              (λ b lb. sym (put_twice r x.box.kept (without_first (λ z. fits p z) (put r x.box.kept (kept_of w) r)) (kept_of w) b ∙ put_is r (without_first (λ z. fits p z) (put r x.box.kept (kept_of w) r)) (without_first (λ z. fits p z) x.box.kept) (kept_of w) b (ap (without_first (λ z. fits p z)) (put_at r x.box.kept (kept_of w))))) (λ b lb. refl) (λ a b la lb. refl) t.messages;
          receives = receives_same (length w.ranks) (after_match g r p.number msg.from msg.number)
              (put r x.box.posted (put r (x.box.posted ++ p ∷ []) (posted_of w))) (put r x.box.posted (posted_of w))
              (put r (with_taken (put r x.receives (rows_of w) r) p.number msg) (put r x.receives (rows_of w))) (put r (with_taken x.receives p.number msg) (rows_of w)) (put r x.posts (posts_of w)) (put r x.posts (posts_of w))
              (λ b lb. sym (put_twice r (x.box.posted ++ p ∷ []) x.box.posted (posted_of w) b))
              (λ b k lb. sym (ap (λ (ws : List ReceiveRow). row_of ws k) (put_twice r x.receives (with_taken (put r x.receives (rows_of w) r) p.number msg) (rows_of w) b ∙ put_is r (with_taken (put r x.receives (rows_of w) r) p.number msg) (with_taken x.receives p.number msg) (rows_of w) b (ap (λ (ws : List ReceiveRow). with_taken ws p.number msg) (put_at r x.receives (rows_of w))))))
              (λ b lb. refl)
              t.receives;
          apart = posted_to_apart x.box p (Some msg) e none;
        };
        steady = same_comms _ _ refl;
      }

  pub posting_goes_on : BoxesGoOn s w g r (match_events r (posts x p).1) (posts x p).0 line
  unfolding post
  posting_goes_on = posted_so (message_for x.box.kept p) refl
