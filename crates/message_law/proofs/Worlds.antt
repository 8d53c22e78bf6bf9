-- The three topics of a world and a registry, and steps that are no news to them.
use Rattle.std.proofs.Common.{◌≡◌, ◌<◌, ◌==◌, ℕ, Bool, true, false, List, length, refl, sym, ap, ◌∙◌, subst, arith, if◌then◌else◌}
use Rattle.std.proofs.lemmas.Bool.Decides.{nat_tests}
use Rattle.mpi_base.specs.declared.messages.Msg.{Msg}
use Rattle.mpi_base.specs.declared.entries.Choice.{Choice}
use Rattle.mpi_law.specs.declared.setting.TheConstants.{THREADS}
use Rattle.mpi_law.specs.Registry.State.{Registry, comm_at, part_of, is_between_calls}
use Rattle.match_law.specs.declared.rows.Posted.{Posted}
use Rattle.match_law.specs.Box.{Box}
use Rattle.comm_law.specs.Comms.{Comms}
use Rattle.mpi_protocol.specs.declared.rows.ReceiveRow.{ReceiveRow}
use Rattle.mpi_protocol.specs.Packets.{Packet}
use Rattle.mpi_protocol.specs.Rank.{Rank, receive_of as row_of}
use Rattle.mpi_protocol.specs.Moves.{Move}
use Rattle.mpi_protocol.specs.Delivers.{is_context}
use Rattle.mpi_protocol.specs.World.{World, rank_at, link, after}
use Rattle.agree_law.proofs.Lists.{AllOf_each}
use Rattle.message_law.proofs.BoxFacts.{IsApart}
use Rattle.message_law.proofs.Frames.{put, messages_same, receives_same, messages_grown, receives_grown}
use Rattle.message_law.proofs.MarkerSteps.{proper, proper_messages, SameMarks, markers_same, Steady, steady_grows, steady_live, markers_steady}
use Rattle.message_law.proofs.Lines.{IsWide, after-count, after-rank}
use Rattle.message_law.proofs.Topics.{messages_on, OnLive, WaitingFits, NoneOwn, Messages, Receives, Markers, Standing}

-- the parts of each rank that the topics read
abbrev pub kept_of : World → ℕ → List Msg
kept_of w r = (rank_at w r).box.kept

abbrev pub posted_of : World → ℕ → List Posted
posted_of w r = (rank_at w r).box.posted

abbrev pub rows_of : World → ℕ → List ReceiveRow
rows_of w r = (rank_at w r).receives

abbrev pub sends_of : World → ℕ → ℕ
sends_of w r = (rank_at w r).sends

abbrev pub posts_of : World → ℕ → ℕ
posts_of w r = (rank_at w r).posts

abbrev pub comms_of : World → ℕ → Comms
comms_of w r = (rank_at w r).comms

pub record Fits (w : World) (g : Registry) : Type 0 where
  pub messages : Messages (length w.ranks) g (kept_of w) (sends_of w) (link w)
  pub receives : Receives (length w.ranks) g (posted_of w) (rows_of w) (posts_of w)
  pub markers : Markers (length w.ranks) g (comms_of w) (link w)
  pub own : NoneOwn (length w.ranks) (link w)
  pub apart : (r : ℕ) → r < length w.ranks → IsApart (rank_at w r).box

-- the same for a step of a rank, whose state and links are told
pub record FitsAt (w : World) (g : Registry) (r : ℕ) (x : Rank) (line : ℕ → ℕ → List Packet) : Type 0 where
  pub messages : Messages (length w.ranks) g (put r x.box.kept (kept_of w)) (put r x.sends (sends_of w)) line
  pub receives : Receives (length w.ranks) g (put r x.box.posted (posted_of w)) (put r x.receives (rows_of w)) (put r x.posts (posts_of w))
  pub markers : Markers (length w.ranks) g (put r x.comms (comms_of w)) line
  pub own : NoneOwn (length w.ranks) line
  pub apart : IsApart x.box

-- what the other topics say of a world and a registry
pub record Ground (w : World) (g : Registry) : Type 0 where
  -- no thread is within a call
  pub between : is_between_calls g ≡ true
  pub parts : length g.ranks ≡ length w.ranks
  pub threads : (r : ℕ) → r < length w.ranks → length (part_of g r).threads ≡ THREADS
  pub standing : Standing (length w.ranks) g (comms_of w)
  -- contexts lie from 1 to the greatest
  pub contexts : (p r : ℕ) → r < length w.ranks → OnLive g p r → is_context (rank_at w r) (comm_at g p).ctx ≡ true

pub same_marks : (t : Comms) → SameMarks t t
same_marks t = record { left = λ d. refl; noted = refl }

module _ (w : World) (c : Choice) (m : Move) (wide : IsWide w) (lr : c.rank < length w.ranks) where
  field_after : {A : Type 0} (f : Rank → A) (s : ℕ) → f (rank_at (after w c m) s) ≡ put c.rank (f m.state) (λ z. f (rank_at w z)) s
  field_after f s = ap f (after-rank w c m wide lr s) ∙ by (s == c.rank)
    where
      by : (b : Bool) → f (if b then m.state else rank_at w s) ≡ (if b then f m.state else f (rank_at w s))
      by true = refl
      by false = refl

  marks_of : {a b : Comms} → b ≡ a → SameMarks a b
  marks_of {a} {b} e = subst (λ (t : Comms). SameMarks a t) (sym e) (same_marks a)

  pub after_fits : (g : Registry) (line : ℕ → ℕ → List Packet) → ((a b : ℕ) → a < length w.ranks → b < length w.ranks → proper (link (after w c m) a b) ≡ proper (line a b))
      → ((s : ℕ) → s < length w.ranks → IsApart (rank_at w s).box) → FitsAt w g c.rank m.state line → Fits (after w c m) g
  after_fits g line lines apart h = record {
    messages = rw (after-count w c m wide lr) (messages_same (length w.ranks) g (put c.rank m.state.box.kept (kept_of w)) (kept_of (after w c m)) (put c.rank m.state.sends (sends_of w)) (sends_of (after w c m)) line (link (after w c m))
        (λ s ls. field_after (λ x. x.box.kept) s) (λ s ls. field_after (λ x. x.sends) s) on h.messages);
    receives = rw (after-count w c m wide lr) (receives_same (length w.ranks) g (put c.rank m.state.box.posted (posted_of w)) (posted_of (after w c m)) (put c.rank m.state.receives (rows_of w)) (rows_of (after w c m)) (put c.rank m.state.posts (posts_of w)) (posts_of (after w c m))
        (λ s ls. field_after (λ x. x.box.posted) s) (λ s k ls. ap (λ (xs : List ReceiveRow). row_of xs k) (field_after (λ x. x.receives) s)) (λ s ls. field_after (λ x. x.posts) s) h.receives);
    markers = rw (after-count w c m wide lr) (markers_same (length w.ranks) g (put c.rank m.state.comms (comms_of w)) (comms_of (after w c m)) line (link (after w c m)) (λ s. marks_of (field_after (λ x. x.comms) s)) lines h.markers);
    own = λ s ls. let l : s < length w.ranks = rw (after-count w c m wide lr) at ls in on s s l l ∙ h.own s l;
    apart = λ s ls. box s (rw (after-count w c m wide lr) at ls);
  }
    where
      on : (a b : ℕ) → a < length w.ranks → b < length w.ranks → messages_on (link (after w c m) a b) ≡ messages_on (line a b)
      on a b la lb = sym (proper_messages (link (after w c m) a b)) ∙ (ap messages_on (lines a b la lb) ∙ proper_messages (line a b))

      box : (s : ℕ) → s < length w.ranks → IsApart (rank_at (after w c m) s).box
      box s ls = subst (λ (b : Box). IsApart b) (sym (field_after (λ x. x.box) s)) (by (s == c.rank) refl)
        where
          by : (t : Bool) → (s == c.rank) ≡ t → IsApart (if t then m.state.box else (rank_at w s).box)
          by true t = h.apart
          by false t = apart s ls

-- A step that is no news: the box, the receives and the counts stay, no row is left, and only packets of the agreement move

-- put back what is there
pub put_same : {A : Type 0} (r : ℕ) (y : A) (f : ℕ → A) (s : ℕ) → y ≡ f r → put r y f s ≡ f s
put_same r y f s e = by (s == r) refl
  where
    by : (b : Bool) → (s == r) ≡ b → (if b then y else f s) ≡ f s
    by true t = let is : s ≡ r = grind (arith, nat_tests, t) in rw is e
    by false t = refl

pub record IsQuietTo (x y : Rank) : Type 0 where
  pub box : y.box ≡ x.box
  pub receives : (k : ℕ) → row_of y.receives k ≡ row_of x.receives k
  pub sends : y.sends ≡ x.sends
  pub posts : y.posts ≡ x.posts
  pub marks : SameMarks x.comms y.comms

pub quiet_fits : (w : World) (g : Registry) (r : ℕ) (x : Rank) (line : ℕ → ℕ → List Packet) → r < length w.ranks → IsQuietTo (rank_at w r) x → ((a b : ℕ) → a < length w.ranks → b < length w.ranks → proper (line a b) ≡ proper (link w a b)) → Fits w g → FitsAt w g r x line
quiet_fits w g r x line lr q lines h = record {
  messages = messages_same (length w.ranks) g (kept_of w) (put r x.box.kept (kept_of w)) (sends_of w) (put r x.sends (sends_of w)) (link w) line
      (λ s ls. put_same r x.box.kept (kept_of w) s (ap (λ (b : Box). b.kept) q.box)) (λ s ls. put_same r x.sends (sends_of w) s q.sends) on h.messages;
  receives = receives_same (length w.ranks) g (posted_of w) (put r x.box.posted (posted_of w)) (rows_of w) (put r x.receives (rows_of w)) (posts_of w) (put r x.posts (posts_of w))
      (λ s ls. put_same r x.box.posted (posted_of w) s (ap (λ (b : Box). b.posted) q.box)) (λ s k ls. rows s k (s == r) refl) (λ s ls. put_same r x.posts (posts_of w) s q.posts) h.receives;
  markers = markers_same (length w.ranks) g (comms_of w) (put r x.comms (comms_of w)) (link w) line (λ s. marks s (s == r) refl) lines h.markers;
  own = λ s ls. on s s ls ls ∙ h.own s ls;
  apart = subst (λ (b : Box). IsApart b) (sym q.box) (h.apart r lr);
}
  where
    on : (a b : ℕ) → a < length w.ranks → b < length w.ranks → messages_on (line a b) ≡ messages_on (link w a b)
    on a b la lb = sym (proper_messages (line a b)) ∙ (ap messages_on (lines a b la lb) ∙ proper_messages (link w a b))

    rows : (s k : ℕ) → (t : Bool) → (s == r) ≡ t → row_of (if t then x.receives else rows_of w s) k ≡ row_of (rows_of w s) k
    rows s k true t = let is : s ≡ r = grind (arith, nat_tests, t) in rw is (q.receives k)
    rows s k false t = refl

    marks : (s : ℕ) → (t : Bool) → (s == r) ≡ t → SameMarks (comms_of w s) (if t then x.comms else comms_of w s)
    marks s true t = let is : s ≡ r = grind (arith, nat_tests, t) in rw is q.marks
    marks s false t = same_marks (comms_of w s)

-- the registry goes on with the same messages and receives
pub steady_fits : (w : World) (g new : Registry) → Steady g new → new.messages ≡ g.messages → new.receives ≡ g.receives → ((q : ℕ) → q < length w.ranks → ((part_of new q).sends ≡ (part_of g q).sends) × ((part_of new q).receives ≡ (part_of g q).receives))
    → Fits w g → Fits w new
steady_fits w g new s ms xs counts h = record {
  messages = messages_grown (length w.ranks) g new (kept_of w) (sends_of w) (link w) (steady_grows g new s) (λ p r. steady_live g new p r s) ms (λ q lq. (counts q lq).0) h.messages;
  receives = receives_grown (length w.ranks) g new (posted_of w) (rows_of w) (posts_of w) (steady_grows g new s) (AllOf_each (WaitingFits g) (WaitingFits new) g.receives (λ x f o. steady_live g new x.comm x.rank s (f o)) h.receives.live) xs (λ q lq. (counts q lq).1) h.receives;
  markers = markers_steady (length w.ranks) g new (comms_of w) (link w) s h.markers;
  own = h.own;
  apart = h.apart;
}
