-- The messages of each sender and the receives of each rank rise in number, one thread at most is within its call, and the
-- sender of a message is a member of its communicator.
use Rattle.std.proofs.Common.{◌≡◌, ◌≢◌, ◌⊎◌, ◌≤◌, ◌<◌, ◌==◌, ℕ, zero, suc, true, List, length, get_or, set, replicate, Some, None, refl, ap, inl, inr}
use Rattle.std.specs.List.{AllByRecursion}
use Rattle.mpi_law.specs.declared.setting.TheConstants.{THREADS}
use Rattle.mpi_law.specs.Registry.State as reg
use Rattle.mpi_law.specs.Registry.State.{Registry, Communicator, Fate, Matched, Dropped, Message, Receive, Wait, Creating, RankPart, ThreadPart, idle_thread, blank_part, part_of, thread_of, creation_at, is_within_call, is_between_calls}
use Rattle.mpi_law.specs.Registry.Calls.{to_send, to_post}
use Rattle.answer_law.proofs.Lists.{set_place, at_set, past_end, all_map}
use Rattle.answer_law.proofs.Comms.{Grows}
use Rattle.answer_law.proofs.Names.{IsMember, member_grows}
use Rattle.answer_law.proofs.Numbered.{Line, line_less}

abbrev pub wait_at : RankPart → ℕ → Wait
wait_at p u = (get_or p.threads u idle_thread).wait

-- the sender of a message is a member of its communicator
abbrev pub IsSender : List Communicator → Message → Type 0
IsSender comms m = IsMember comms m.from m.comm

-- a receive has taken nothing yet
abbrev pub IsNew : Receive → Type 0
IsNew x = x.taken ≡ None

abbrev pub SendLine : List Communicator → ℕ → RankPart → List Message → Type 0
SendLine comms q p messages = Line (λ m. m.from == q) (λ m. m.number) p.sends (λ u. to_send (wait_at p u)) (IsSender comms) messages

abbrev pub PostLine : ℕ → RankPart → List Receive → Type 0
PostLine q p receives = Line (λ x. x.rank == q) (λ x. x.number) p.receives (λ u. to_post (wait_at p u)) IsNew receives

abbrev pub Alone : List RankPart → Type 0
Alone ranks = (q u p v : ℕ) → is_within_call (wait_at (get_or ranks q blank_part) u) ≡ true → is_within_call (wait_at (get_or ranks p blank_part) v) ≡ true → (q ≡ p) × (u ≡ v)

pub record Lined (g : Registry) : Type 0 where
  pub alone : Alone g.ranks
  pub sends : (q : ℕ) → SendLine g.comms q (part_of g q) g.messages
  pub posts : (q : ℕ) → PostLine q (part_of g q) g.receives
  pub senders : AllByRecursion (IsSender g.comms) g.messages

-- What a thread waits for

pub sending_is : (w : Wait) (m : Message) → to_send w ≡ Some m → w ≡ reg.Sending m
sending_is reg.Idle m e = absurd (cc (e))
sending_is (reg.Reply_now x) m e = absurd (cc (e))
sending_is (reg.Sending k) m e = let z : k ≡ m = cc (e) in ap reg.Sending z
sending_is (reg.Posting x) m e = absurd (cc (e))
sending_is (reg.Requesting x) m e = absurd (cc (e))
sending_is (Creating n) m e = absurd (cc (e))
sending_is (reg.Freeing p) m e = absurd (cc (e))
sending_is (reg.Ending z) m e = absurd (cc (e))
sending_is (reg.Receiving n) m e = absurd (cc (e))
sending_is (reg.Awaiting name) m e = absurd (cc (e))

pub posting_is : (w : Wait) (x : Receive) → to_post w ≡ Some x → (w ≡ reg.Posting x) ⊎ (w ≡ reg.Requesting x)
posting_is reg.Idle x e = absurd (cc (e))
posting_is (reg.Reply_now y) x e = absurd (cc (e))
posting_is (reg.Sending k) x e = absurd (cc (e))
posting_is (reg.Posting y) x e = let z : y ≡ x = cc (e) in inl (ap reg.Posting z)
posting_is (reg.Requesting y) x e = let z : y ≡ x = cc (e) in inr (ap reg.Requesting z)
posting_is (Creating n) x e = absurd (cc (e))
posting_is (reg.Freeing p) x e = absurd (cc (e))
posting_is (reg.Ending z) x e = absurd (cc (e))
posting_is (reg.Receiving n) x e = absurd (cc (e))
posting_is (reg.Awaiting name) x e = absurd (cc (e))

pub sending_within : (w : Wait) (m : Message) → to_send w ≡ Some m → is_within_call w ≡ true
sending_within w m e = rw (sending_is w m e) refl

pub posting_within : (w : Wait) (x : Receive) → to_post w ≡ Some x → is_within_call w ≡ true
posting_within w x e = go (posting_is w x e)
  where
    go : (w ≡ reg.Posting x) ⊎ (w ≡ reg.Requesting x) → is_within_call w ≡ true
    go (inl is) = rw is refl
    go (inr is) = rw is refl

-- Parts

pub at_replicate : {A : Type 0} (n : ℕ) (x : A) (i : ℕ) → get_or (replicate n x) i x ≡ x
at_replicate zero x i = refl
at_replicate (suc n) x zero = refl
at_replicate (suc n) x (suc i) = at_replicate n x i

pub blank_waits : (u : ℕ) → wait_at blank_part u ≡ reg.Idle
blank_waits u = ap (λ (t : ThreadPart). t.wait) (at_replicate THREADS idle_thread u)

-- a part that is out of range waits for nothing
pub outside : (ranks : List RankPart) (r t : ℕ) → length ranks ≤ r → wait_at (get_or ranks r blank_part) t ≡ reg.Idle
outside ranks r t l = rw (past_end ranks r blank_part l) (blank_waits t)

-- one thread of a part is set
pub thread_set : (old p : RankPart) (t : ℕ) (row : ThreadPart) → p.threads ≡ set old.threads t row → (u : ℕ) → ((u ≡ t) × (wait_at p u ≡ row.wait)) ⊎ ((wait_at p u ≡ wait_at old u) × (u ≡ t → wait_at old u ≡ reg.Idle))
thread_set old p t row is u = rw is (go (set_place old.threads t row idle_thread u))
  where
    go : ((u ≡ t) × (t < length old.threads) × (get_or (set old.threads t row) u idle_thread ≡ row)) ⊎ (((u ≢ t) ⊎ (length old.threads ≤ t)) × (get_or (set old.threads t row) u idle_thread ≡ get_or old.threads u idle_thread))
        → ((u ≡ t) × ((get_or (set old.threads t row) u idle_thread).wait ≡ row.wait)) ⊎ (((get_or (set old.threads t row) u idle_thread).wait ≡ wait_at old u) × (u ≡ t → wait_at old u ≡ reg.Idle))
    go (inl a) = inl (a.0, ap (λ (x : ThreadPart). x.wait) a.2)
    go (inr a) = inr (ap (λ (x : ThreadPart). x.wait) a.1, far a.0)
      where
        far : (u ≢ t) ⊎ (length old.threads ≤ t) → u ≡ t → wait_at old u ≡ reg.Idle
        far (inl ne) e = absurd (ne e)
        far (inr l) e = rw e (ap (λ (x : ThreadPart). x.wait) (past_end old.threads t idle_thread l))

-- a part that goes on with the same counts, and with nothing more to send or to post
pub record Quieter (old new : RankPart) : Type 0 where
  pub sends : new.sends ≡ old.sends
  pub receives : new.receives ≡ old.receives
  pub send : (u : ℕ) (m : Message) → to_send (wait_at new u) ≡ Some m → to_send (wait_at old u) ≡ Some m
  pub post : (u : ℕ) (x : Receive) → to_post (wait_at new u) ≡ Some x → to_post (wait_at old u) ≡ Some x
  pub within : (u : ℕ) → is_within_call (wait_at new u) ≡ true → is_within_call (wait_at old u) ≡ true

pub quieter_thread : (old p : RankPart) (t : ℕ) (row : ThreadPart) → p.threads ≡ set old.threads t row → p.sends ≡ old.sends → p.receives ≡ old.receives → to_send row.wait ≡ None → to_post row.wait ≡ None
    → (is_within_call row.wait ≡ true → is_within_call (wait_at old t) ≡ true) → Quieter old p
quieter_thread old p t row is s r none null still = record {
  sends = s;
  receives = r;
  send = λ u m. send u m (thread_set old p t row is u);
  post = λ u x. post u x (thread_set old p t row is u);
  within = λ u. within u (thread_set old p t row is u);
}
  where
    send : (u : ℕ) (m : Message) → ((u ≡ t) × (wait_at p u ≡ row.wait)) ⊎ ((wait_at p u ≡ wait_at old u) × (u ≡ t → wait_at old u ≡ reg.Idle)) → to_send (wait_at p u) ≡ Some m → to_send (wait_at old u) ≡ Some m
    send u m (inl a) e = let z = rw (a.1, none) at e in absurd (cc (z))
    send u m (inr a) e = rw a.0 at e

    post : (u : ℕ) (x : Receive) → ((u ≡ t) × (wait_at p u ≡ row.wait)) ⊎ ((wait_at p u ≡ wait_at old u) × (u ≡ t → wait_at old u ≡ reg.Idle)) → to_post (wait_at p u) ≡ Some x → to_post (wait_at old u) ≡ Some x
    post u x (inl a) e = let z = rw (a.1, null) at e in absurd (cc (z))
    post u x (inr a) e = rw a.0 at e

    within : (u : ℕ) → ((u ≡ t) × (wait_at p u ≡ row.wait)) ⊎ ((wait_at p u ≡ wait_at old u) × (u ≡ t → wait_at old u ≡ reg.Idle)) → is_within_call (wait_at p u) ≡ true → is_within_call (wait_at old u) ≡ true
    within u (inl a) e = rw a.0 (still (rw a.1 at e))
    within u (inr a) e = rw a.0 at e

module _ (g : Registry) (h : Lined g) where
  -- more communicators
  pub sends_grow : (comms : List Communicator) → Grows g.comms comms → (q : ℕ) → SendLine comms q (part_of g q) g.messages
  sends_grow comms grows q = line_less (λ (m : Message). m.from == q) (λ m. m.number) _ _ _ _ _ _ (λ u m e. e) (λ m i. member_grows g.comms comms m.from m.comm grows i) (h.sends q)

  pub senders_grow : (comms : List Communicator) → Grows g.comms comms → AllByRecursion (IsSender comms) g.messages
  senders_grow comms grows = all_map (IsSender g.comms) (IsSender comms) g.messages (λ m i. member_grows g.comms comms m.from m.comm grows i) h.senders

  module _ (r : ℕ) (p : RankPart) (quiet : Quieter (part_of g r) p) where
    pub quieter_sends : (comms : List Communicator) → Grows g.comms comms → (q : ℕ) → SendLine comms q (get_or (set g.ranks r p) q blank_part) g.messages
    quieter_sends comms grows q =
        at_set (λ (x : RankPart). SendLine comms q x g.messages) g.ranks r p blank_part q
        (λ is lt. rw (is, quiet.sends) (line_less (λ (m : Message). m.from == r) (λ m. m.number) _ _ _ _ _ _ quiet.send (λ m i. i) (sends_grow comms grows r)))
        (sends_grow comms grows q)

    pub quieter_posts : (q : ℕ) → PostLine q (get_or (set g.ranks r p) q blank_part) g.receives
    quieter_posts q =
        at_set (λ (x : RankPart). PostLine q x g.receives) g.ranks r p blank_part q
        (λ is lt. rw (is, quiet.receives) (line_less (λ (x : Receive). x.rank == r) (λ x. x.number) _ _ _ _ _ _ quiet.post (λ x i. i) (h.posts r)))
        (h.posts q)

    quieter_within : (q u : ℕ) → is_within_call (wait_at (get_or (set g.ranks r p) q blank_part) u) ≡ true → is_within_call (wait_at (part_of g q) u) ≡ true
    quieter_within q u = at_set (λ (x : RankPart). is_within_call (wait_at x u) ≡ true → is_within_call (wait_at (part_of g q) u) ≡ true) g.ranks r p blank_part q (λ is lt. rw is (quiet.within u)) (λ e. e)

    pub quieter_alone : Alone (set g.ranks r p)
    quieter_alone q u k v a b = h.alone q u k v (quieter_within q u a) (quieter_within k v b)

    pub quieter : (new : Registry) → Grows g.comms new.comms → new.messages ≡ g.messages → new.receives ≡ g.receives → new.ranks ≡ set g.ranks r p → Lined new
    quieter new grows m x is = record {
      alone = rw is quieter_alone;
      sends = rw (is, m) (quieter_sends new.comms grows);
      posts = rw (is, x) quieter_posts;
      senders = rw m (senders_grow new.comms grows);
    }
