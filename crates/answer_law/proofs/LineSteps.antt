-- Each event keeps the lines of messages and receives.
use Rattle.std.proofs.Common.{◌≡◌, ◌≢◌, ◌⊎◌, ◌≤◌, ◌<◌, ◌==◌, not, ℕ, zero, suc, ◌+◌, Bool, true, false, List, [], ◌∷◌, ◌++◌, length, get_or, set, map, Some, None, refl, sym, ap, ◌∙◌, subst, inl, inr, arith}
use Rattle.std.specs.List.{list_all}
use Rattle.std.proofs.lemmas.Bool.Decides.{nat_tests}
use Rattle.mpi_law.specs.declared.effects.Effect.{Effect}
use Rattle.mpi_law.specs.declared.effects.Effect.TheVariants.{Says, Opens, Groups, Ungroups, Joins, Frees, Ends, Sends as SendsMessage, Receives, Posts as PostsReceive, NullPosts, Completes, Awaits}
use Rattle.mpi_law.specs.Local.Objects.{Local}
use Rattle.mpi_law.specs.Registry.State as reg
use Rattle.mpi_law.specs.Registry.State.{Registry, Communicator, Fate, Matched, Dropped, Message, Receive, Wait, Creating, RankPart, ThreadPart, idle_thread, blank_part, part_of, thread_of, creation_at, is_within_call, is_between_calls, registry_opening, with_wait}
use Rattle.mpi_law.specs.Registry.Calls.{carried_out, message_of_call, receive_of_call, to_send, to_post, once_sent}
use Rattle.mpi_law.specs.Registry.Replies.{answered, idles}
use Rattle.mpi_law.specs.Registry.Events.{after_send, after_post}
use Rattle.answer_law.proofs.Lists.{set_place, at_set, all_snoc, all_changed}
use Rattle.answer_law.proofs.Comms.{Grows, grows_same}
use Rattle.answer_law.proofs.Names.{IsMember}
use Rattle.answer_law.proofs.Asks.{asks_on}
use Rattle.answer_law.proofs.Numbered.{line_changed, line_called, line_added, line_other}
use Rattle.answer_law.proofs.Lines.{wait_at, IsSender, IsNew, SendLine, PostLine, Lined, sending_is, posting_is, sending_within, posting_within, outside, thread_set, Quieter, quieter_thread, sends_grow, senders_grow, quieter_sends, quieter_posts, quieter_alone, quieter}

same_number : (a b : ℕ) → a ≡ b → (a == b) ≡ true
same_number a b e = grind (arith, nat_tests, e)

other_number : (a q r : ℕ) → (a == r) ≡ true → q ≢ r → (a == q) ≡ false
other_number a q r e ne = grind (arith, nat_tests, e, ne)

-- between calls no thread is within one
all_at : {A : Type 0} (p : A → Bool) (xs : List A) (d : A) (i : ℕ) → list_all p xs ≡ true → p d ≡ true → p (get_or xs i d) ≡ true
all_at p [] d i h k = k
all_at p (x ∷ xs) d zero h k = grind (arith, h)
all_at p (x ∷ xs) d (suc i) h k = all_at p xs d i (grind (arith, h)) k

not_within : (b : Bool) → not b ≡ true → b ≡ false
not_within true e = absurd (cc (e))
not_within false e = refl

pub calm : (g : Registry) → is_between_calls g ≡ true → (q u : ℕ) → is_within_call (wait_at (part_of g q) u) ≡ false
calm g e q u =
    let each = all_at (λ (p : RankPart). list_all (λ t. not (is_within_call t.wait)) p.threads) g.ranks blank_part q e refl in
    not_within _ (all_at (λ (t : ThreadPart). not (is_within_call t.wait)) (part_of g q).threads idle_thread u each refl)

module _ (g : Registry) (h : Lined g) where
  -- A call

  module _ (r t : ℕ) (between : is_between_calls g ≡ true) where
    none_sends : (q u : ℕ) (m : Message) → to_send (wait_at (part_of g q) u) ≡ Some m → ⊥
    none_sends q u m e = let a = calm g between q u in let b = sending_within _ m e in cc (a, b)

    none_posts : (q u : ℕ) (x : Receive) → to_post (wait_at (part_of g q) u) ≡ Some x → ⊥
    none_posts q u x e = let a = calm g between q u in let b = posting_within _ x e in cc (a, b)

    module _ (new : Registry) (p : RankPart) (row : ThreadPart) (is : p.threads ≡ set (part_of g r).threads t row) where
      -- what is within a call is this thread
      only : (q u : ℕ) → is_within_call (wait_at (get_or (set g.ranks r p) q blank_part) u) ≡ true → (q ≡ r) × (u ≡ t)
      only q u = go (set_place g.ranks r p blank_part q)
        where
          here : q ≡ r → ((u ≡ t) × (wait_at p u ≡ row.wait)) ⊎ ((wait_at p u ≡ wait_at (part_of g r) u) × (u ≡ t → wait_at (part_of g r) u ≡ reg.Idle)) → is_within_call (wait_at p u) ≡ true → (q ≡ r) × (u ≡ t)
          here e (inl a) w = (e, a.0)
          here e (inr a) w = let no = calm g between r u in let z = rw a.0 at w in absurd (cc (no, z))

          go : ((q ≡ r) × (r < length g.ranks) × (get_or (set g.ranks r p) q blank_part ≡ p)) ⊎ (((q ≢ r) ⊎ (length g.ranks ≤ r)) × (get_or (set g.ranks r p) q blank_part ≡ part_of g q)) → is_within_call (wait_at (get_or (set g.ranks r p) q blank_part) u) ≡ true → (q ≡ r) × (u ≡ t)
          go (inl a) w = here a.0 (thread_set (part_of g r) p t row is u) (rw a.2 at w)
          go (inr a) w = let no = calm g between q u in let z = rw a.1 at w in absurd (cc (no, z))

      -- the call sends at most the next message, and posts at most the next receive
      module _ (grows : Grows g.comms new.comms)
          (more_sends : (part_of g r).sends ≤ p.sends) (sent : (m : Message) → to_send row.wait ≡ Some m → (m.from ≡ r) × (m.number ≡ p.sends) × ((part_of g r).sends < p.sends) × IsSender new.comms m)
          (more_posts : (part_of g r).receives ≤ p.receives) (posted : (x : Receive) → to_post row.wait ≡ Some x → (x.rank ≡ r) × (x.number ≡ p.receives) × ((part_of g r).receives < p.receives) × IsNew x) where
        sends_here : SendLine new.comms r p g.messages
        sends_here = line_called (λ (m : Message). m.from == r) (λ m. m.number) _ _ _ _ _ _ more_sends (λ u m. go u m (thread_set (part_of g r) p t row is u)) (sends_grow g h new.comms grows r)
          where
            go : (u : ℕ) (m : Message) → ((u ≡ t) × (wait_at p u ≡ row.wait)) ⊎ ((wait_at p u ≡ wait_at (part_of g r) u) × (u ≡ t → wait_at (part_of g r) u ≡ reg.Idle)) → to_send (wait_at p u) ≡ Some m
                → ((m.from == r) ≡ true) × (m.number ≡ p.sends) × ((part_of g r).sends < p.sends) × IsSender new.comms m
            go u m (inl a) e = let k = sent m (rw a.1 at e) in (same_number m.from r k.0, k.1, k.2, k.3)
            go u m (inr a) e = absurd (none_sends r u m (rw a.0 at e))

        posts_here : PostLine r p g.receives
        posts_here = line_called (λ (x : Receive). x.rank == r) (λ x. x.number) _ _ _ _ _ _ more_posts (λ u x. go u x (thread_set (part_of g r) p t row is u)) (h.posts r)
          where
            go : (u : ℕ) (x : Receive) → ((u ≡ t) × (wait_at p u ≡ row.wait)) ⊎ ((wait_at p u ≡ wait_at (part_of g r) u) × (u ≡ t → wait_at (part_of g r) u ≡ reg.Idle)) → to_post (wait_at p u) ≡ Some x
                → ((x.rank == r) ≡ true) × (x.number ≡ p.receives) × ((part_of g r).receives < p.receives) × IsNew x
            go u x (inl a) e = let k = posted x (rw a.1 at e) in (same_number x.rank r k.0, k.1, k.2, k.3)
            go u x (inr a) e = absurd (none_posts r u x (rw a.0 at e))

        calling : new.messages ≡ g.messages → new.receives ≡ g.receives → new.ranks ≡ set g.ranks r p → Lined new
        calling e f ranks = record {
          alone = rw ranks (λ q u k v a b. one q u k v (only q u a) (only k v b));
          sends = λ q. rw (e, ranks) (at_set (λ (x : RankPart). SendLine new.comms q x g.messages) g.ranks r p blank_part q (λ i lt. rw i sends_here) (sends_grow g h new.comms grows q));
          posts = λ q. rw (f, ranks) (at_set (λ (x : RankPart). PostLine q x g.receives) g.ranks r p blank_part q (λ i lt. rw i posts_here) (h.posts q));
          senders = rw e (senders_grow g h new.comms grows);
        }
          where
            one : (q u k v : ℕ) → (q ≡ r) × (u ≡ t) → (k ≡ r) × (v ≡ t) → (q ≡ k) × (u ≡ v)
            one q u k v a b = (a.0 ∙ sym b.0, a.1 ∙ sym b.1)

    -- one that neither sends nor posts
    plain : (new : Registry) (p : RankPart) (row : ThreadPart) → Grows g.comms new.comms → new.messages ≡ g.messages → new.receives ≡ g.receives → new.ranks ≡ set g.ranks r p → p.threads ≡ set (part_of g r).threads t row
        → p.sends ≡ (part_of g r).sends → p.receives ≡ (part_of g r).receives → to_send row.wait ≡ None → to_post row.wait ≡ None → Lined new
    plain new p row grows e f ranks is s x none null =
        calling new p row is grows (omega (arith, s)) (λ m i. (let z = rw none at i in absurd (cc (z)))) (omega (arith, x)) (λ y i. (let z = rw null at i in absurd (cc (z)))) e f ranks

    pub called : (l : Local) (e : Effect ℕ) → Grows g.comms (carried_out g r t l e).comms → ((p : ℕ) → asks_on e ≡ Some p → IsMember (carried_out g r t l e).comms r p) → Lined (carried_out g r t l e)
    called l (Says said) grows k = plain _ _ _ grows refl refl refl refl refl refl refl refl
    called l (Opens target) grows k = plain _ _ _ grows refl refl refl refl refl refl refl refl
    called l (Groups target members session) grows k = plain _ _ _ grows refl refl refl refl refl refl refl refl
    called l (Ungroups name) grows k = plain _ _ _ grows refl refl refl refl refl refl refl refl
    called l (Joins a) grows k = plain _ _ _ grows refl refl refl refl refl refl refl refl
    called l (Frees name p) grows k = plain _ _ _ grows refl refl refl refl refl refl refl refl
    called l (Ends name s) grows k = plain _ _ _ grows refl refl refl refl refl refl refl refl
    called l (SendsMessage m) grows k =
        calling _ _ _ refl grows (omega arith) (λ y e. go y e) (omega arith) (λ y e. absurd (cc (e))) refl refl refl
      where
        go : (y : Message) → to_send (reg.Sending (message_of_call g r m)) ≡ Some y → (y.from ≡ r) × (y.number ≡ (part_of g r).sends + 1) × ((part_of g r).sends < (part_of g r).sends + 1) × IsSender g.comms y
        go y e =
            let is : message_of_call g r m ≡ y = cc (e) in
            subst (λ (z : Message). (z.from ≡ r) × (z.number ≡ (part_of g r).sends + 1) × ((part_of g r).sends < (part_of g r).sends + 1) × IsSender g.comms z) is (refl, refl, omega arith, k m.comm refl)
    called l (Receives x) grows k =
        calling _ _ _ refl grows (omega arith) (λ y e. absurd (cc (e))) (omega arith) (λ y e. go y e) refl refl refl
      where
        go : (y : Receive) → to_post (reg.Posting (receive_of_call g r x)) ≡ Some y → (y.rank ≡ r) × (y.number ≡ (part_of g r).receives + 1) × ((part_of g r).receives < (part_of g r).receives + 1) × IsNew y
        go y e =
            let is : receive_of_call g r x ≡ y = cc (e) in
            subst (λ (z : Receive). (z.rank ≡ r) × (z.number ≡ (part_of g r).receives + 1) × ((part_of g r).receives < (part_of g r).receives + 1) × IsNew z) is (refl, refl, omega arith, refl)
    called l (PostsReceive target x) grows k =
        calling _ _ _ refl grows (omega arith) (λ y e. absurd (cc (e))) (omega arith) (λ y e. go y e) refl refl refl
      where
        go : (y : Receive) → to_post (reg.Requesting (receive_of_call g r x)) ≡ Some y → (y.rank ≡ r) × (y.number ≡ (part_of g r).receives + 1) × ((part_of g r).receives < (part_of g r).receives + 1) × IsNew y
        go y e =
            let is : receive_of_call g r x ≡ y = cc (e) in
            subst (λ (z : Receive). (z.rank ≡ r) × (z.number ≡ (part_of g r).receives + 1) × ((part_of g r).receives < (part_of g r).receives + 1) × IsNew z) is (refl, refl, omega arith, refl)
    called l (NullPosts target) grows k = plain _ _ _ grows refl refl refl refl refl refl refl refl
    called l (Completes name number) grows k = plain _ _ _ grows refl refl refl refl refl refl refl refl
    called l (Awaits name) grows k = plain _ _ _ grows refl refl refl refl refl refl refl refl

  -- Within a call

  module _ (r t : ℕ) where
    abbrev w : Wait
    w = wait_at (part_of g r) t

    abbrev done : RankPart
    done = with_wait (part_of g r) t (once_sent w)

    -- the rest of the rank
    goes_quiet : to_send (once_sent w) ≡ None → to_post (once_sent w) ≡ None → is_within_call w ≡ true → Quieter (part_of g r) done
    goes_quiet none null there = quieter_thread (part_of g r) done t _ refl refl refl none null (λ z. there)

    -- nothing else was to be sent, or to be posted
    no_other : is_within_call w ≡ true → to_send (once_sent w) ≡ None → to_post (once_sent w) ≡ None → (u : ℕ)
        → ((m : Message) → to_send (wait_at done u) ≡ Some m → ⊥) × ((x : Receive) → to_post (wait_at done u) ≡ Some x → ⊥)
    no_other there none null u = go (thread_set (part_of g r) done t _ refl u)
      where
        clash : is_within_call (wait_at (part_of g r) u) ≡ true → (u ≡ t → wait_at (part_of g r) u ≡ reg.Idle) → ⊥
        clash here idle =
            let same = h.alone r u r t here there in
            let z = rw (idle same.1) at here in
            cc (z)

        go : ((u ≡ t) × (wait_at done u ≡ once_sent w)) ⊎ ((wait_at done u ≡ wait_at (part_of g r) u) × (u ≡ t → wait_at (part_of g r) u ≡ reg.Idle))
            → ((m : Message) → to_send (wait_at done u) ≡ Some m → ⊥) × ((x : Receive) → to_post (wait_at done u) ≡ Some x → ⊥)
        go (inl a) = (λ m e. (let z = rw (a.1, none) at e in cc (z)), λ x e. (let z = rw (a.1, null) at e in cc (z)))
        go (inr a) = (λ m e. clash (sending_within _ m (rw a.0 at e)) a.1, λ x e. clash (posting_within _ x (rw a.0 at e)) a.1)

    pub sent : (m : Message) → to_send w ≡ Some m → Lined (after_send g r t (Some m))
    sent m e = record {
      alone = quieter_alone g h r done quiet;
      sends = λ q. each q (set_place g.ranks r done blank_part q);
      posts = quieter_posts g h r done quiet;
      senders = all_snoc (IsSender g.comms) g.messages m h.senders ((h.sends r).good_next t m e);
    }
      where
        is : w ≡ reg.Sending m
        is = sending_is w m e

        none : to_send (once_sent w) ≡ None
        none = rw is refl

        null : to_post (once_sent w) ≡ None
        null = rw is refl

        quiet : Quieter (part_of g r) done
        quiet = goes_quiet none null (sending_within w m e)

        mine : (m.from == r) ≡ true
        mine = (h.sends r).mine_next t m e

        each : (q : ℕ) → ((q ≡ r) × (r < length g.ranks) × (get_or (set g.ranks r done) q blank_part ≡ done)) ⊎ (((q ≢ r) ⊎ (length g.ranks ≤ r)) × (get_or (set g.ranks r done) q blank_part ≡ part_of g q)) → SendLine g.comms q (get_or (set g.ranks r done) q blank_part) (g.messages ++ m ∷ [])
        each q (inl a) = rw (a.2, a.0) (line_added (λ (x : Message). x.from == r) (λ x. x.number) _ _ _ _ _ t m e (λ v z f. (no_other (sending_within w m e) none null v).0 z f) (h.sends r))
        each q (inr a) = rw a.1 (far a.0)
          where
            far : (q ≢ r) ⊎ (length g.ranks ≤ r) → SendLine g.comms q (part_of g q) (g.messages ++ m ∷ [])
            far (inl ne) = line_other (λ (x : Message). x.from == q) (λ x. x.number) _ _ _ _ m (other_number m.from q r mine ne) (h.sends q)
            far (inr l) = let z = rw (outside g.ranks r t l) at e in absurd (cc (z))

    pub posted : (x : Receive) → to_post w ≡ Some x → Lined (after_post g r t (Some x))
    posted x e = record {
      alone = quieter_alone g h r done quiet;
      sends = quieter_sends g h r done quiet g.comms (grows_same g.comms);
      posts = λ q. each q (set_place g.ranks r done blank_part q);
      senders = h.senders;
    }
      where
        both : (to_send (once_sent w) ≡ None) × (to_post (once_sent w) ≡ None)
        both = go (posting_is w x e)
          where
            go : (w ≡ reg.Posting x) ⊎ (w ≡ reg.Requesting x) → (to_send (once_sent w) ≡ None) × (to_post (once_sent w) ≡ None)
            go (inl is) = rw is (refl, refl)
            go (inr is) = rw is (refl, refl)

        quiet : Quieter (part_of g r) done
        quiet = goes_quiet both.0 both.1 (posting_within w x e)

        mine : (x.rank == r) ≡ true
        mine = (h.posts r).mine_next t x e

        each : (q : ℕ) → ((q ≡ r) × (r < length g.ranks) × (get_or (set g.ranks r done) q blank_part ≡ done)) ⊎ (((q ≢ r) ⊎ (length g.ranks ≤ r)) × (get_or (set g.ranks r done) q blank_part ≡ part_of g q)) → PostLine q (get_or (set g.ranks r done) q blank_part) (g.receives ++ x ∷ [])
        each q (inl a) = rw (a.2, a.0) (line_added (λ (y : Receive). y.rank == r) (λ y. y.number) _ _ _ _ _ t x e (λ v z f. (no_other (posting_within w x e) both.0 both.1 v).1 z f) (h.posts r))
        each q (inr a) = rw a.1 (far a.0)
          where
            far : (q ≢ r) ⊎ (length g.ranks ≤ r) → PostLine q (part_of g q) (g.receives ++ x ∷ [])
            far (inl ne) = line_other (λ (y : Receive). y.rank == q) (λ y. y.number) _ _ _ _ x (other_number x.rank q r mine ne) (h.posts q)
            far (inr l) = let z = rw (outside g.ranks r t l) at e in absurd (cc (z))

  -- A reply

  pub idled : (r t : ℕ) → Lined (idles g r t)
  idled r t = quieter g h r _ (quieter_thread (part_of g r) _ t _ refl refl refl refl refl (λ e. absurd (cc (e)))) (idles g r t) (grows_same g.comms) refl refl refl

  pub answering : (r n : ℕ) → Lined (answered g r n (creation_at g n))
  answering r n = quieter g h r _ (record { sends = refl; receives = refl; send = λ u m e. e; post = λ u x e. e; within = λ u e. e }) (answered g r n (creation_at g n)) (grows_same g.comms) refl refl refl

  -- Messages and receives change, but for their numbers
  pub changed : (new : Registry) (f : Message → Message) (k : Receive → Receive) → Grows g.comms new.comms → ((m : Message) → ((f m).from ≡ m.from) × ((f m).number ≡ m.number) × ((f m).comm ≡ m.comm)) → ((x : Receive) → ((k x).rank ≡ x.rank) × ((k x).number ≡ x.number))
      → new.ranks ≡ g.ranks → new.messages ≡ map f g.messages → new.receives ≡ map k g.receives → Lined new
  changed new f k grows keep hold ranks e d = record {
    alone = rw ranks h.alone;
    sends = λ q. rw (ranks, e) (line_changed (λ (m : Message). m.from == q) (λ m. m.number) _ _ _ f g.messages (λ m. ap (λ (i : ℕ). i == q) (keep m).0) (λ m. (keep m).1) (sends_grow g h new.comms grows q));
    posts = λ q. rw (ranks, d) (line_changed (λ (x : Receive). x.rank == q) (λ x. x.number) _ _ _ k g.receives (λ x. ap (λ (i : ℕ). i == q) (hold x).0) (λ x. (hold x).1) (h.posts q));
    senders = rw e (all_changed (IsSender new.comms) f g.messages (λ m i. sender m i) (senders_grow g h new.comms grows));
  }
    where
      sender : (m : Message) → IsSender new.comms m → IsSender new.comms (f m)
      sender m i = rw ((keep m).0, (keep m).2) i

  -- only communicators are new
  pub steady : (new : Registry) → Grows g.comms new.comms → new.ranks ≡ g.ranks → new.messages ≡ g.messages → new.receives ≡ g.receives → Lined new
  steady new grows ranks e d = record { alone = rw ranks h.alone; sends = λ q. rw (ranks, e) (sends_grow g h new.comms grows q); posts = λ q. rw (ranks, d) (h.posts q); senders = rw e (senders_grow g h new.comms grows) }
