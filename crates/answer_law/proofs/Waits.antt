-- What an event does to what a thread waits for.
use Rattle.std.proofs.Common.{◌≡◌, ◌≢◌, ◌⊎◌, ◌≤◌, ◌<◌, ◌==◌, ◌&&◌, ℕ, Bool, true, false, length, get_or, set, Option, Some, None, refl, sym, ap, ◌∙◌, subst, inl, inr, arith}
use Rattle.std.proofs.lemmas.Bool.Decides.{nat_tests}
use Rattle.mpi_base.specs.declared.ops.Op.{Op}
use Rattle.mpi_law.specs.declared.setting.Setting.{Setting}
use Rattle.mpi_law.specs.declared.effects.Asked.{Asked}
use Rattle.mpi_law.specs.declared.effects.Sending.{Sending}
use Rattle.mpi_law.specs.declared.effects.Receiving.{Receiving}
use Rattle.mpi_law.specs.declared.effects.Effect.{Effect}
use Rattle.mpi_law.specs.declared.effects.Effect.TheVariants.{Says, Opens, Groups, Ungroups, Joins, Frees, Ends, Sends as SendsMessage, Receives, Posts as PostsReceive, NullPosts, Completes, Awaits}
use Rattle.mpi_law.specs.Local.Objects.{Local}
use Rattle.mpi_law.specs.Local.Effects.{is_said}
use Rattle.mpi_law.specs.Registry.State as reg
use Rattle.mpi_law.specs.Registry.State.{Registry, created_by, Caller, Creation, CreationName, Message, Receive, Wait, Creating, RankPart, ThreadPart, blank_part, blank_creation, part_of, thread_of, creation_at, registry_opening}
use Rattle.mpi_law.specs.Registry.Creations.{is_joinable, place_where, name_of, group_of, share_in, join}
use Rattle.mpi_law.specs.Registry.Contexts.{comm_of}
use Rattle.mpi_law.specs.Registry.Calls.{effect_at, message_of_call, receive_of_call, carried_out, to_send, to_post, once_sent}
use Rattle.mpi_law.specs.Registry.Replies.{answers, answered, idles}
use Rattle.mpi_law.specs.Registry.Events.{Event, Calls, Sends, Posts, Picks, Matches, Backs, Replies, registry_next, after_send, after_post, give_back}
use Rattle.mpi_law.specs.Registry.Runs.{Allowed}
use Rattle.answer_law.specs.Answers.{is_call_of}
use Rattle.answer_law.specs.Receipts.{asks_to_post}
use Rattle.answer_law.proofs.Lists.{set_place, at_set}
use Rattle.answer_law.proofs.Lines.{wait_at, outside, thread_set, sending_is, posting_is}

-- What an event does to a thread

module _ (s : Setting) (g : Registry) (r t : ℕ) where
  abbrev wait : Wait
  wait = wait_at (part_of g r) t

  -- it waits for no creation, and has nothing to send or to post
  abbrev pub Rests : Wait → Type 0
  Rests w = (created_by w ≡ None) × (to_send w ≡ None) × (to_post w ≡ None)

  -- a thread waits on, and does not call; it rests; or it has joined a creation, or is to send or to post what it has called
  pub data WaitChange (e : Event) (new : Registry) : Type 0 where
    stays : wait_at (part_of new r) t ≡ wait → is_call_of r t e ≡ false → WaitChange e new
    rests : Rests (wait_at (part_of new r) t) → WaitChange e new
    joined : (op : Op) (a : Asked ℕ) (k : Caller) → e ≡ Calls r t op false → effect_at s g r op ≡ Joins a → wait_at (part_of new r) t ≡ Creating (place_where (is_joinable (name_of g.creations r a.origin)) g.creations)
        → new.creations ≡ join g.creations (name_of g.creations r a.origin) (group_of g a.origin) k → k.rank ≡ r → WaitChange e new
    sends : (op : Op) (m : Sending ℕ) → e ≡ Calls r t op true → effect_at s g r op ≡ SendsMessage m → wait_at (part_of new r) t ≡ reg.Sending (message_of_call g r m) → WaitChange e new
    posts : (op : Op) (now : Bool) (x : Receiving ℕ) → e ≡ Calls r t op now → asks_to_post (effect_at s g r op) ≡ Some x → created_by (wait_at (part_of new r) t) ≡ None → to_send (wait_at (part_of new r) t) ≡ None → to_post (wait_at (part_of new r) t) ≡ Some (receive_of_call g r x) → WaitChange e new

  idle_rests : (w : Wait) → w ≡ reg.Idle → Rests w
  idle_rests w e = rw e (refl, refl, refl)

  -- one thread is set: it is this one, or this one stays
  after_set : (q u : ℕ) (p : RankPart) (x : ThreadPart) → p.threads ≡ set (part_of g q).threads u x
      → ((r ≡ q) × (t ≡ u) × (wait_at (get_or (set g.ranks q p) r blank_part) t ≡ x.wait)) ⊎ ((wait_at (get_or (set g.ranks q p) r blank_part) t ≡ wait) × (r ≡ q → t ≡ u → wait ≡ reg.Idle))
  after_set q u p x is = go (set_place g.ranks q p blank_part r)
    where
      here : r ≡ q → ((t ≡ u) × (wait_at p t ≡ x.wait)) ⊎ ((wait_at p t ≡ wait_at (part_of g q) t) × (t ≡ u → wait_at (part_of g q) t ≡ reg.Idle)) → ((r ≡ q) × (t ≡ u) × (wait_at p t ≡ x.wait)) ⊎ ((wait_at p t ≡ wait) × (r ≡ q → t ≡ u → wait ≡ reg.Idle))
      here e (inl a) = inl (e, a.0, a.1)
      here e (inr a) = inr (rw e a.0, λ z v. rw e (a.1 v))

      far : (r ≢ q) ⊎ (length g.ranks ≤ q) → r ≡ q → t ≡ u → wait ≡ reg.Idle
      far (inl ne) e v = absurd (ne e)
      far (inr l) e v = rw e (outside g.ranks q t l)

      go : ((r ≡ q) × (q < length g.ranks) × (get_or (set g.ranks q p) r blank_part ≡ p)) ⊎ (((r ≢ q) ⊎ (length g.ranks ≤ q)) × (get_or (set g.ranks q p) r blank_part ≡ part_of g r))
          → ((r ≡ q) × (t ≡ u) × (wait_at (get_or (set g.ranks q p) r blank_part) t ≡ x.wait)) ⊎ ((wait_at (get_or (set g.ranks q p) r blank_part) t ≡ wait) × (r ≡ q → t ≡ u → wait ≡ reg.Idle))
      go (inl a) = rw a.2 (here a.0 (thread_set (part_of g q) p u x is t))
      go (inr a) = rw a.1 (inr (refl, far a.0))

  -- no call
  set_quiet : (e : Event) (new : Registry) (q u : ℕ) (p : RankPart) (x : ThreadPart) → is_call_of r t e ≡ false → new.ranks ≡ set g.ranks q p → p.threads ≡ set (part_of g q).threads u x → Rests x.wait → WaitChange e new
  set_quiet e new q u p x none ranks is free = go (after_set q u p x is)
    where
      go : ((r ≡ q) × (t ≡ u) × (wait_at (get_or (set g.ranks q p) r blank_part) t ≡ x.wait)) ⊎ ((wait_at (get_or (set g.ranks q p) r blank_part) t ≡ wait) × (r ≡ q → t ≡ u → wait ≡ reg.Idle)) → WaitChange e new
      go (inl a) = rests (rw (ranks, a.2) free)
      go (inr a) = stays (rw ranks a.0) none

  -- a call of a thread
  module _ (q u : ℕ) (op : Op) (now : Bool) (new : Registry) (p : RankPart) (x : ThreadPart) (ranks : new.ranks ≡ set g.ranks q p) (is : p.threads ≡ set (part_of g q).threads u x) where
    set_call : (r ≡ q → t ≡ u → wait_at (part_of new r) t ≡ x.wait → WaitChange (Calls q u op now) new) → WaitChange (Calls q u op now) new
    set_call here = go (after_set q u p x is)
      where
        other : (b : Bool) → ((q == r) && (u == t)) ≡ b → wait_at (get_or (set g.ranks q p) r blank_part) t ≡ wait → (r ≡ q → t ≡ u → wait ≡ reg.Idle) → WaitChange (Calls q u op now) new
        other true e keep idle =
            let one : r ≡ q = grind (arith, nat_tests, e) in
            let two : t ≡ u = grind (arith, nat_tests, e) in
            rests (rw ranks (idle_rests _ (keep ∙ idle one two)))
        other false e keep idle = stays (rw ranks keep) e

        go : ((r ≡ q) × (t ≡ u) × (wait_at (get_or (set g.ranks q p) r blank_part) t ≡ x.wait)) ⊎ ((wait_at (get_or (set g.ranks q p) r blank_part) t ≡ wait) × (r ≡ q → t ≡ u → wait ≡ reg.Idle)) → WaitChange (Calls q u op now) new
        go (inl a) = here a.0 a.1 (rw ranks a.2)
        go (inr a) = other ((q == r) && (u == t)) refl a.0 a.1

    set_plain : Rests x.wait → WaitChange (Calls q u op now) new
    set_plain free = set_call (λ a b e. rests (rw e free))

    set_post : (y : Receiving ℕ) → asks_to_post (effect_at s g q op) ≡ Some y → created_by x.wait ≡ None → to_send x.wait ≡ None → to_post x.wait ≡ Some (receive_of_call g q y) → WaitChange (Calls q u op now) new
    set_post y asks none null due =
        set_call (λ one two e. posts op now y (rw (one, two) refl) (subst (λ (i : ℕ). asks_to_post (effect_at s g i op) ≡ Some y) (sym one) asks) (rw e none) (rw e null)
        (rw e (due ∙ ap (λ (i : ℕ). Some (receive_of_call g i y)) (sym one))))

  called : (q u : ℕ) (op : Op) (now : Bool) (l : Local) (e : Effect ℕ) → effect_at s g q op ≡ e → now ≡ is_said e → WaitChange (Calls q u op now) (carried_out g q u l e)
  called q u op now l (Joins a) is said =
      set_call q u op now (carried_out g q u l (Joins a)) _ _ refl refl (λ one two e. joined op a caller (rw (one, two, said) refl) (subst (λ (i : ℕ). effect_at s g i op ≡ Joins a) (sym one) is)
      (e ∙ ap (λ (i : ℕ). Creating (place_where (is_joinable (name_of g.creations i a.origin)) g.creations)) (sym one))
      (ap (λ (i : ℕ). join g.creations (name_of g.creations i a.origin) (group_of g a.origin) caller) (sym one)) (sym one))
    where
      caller : Caller
      caller = record { rank = q; thread = u; target = a.target; session = a.session; share = share_in a.origin }
  called q u op now l (Says x) is said = set_plain q u op now _ _ _ refl refl (refl, refl, refl)
  called q u op now l (Opens target) is said = set_plain q u op now _ _ _ refl refl (refl, refl, refl)
  called q u op now l (Groups target members session) is said = set_plain q u op now _ _ _ refl refl (refl, refl, refl)
  called q u op now l (Ungroups name) is said = set_plain q u op now _ _ _ refl refl (refl, refl, refl)
  called q u op now l (Frees name p) is said = set_plain q u op now _ _ _ refl refl (refl, refl, refl)
  called q u op now l (Ends name z) is said = set_plain q u op now _ _ _ refl refl (refl, refl, refl)
  called q u op now l (SendsMessage m) is said =
      set_call q u op now _ _ _ refl refl (λ one two e. sends op m (rw (one, two, said) refl) (subst (λ (i : ℕ). effect_at s g i op ≡ SendsMessage m) (sym one) is) (e ∙ ap (λ (i : ℕ). reg.Sending (message_of_call g i m)) (sym one)))
  called q u op now l (Receives x) is said = set_post q u op now _ _ _ refl refl x (ap asks_to_post is) refl refl refl
  called q u op now l (PostsReceive target x) is said = set_post q u op now _ _ _ refl refl x (ap asks_to_post is) refl refl refl
  called q u op now l (NullPosts target) is said = set_plain q u op now _ _ _ refl refl (refl, refl, refl)
  called q u op now l (Completes name number) is said = set_plain q u op now _ _ _ refl refl (refl, refl, refl)
  called q u op now l (Awaits name) is said = set_plain q u op now _ _ _ refl refl (refl, refl, refl)

module _ (s : Setting) (g : Registry) (r t : ℕ) where
  pub wait_change : (e : Event) → Allowed s g e → WaitChange s g r t e (registry_next s g e)
  unfolding registry_next
  wait_change (Calls q u op now) a = called s g r t q u op now _ (effect_at s g q op) refl a.reply
  wait_change (Sends q u) a = go (to_send (thread_of g q u).wait) refl
    where
      go : (o : Option Message) → to_send (thread_of g q u).wait ≡ o → WaitChange s g r t (Sends q u) (after_send g q u o)
      go None e = stays refl refl
      go (Some m) e = set_quiet s g r t (Sends q u) _ q u _ _ refl refl refl (let w = sending_is (thread_of g q u).wait m e in rw w (refl, refl, refl))
  wait_change (Posts q u) a = go (to_post (thread_of g q u).wait) refl
    where
      go : (o : Option Receive) → to_post (thread_of g q u).wait ≡ o → WaitChange s g r t (Posts q u) (after_post g q u o)
      go None e = stays refl refl
      go (Some x) e = set_quiet s g r t (Posts q u) _ q u _ _ refl refl refl (free (posting_is (thread_of g q u).wait x e))
        where
          free : ((thread_of g q u).wait ≡ reg.Posting x) ⊎ ((thread_of g q u).wait ≡ reg.Requesting x) → Rests s g r t (once_sent (thread_of g q u).wait)
          free (inl w) = rw w (refl, refl, refl)
          free (inr w) = rw w (refl, refl, refl)
  wait_change (Picks q key None) a = stays refl refl
  wait_change (Picks q key (Some c)) a = stays refl refl
  wait_change (Matches q number from sent) a = stays refl refl
  wait_change (Backs q c dropped) a = go (comm_of g.comms q c)
    where
      go : (o : Option ℕ) → WaitChange s g r t (Backs q c dropped) (give_back g q o)
      go None = stays refl refl
      go (Some p) = stays refl refl
  wait_change (Replies q u said) a = go (thread_of g q u).wait
    where
      idle : (mid : Registry) → wait_at (part_of mid r) t ≡ wait_at (part_of g r) t → WaitChange s g r t (Replies q u said) (idles mid q u)
      idle mid keep = at (after_set s mid r t q u _ _ refl)
        where
          at : ((r ≡ q) × (t ≡ u) × (wait_at (part_of (idles mid q u) r) t ≡ reg.Idle)) ⊎ ((wait_at (part_of (idles mid q u) r) t ≡ wait_at (part_of mid r) t) × (r ≡ q → t ≡ u → wait_at (part_of mid r) t ≡ reg.Idle)) → WaitChange s g r t (Replies q u said) (idles mid q u)
          at (inl b) = rests (idle_rests s g r t _ b.2)
          at (inr b) = stays (b.0 ∙ keep) refl

      go : (w : Wait) → WaitChange s g r t (Replies q u said) (idles (answers g q w) q u)
      go reg.Idle = idle g refl
      go (reg.Reply_now x) = idle g refl
      go (reg.Sending m) = idle g refl
      go (reg.Posting x) = idle g refl
      go (reg.Requesting x) = idle g refl
      go (Creating n) = idle (answered g q n (creation_at g n)) (at_set (λ (x : RankPart). wait_at x t ≡ wait_at (part_of g r) t) g.ranks q _ blank_part r (λ is lt. rw is refl) refl)
      go (reg.Freeing p) = idle g refl
      go (reg.Ending z) = idle g refl
      go (reg.Receiving n) = idle g refl
      go (reg.Awaiting name) = idle g refl
