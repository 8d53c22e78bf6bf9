-- Each event keeps the lines of messages and receives, and what a receive has taken it took by a match.
use Rattle.std.proofs.Common.{◌≡◌, if◌then◌else◌, ℕ, Bool, true, false, List, [], ◌∷◌, ◌++◌, get_or, map, option_map, Option, Some, None, refl, sym, ap, ◌∙◌, subst, arith, append_assoc}
use Rattle.std.specs.Option.{option_or}
use Rattle.std.proofs.lemmas.Bool.Decides.{nat_tests}
use Rattle.std.proofs.lemmas.List.Folds.{find-append}
use Rattle.mpi_law.specs.declared.setting.Setting.{Setting}
use Rattle.mpi_law.specs.declared.effects.Effect.{Effect}
use Rattle.mpi_law.specs.declared.effects.Effect.TheVariants.{Says, Opens, Groups, Ungroups, Joins, Frees, Ends, Sends as SendsMessage, Receives, Posts as PostsReceive, NullPosts, Completes, Awaits}
use Rattle.mpi_law.specs.Local.Objects.{Local}
use Rattle.mpi_law.specs.Registry.State as reg
use Rattle.mpi_law.specs.Registry.State.{Registry, Communicator, Matched, Dropped, Message, Receive, Wait, Creating, blank_part, part_of, thread_of, creation_at, is_within_call, registry_opening}
use Rattle.mpi_law.specs.Registry.Contexts.{comm_of}
use Rattle.mpi_law.specs.Registry.Messages.{is_receive, is_message, receive_of, message_of, may_match, with_fate, taking, is_left_on}
use Rattle.mpi_law.specs.Registry.Calls.{effect_at, around, carried_out, to_send, to_post}
use Rattle.mpi_law.specs.Registry.Replies.{answers, answered, idles}
use Rattle.mpi_law.specs.Registry.Events.{Event, Calls, Sends, Posts, Picks, Matches, Backs, Replies, registry_next, after_send, after_post, give_back}
use Rattle.mpi_law.specs.Registry.Runs.{Allowed, MayMatch}
use Rattle.answer_law.specs.Answers.{IsRun, registry_at}
use Rattle.answer_law.proofs.Lists.{found_passes, found_changed}
use Rattle.answer_law.proofs.Comms.{Grows, grows_same}
use Rattle.answer_law.proofs.Names.{IsMember, member_grows, Named, known_bound}
use Rattle.answer_law.proofs.Asks.{asks_on, asked}
use Rattle.answer_law.proofs.Changes.{comms_grow}
use Rattle.answer_law.proofs.Sound.{blank_at, Sound, sound_next, sound_opening}
use Rattle.answer_law.proofs.Runs.{along}
use Rattle.answer_law.proofs.Lines.{wait_at, Lined, blank_waits}
use Rattle.answer_law.proofs.LineSteps.{called, sent as message_added, posted as receive_added, idled, answering, changed, steady}

map_same : {A : Type 0} (xs : List A) → xs ≡ map (λ x. x) xs
map_same [] = refl
map_same (x ∷ xs) = ap (λ (ys : List _). x ∷ ys) (map_same xs)

abbrev fated : ℕ → ℕ → Message → Message
fated from sent m = if is_message from sent m then with_fate Matched m else m

abbrev taken_by : ℕ → ℕ → Option Message → Receive → Receive
taken_by r number m x = if is_receive r number x then taking m x else x

abbrev dropped_at : ℕ → ℕ → Message → Message
dropped_at p r m = if is_left_on p r m then with_fate Dropped m else m

fated_keeps : (from sent : ℕ) (m : Message) → ((fated from sent m).from ≡ m.from) × ((fated from sent m).number ≡ m.number) × ((fated from sent m).comm ≡ m.comm)
fated_keeps from sent m = go (is_message from sent m)
  where
    go : (b : Bool) → ((if b then with_fate Matched m else m).from ≡ m.from) × ((if b then with_fate Matched m else m).number ≡ m.number) × ((if b then with_fate Matched m else m).comm ≡ m.comm)
    go true = (refl, refl, refl)
    go false = (refl, refl, refl)

dropped_keeps : (p r : ℕ) (m : Message) → ((dropped_at p r m).from ≡ m.from) × ((dropped_at p r m).number ≡ m.number) × ((dropped_at p r m).comm ≡ m.comm)
dropped_keeps p r m = go (is_left_on p r m)
  where
    go : (b : Bool) → ((if b then with_fate Dropped m else m).from ≡ m.from) × ((if b then with_fate Dropped m else m).number ≡ m.number) × ((if b then with_fate Dropped m else m).comm ≡ m.comm)
    go true = (refl, refl, refl)
    go false = (refl, refl, refl)

taken_keeps : (r number : ℕ) (m : Option Message) (x : Receive) → ((taken_by r number m x).rank ≡ x.rank) × ((taken_by r number m x).number ≡ x.number)
taken_keeps r number m x = go (is_receive r number x)
  where
    go : (b : Bool) → ((if b then taking m x else x).rank ≡ x.rank) × ((if b then taking m x else x).number ≡ x.number)
    go true = (refl, refl)
    go false = (refl, refl)

lined_next : (s : Setting) (g : Registry) (e : Event) → Allowed s g e → Named g.comms g.ranks → Lined g → Lined (registry_next s g e)
unfolding registry_next
lined_next s g (Calls r t op now) a named h =
    called g h r t a.between _ (effect_at s g r op) grows (λ p is. member_grows _ _ r p grows (member p is))
  where
    grows : Grows g.comms (registry_next s g (Calls r t op now)).comms
    grows = comms_grow s g (Calls r t op now) a

    member : (p : ℕ) → asks_on (effect_at s g r op) ≡ Some p → IsMember g.comms r p
    member p is =
        let found = asked s r (around g r) (part_of g r).local op p is in
        known_bound g.comms r (part_of g r).local.names found.name _ found.there (named r)
lined_next s g (Sends r t) a named h = go (to_send (thread_of g r t).wait) refl
  where
    go : (o : Option Message) → to_send (thread_of g r t).wait ≡ o → Lined (after_send g r t o)
    go None e = h
    go (Some m) e = message_added g h r t m e
lined_next s g (Posts r t) a named h = go (to_post (thread_of g r t).wait) refl
  where
    go : (o : Option Receive) → to_post (thread_of g r t).wait ≡ o → Lined (after_post g r t o)
    go None e = h
    go (Some x) e = receive_added g h r t x e
lined_next s g (Picks r key None) a named h = steady g h _ (grows_same g.comms) refl refl refl
lined_next s g (Picks r key (Some c)) a named h = steady g h _ (comms_grow s g (Picks r key (Some c)) a) refl refl refl
lined_next s g (Matches r number from sent) a named h =
    changed g h _ (fated from sent) (taken_by r number (message_of g from sent)) (grows_same g.comms) (fated_keeps from sent) (taken_keeps r number (message_of g from sent)) refl refl refl
lined_next s g (Backs r c dropped) a named h = go (comm_of g.comms r c) (comm_grow)
  where
    comm_grow : Grows g.comms (give_back g r (comm_of g.comms r c)).comms
    comm_grow = comms_grow s g (Backs r c dropped) a

    go : (o : Option ℕ) → Grows g.comms (give_back g r o).comms → Lined (give_back g r o)
    go None grows = h
    go (Some p) grows = changed g h _ (dropped_at p r) (λ x. x) grows (dropped_keeps p r) (λ x. (refl, refl)) refl refl (map_same g.receives)
lined_next s g (Replies r t said) a named h = go (thread_of g r t).wait
  where
    go : (w : Wait) → Lined (idles (answers g r w) r t)
    go reg.Idle = idled g h r t
    go (reg.Reply_now x) = idled g h r t
    go (reg.Sending m) = idled g h r t
    go (reg.Posting x) = idled g h r t
    go (reg.Requesting x) = idled g h r t
    go (Creating n) = idled (answered g r n (creation_at g n)) (answering g h r n) r t
    go (reg.Freeing p) = idled g h r t
    go (reg.Ending z) = idled g h r t
    go (reg.Receiving n) = idled g h r t
    go (reg.Awaiting name) = idled g h r t

-- what a receive has taken came by a match
pub record Took (s : Setting) (events : List Event) (r number : ℕ) (x : Receive) (m : Message) : Type 0 where
  pub before : List Event
  pub after : List Event
  pub from : ℕ
  pub sent : ℕ
  pub receive : Receive
  pub here : events ≡ before ++ Matches r number from sent ∷ after
  pub posted : receive_of (registry_at s before) r number ≡ Some receive
  pub message : message_of (registry_at s before) from sent ≡ Some m
  pub may : may_match (registry_at s before) receive m ≡ true
  pub is : x ≡ taking (Some m) receive

pub record TookAll (s : Setting) (events : List Event) (g : Registry) : Type 0 where
  pub of : (r number : ℕ) (x : Receive) (m : Message) → receive_of g r number ≡ Some x → x.taken ≡ Some m → Took s events r number x m

pub called_receives : (g : Registry) (r t : ℕ) (l : Local) (e : Effect ℕ) → (carried_out g r t l e).receives ≡ g.receives
called_receives g r t l (Says said) = refl
called_receives g r t l (Opens target) = refl
called_receives g r t l (Groups target members session) = refl
called_receives g r t l (Ungroups name) = refl
called_receives g r t l (Joins a) = refl
called_receives g r t l (Frees name p) = refl
called_receives g r t l (Ends name s) = refl
called_receives g r t l (SendsMessage m) = refl
called_receives g r t l (Receives x) = refl
called_receives g r t l (PostsReceive target x) = refl
called_receives g r t l (NullPosts target) = refl
called_receives g r t l (Completes name number) = refl
called_receives g r t l (Awaits name) = refl

module _ (s : Setting) (before : List Event) where
  abbrev now : Registry
  now = registry_at s before

  took_on : (e : Event) (r number : ℕ) (x : Receive) (m : Message) → Took s before r number x m → Took s (before ++ e ∷ []) r number x m
  took_on e r number x m h = record {
    before = h.before;
    after = h.after ++ e ∷ [];
    from = h.from;
    sent = h.sent;
    receive = h.receive;
    here = ap (λ (es : List Event). es ++ e ∷ []) h.here ∙ append_assoc h.before _ _;
    posted = h.posted;
    message = h.message;
    may = h.may;
    is = h.is;
  }

  -- the receives stay
  took_same : (e : Event) (new : Registry) → new.receives ≡ now.receives → TookAll s before now → TookAll s (before ++ e ∷ []) new
  took_same e new is h = record { of = λ r number x m found taken. took_on e r number x m (h.of r number x m (rw is at found) taken) }

  -- one more, that has taken nothing
  took_more : (e : Event) (new : Registry) (y : Receive) → new.receives ≡ now.receives ++ y ∷ [] → y.taken ≡ None → TookAll s before now → TookAll s (before ++ e ∷ []) new
  took_more e new y is none h = record { of = λ r number x m found taken. more r number x m taken (receive_of now r number) refl (rw (is, find-append (is_receive r number) now.receives (y ∷ [])) at found) }
    where
      last : (x : Receive) (m : Message) → x.taken ≡ Some m → (b : Bool) → (if b then Some y else None) ≡ Some x → ⊥
      last x m taken true e = let z : y ≡ x = cc (e) in let t : x.taken ≡ None = subst (λ (k : Receive). k.taken ≡ None) z none in cc (t, taken)
      last x m taken false e = cc (e)

      more : (r number : ℕ) (x : Receive) (m : Message) → x.taken ≡ Some m → (o : Option Receive) → receive_of now r number ≡ o → option_or o (if is_receive r number y then Some y else None) ≡ Some x → Took s (before ++ e ∷ []) r number x m
      more r number x m taken None t f = absurd (last x m taken (is_receive r number y) f)
      more r number x m taken (Some z) t f = let same : z ≡ x = cc (f) in took_on e r number x m (h.of r number x m (t ∙ ap (λ (k : Receive). Some k) same) taken)

  -- a match
  took_match : (r number from sent : ℕ) → MayMatch now r number from sent → (new : Registry) → new.receives ≡ map (taken_by r number (message_of now from sent)) now.receives → TookAll s before now → TookAll s (before ++ Matches r number from sent ∷ []) new
  took_match r number from sent a new is h = record { of = λ q k x m found taken. go q k x m taken (receive_of now q k) refl (rw (is, found_changed (is_receive q k) (taken_by r number (message_of now from sent)) now.receives (same q k)) at found) }
    where
      e : Event
      e = Matches r number from sent

      same : (q k : ℕ) (y : Receive) → is_receive q k (taken_by r number (message_of now from sent) y) ≡ is_receive q k y
      same q k y = let z = taken_keeps r number (message_of now from sent) y in rw z.0 (rw z.1 refl)

      by : (q k : ℕ) (x : Receive) (m : Message) → x.taken ≡ Some m → (y : Receive) → receive_of now q k ≡ Some y → (b : Bool) → is_receive r number y ≡ b → (if b then taking (message_of now from sent) y else y) ≡ x → Took s (before ++ e ∷ []) q k x m
      by q k x m taken y t false n same = took_on e q k x m (h.of q k x m (t ∙ ap (λ (z : Receive). Some z) same) taken)
      by q k x m taken y t true n same =
          let mine = found_passes (is_receive q k) now.receives y t in
          let rank : r ≡ q = grind (arith, nat_tests, n, mine) in
          let numbered : number ≡ k = grind (arith, nat_tests, n, mine) in
          let this : receive_of now r number ≡ Some y = rw (rank, numbered) t in
          let p = a.posted in
          let one : a.receive ≡ y = cc (p, this) in
          let took : Some a.message ≡ Some m = sym a.sent_there ∙ ap (λ (z : Receive). z.taken) same ∙ taken in
          let what : a.message ≡ m = cc (took) in
          record {
            before = before;
            after = [];
            from = from;
            sent = sent;
            receive = y;
            here = rw (rank, numbered) refl;
            posted = t;
            message = rw a.sent_there took;
            may = rw (sym one, sym what) a.first;
            is = sym same ∙ ap (λ (o : Option Message). taking o y) (a.sent_there ∙ took);
          }

      go : (q k : ℕ) (x : Receive) (m : Message) → x.taken ≡ Some m → (o : Option Receive) → receive_of now q k ≡ o → option_map (taken_by r number (message_of now from sent)) o ≡ Some x → Took s (before ++ e ∷ []) q k x m
      go q k x m taken None t f = absurd (cc (f))
      go q k x m taken (Some y) t f = by q k x m taken y t (is_receive r number y) refl (let z : taken_by r number (message_of now from sent) y ≡ x = cc (f) in z)

  took_next : (e : Event) → Allowed s now e → Lined now → TookAll s before now → TookAll s (before ++ e ∷ []) (registry_next s now e)
  unfolding registry_next
  took_next (Calls r t op said) a l h = took_same _ _ (called_receives now r t _ (effect_at s now r op)) h
  took_next (Sends r t) a l h = go (to_send (thread_of now r t).wait)
    where
      go : (o : Option Message) → TookAll s (before ++ Sends r t ∷ []) (after_send now r t o)
      go None = took_same _ _ refl h
      go (Some m) = took_same _ _ refl h
  took_next (Posts r t) a l h = go (to_post (thread_of now r t).wait) refl
    where
      go : (o : Option Receive) → to_post (thread_of now r t).wait ≡ o → TookAll s (before ++ Posts r t ∷ []) (after_post now r t o)
      go None e = took_same _ _ refl h
      go (Some x) e = took_more _ _ x refl ((l.posts r).good_next t x e) h
  took_next (Picks r key None) a l h = took_same _ _ refl h
  took_next (Picks r key (Some c)) a l h = took_same _ _ refl h
  took_next (Matches r number from sent) a l h = took_match r number from sent a _ refl h
  took_next (Backs r c dropped) a l h = go (comm_of now.comms r c)
    where
      go : (o : Option ℕ) → TookAll s (before ++ Backs r c dropped ∷ []) (give_back now r o)
      go None = took_same _ _ refl h
      go (Some p) = took_same _ _ refl h
  took_next (Replies r t said) a l h = go (thread_of now r t).wait
    where
      go : (w : Wait) → TookAll s (before ++ Replies r t said ∷ []) (idles (answers now r w) r t)
      go reg.Idle = took_same _ _ refl h
      go (reg.Reply_now x) = took_same _ _ refl h
      go (reg.Sending m) = took_same _ _ refl h
      go (reg.Posting x) = took_same _ _ refl h
      go (reg.Requesting x) = took_same _ _ refl h
      go (Creating n) = took_same _ _ refl h
      go (reg.Freeing p) = took_same _ _ refl h
      go (reg.Ending z) = took_same _ _ refl h
      go (reg.Receiving n) = took_same _ _ refl h
      go (reg.Awaiting name) = took_same _ _ refl h

-- Runs

pub record Whole (s : Setting) (events : List Event) (g : Registry) : Type 0 where
  pub sound : Sound s events g
  pub lined : Lined g
  pub took : TookAll s events g

whole_next : (s : Setting) (before : List Event) (e : Event) → Allowed s (registry_at s before) e → Whole s before (registry_at s before) → Whole s (before ++ e ∷ []) (registry_next s (registry_at s before) e)
whole_next s before e a h = record {
  sound = sound_next s before e a h.sound;
  lined = lined_next s (registry_at s before) e a h.sound.named h.lined;
  took = took_next s before e a h.lined h.took;
}

lined_opening : (s : Setting) → Lined (registry_opening s)
lined_opening s = record {
  alone = λ q u p v a b. absurd (idle q u a);
  sends = λ q. rw (blank_at s.ranks q) (record { bound = 0; rising = refl; below = omega arith; mine_next = λ u m e. absurd (none u m e); number_next = λ u m e. absurd (none u m e); above_next = λ u m e. absurd (none u m e); good_next = λ u m e. absurd (none u m e) });
  posts = λ q. rw (blank_at s.ranks q) (record { bound = 0; rising = refl; below = omega arith; mine_next = λ u x e. absurd (null u x e); number_next = λ u x e. absurd (null u x e); above_next = λ u x e. absurd (null u x e); good_next = λ u x e. absurd (null u x e) });
  senders = tt;
}
  where
    none : (u : ℕ) (m : Message) → to_send (wait_at blank_part u) ≡ Some m → ⊥
    none u m e = let z = rw (blank_waits u) at e in cc (z)

    null : (u : ℕ) (x : Receive) → to_post (wait_at blank_part u) ≡ Some x → ⊥
    null u x e = let z = rw (blank_waits u) at e in cc (z)

    idle : (q u : ℕ) → is_within_call (wait_at (get_or (registry_opening s).ranks q blank_part) u) ≡ true → ⊥
    idle q u e = let z = rw (blank_at s.ranks q, blank_waits u) at e in cc (z)

pub whole_at : (s : Setting) (events : List Event) → IsRun s events → Whole s events (registry_at s events)
whole_at s events run = along s (Whole s) (whole_next s) [] events run (record { sound = sound_opening s; lined = lined_opening s; took = record { of = λ r number x m found taken. absurd (cc (found)) } })
