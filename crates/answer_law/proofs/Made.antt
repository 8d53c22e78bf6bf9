-- Each message is one that a call sent, and each receive one that a call posted.
use Rattle.std.proofs.Common.{◌≡◌, if◌then◌else◌, ℕ, Bool, true, false, List, [], ◌∷◌, ◌++◌, Option, Some, None, refl, sym, ap, ◌∙◌, subst, append_assoc}
use Rattle.std.specs.List.{AllByRecursion}
use Rattle.mpi_law.specs.declared.setting.Setting.{Setting}
use Rattle.mpi_law.specs.declared.effects.Effect.{Effect}
use Rattle.mpi_law.specs.declared.effects.Effect.TheVariants.{Says, Opens, Groups, Ungroups, Joins, Frees, Ends, Sends as SendsMessage, Receives, Posts as PostsReceive, NullPosts, Completes, Awaits}
use Rattle.mpi_law.specs.Local.Objects.{Local}
use Rattle.mpi_law.specs.Registry.State as reg
use Rattle.mpi_law.specs.Registry.State.{Registry, created_by, Fate, Matched, Dropped, Message, Receive, Wait, Creating, thread_of, creation_at, registry_opening}
use Rattle.mpi_law.specs.Registry.Contexts.{comm_of}
use Rattle.mpi_law.specs.Registry.Messages.{is_receive, is_message, receive_of, message_of, with_fate, taking, is_left_on}
use Rattle.mpi_law.specs.Registry.Calls.{effect_at, message_of_call, receive_of_call, carried_out, to_send, to_post}
use Rattle.mpi_law.specs.Registry.Replies.{answers, idles}
use Rattle.mpi_law.specs.Registry.Events.{Event, Calls, Sends, Posts, Picks, Matches, Backs, Replies, registry_next, after_send, after_post, give_back}
use Rattle.mpi_law.specs.Registry.Runs.{Allowed}
use Rattle.answer_law.specs.Answers.{IsRun, registry_at}
use Rattle.answer_law.specs.Receipts.{asks_to_send, SentBy, PostedBy}
use Rattle.answer_law.proofs.Lists.{all_map, all_snoc, all_changed, found}
use Rattle.answer_law.proofs.Sound.{blank_at}
use Rattle.answer_law.proofs.Runs.{along}
use Rattle.answer_law.proofs.Lines.{blank_waits}
use Rattle.answer_law.proofs.Takings.{called_receives}
use Rattle.answer_law.proofs.Waits.{WaitChange, stays, rests, joined, sends, posts, wait_change}

record Made (s : Setting) (events : List Event) (g : Registry) : Type 0 where
  sent : AllByRecursion (SentBy s events) g.messages
  posted : AllByRecursion (PostedBy s events) g.receives
  sending : (r t : ℕ) (m : Message) → to_send (thread_of g r t).wait ≡ Some m → SentBy s events m
  posting : (r t : ℕ) (x : Receive) → to_post (thread_of g r t).wait ≡ Some x → PostedBy s events x

fated : (s : Setting) (events : List Event) (fate : Fate) (m : Message) → SentBy s events m → SentBy s events (with_fate fate m)
fated s events fate m h = record { thread = h.thread; op = h.op; asked = h.asked; before = h.before; after = h.after; here = h.here; effect = h.effect; is = ap (with_fate fate) h.is }

taken : (s : Setting) (events : List Event) (o : Option Message) (x : Receive) → PostedBy s events x → PostedBy s events (taking o x)
taken s events o x h = record { thread = h.thread; op = h.op; now = h.now; asked = h.asked; before = h.before; after = h.after; here = h.here; effect = h.effect; is = ap (taking o) h.is }

fated_if : (s : Setting) (events : List Event) (fate : Fate) (b : Bool) (m : Message) → SentBy s events m → SentBy s events (if b then with_fate fate m else m)
fated_if s events fate true m h = fated s events fate m h
fated_if s events fate false m h = h

taken_if : (s : Setting) (events : List Event) (o : Option Message) (b : Bool) (x : Receive) → PostedBy s events x → PostedBy s events (if b then taking o x else x)
taken_if s events o true x h = taken s events o x h
taken_if s events o false x h = h

called_messages : (g : Registry) (r t : ℕ) (l : Local) (e : Effect ℕ) → (carried_out g r t l e).messages ≡ g.messages
called_messages g r t l (Says said) = refl
called_messages g r t l (Opens target) = refl
called_messages g r t l (Groups target members session) = refl
called_messages g r t l (Ungroups name) = refl
called_messages g r t l (Joins a) = refl
called_messages g r t l (Frees name p) = refl
called_messages g r t l (Ends name s) = refl
called_messages g r t l (SendsMessage m) = refl
called_messages g r t l (Receives x) = refl
called_messages g r t l (PostsReceive target x) = refl
called_messages g r t l (NullPosts target) = refl
called_messages g r t l (Completes name number) = refl
called_messages g r t l (Awaits name) = refl

module _ (s : Setting) (before : List Event) (e : Event) where
  abbrev now : Registry
  now = registry_at s before

  sent_later : (m : Message) → SentBy s before m → SentBy s (before ++ e ∷ []) m
  sent_later m h = record {
    thread = h.thread;
    op = h.op;
    asked = h.asked;
    before = h.before;
    after = h.after ++ e ∷ [];
    here = ap (λ (es : List Event). es ++ e ∷ []) h.here ∙ append_assoc h.before _ _;
    effect = h.effect;
    is = h.is;
  }

  posted_later : (x : Receive) → PostedBy s before x → PostedBy s (before ++ e ∷ []) x
  posted_later x h = record {
    thread = h.thread;
    op = h.op;
    now = h.now;
    asked = h.asked;
    before = h.before;
    after = h.after ++ e ∷ [];
    here = ap (λ (es : List Event). es ++ e ∷ []) h.here ∙ append_assoc h.before _ _;
    effect = h.effect;
    is = h.is;
  }

  module _ (h : Made s before now) where
    sents : AllByRecursion (SentBy s (before ++ e ∷ [])) now.messages
    sents = all_map (SentBy s before) (SentBy s (before ++ e ∷ [])) now.messages sent_later h.sent

    posteds : AllByRecursion (PostedBy s (before ++ e ∷ [])) now.receives
    posteds = all_map (PostedBy s before) (PostedBy s (before ++ e ∷ [])) now.receives posted_later h.posted

    module _ (new : Registry) (r t : ℕ) (c : WaitChange s now r t e new) where
      sending_next : (m : Message) → to_send (thread_of new r t).wait ≡ Some m → SentBy s (before ++ e ∷ []) m
      sending_next m w = go c
        where
          go : WaitChange s now r t e new → SentBy s (before ++ e ∷ []) m
          go (stays keep none) = sent_later m (h.sending r t m (ap to_send (sym keep) ∙ w))
          go (rests free) = let z = sym free.1 ∙ w in absurd (cc (z))
          go (joined op a k is effect waits rows rank) = let z = ap to_send (sym waits) ∙ w in absurd (cc (z))
          go (posts op said x is asks none null due) = let z = sym null ∙ w in absurd (cc (z))
          go (sends op a is effect waits) =
              let same : message_of_call now r a ≡ m = (let z = ap to_send (sym waits) ∙ w in cc (z)) in
              subst (SentBy s (before ++ e ∷ [])) same (record { thread = t; op = op; asked = a; before = before; after = []; here = ap (λ (x : Event). before ++ x ∷ []) is; effect = ap asks_to_send effect; is = refl })

      posting_next : (x : Receive) → to_post (thread_of new r t).wait ≡ Some x → PostedBy s (before ++ e ∷ []) x
      posting_next x w = go c
        where
          go : WaitChange s now r t e new → PostedBy s (before ++ e ∷ []) x
          go (stays keep none) = posted_later x (h.posting r t x (ap to_post (sym keep) ∙ w))
          go (rests free) = let z = sym free.2 ∙ w in absurd (cc (z))
          go (joined op a k is effect waits rows rank) = let z = ap to_post (sym waits) ∙ w in absurd (cc (z))
          go (sends op a is effect waits) = let z = ap to_post (sym waits) ∙ w in absurd (cc (z))
          go (posts op said a is asks none null due) =
              let same : receive_of_call now r a ≡ x = (let z = sym due ∙ w in cc (z)) in
              subst (PostedBy s (before ++ e ∷ [])) same (record { thread = t; op = op; now = said; asked = a; before = before; after = []; here = ap (λ (y : Event). before ++ y ∷ []) is; effect = asks; is = refl })

-- the messages and receives that an event leaves
abbrev Lists : Setting → List Event → Registry → Type 0
Lists s events g = AllByRecursion (SentBy s events) g.messages × AllByRecursion (PostedBy s events) g.receives

lists_next : (s : Setting) (before : List Event) (e : Event) → Made s before (registry_at s before) → Lists s (before ++ e ∷ []) (registry_next s (registry_at s before) e)
unfolding registry_next
lists_next s before (Calls r t op said) h =
    let g = registry_at s before in
    (rw (called_messages g r t _ (effect_at s g r op)) (sents s before (Calls r t op said) h), rw (called_receives g r t _ (effect_at s g r op)) (posteds s before (Calls r t op said) h))
lists_next s before (Sends r t) h = go (to_send (thread_of (registry_at s before) r t).wait) refl
  where
    go : (o : Option Message) → to_send (thread_of (registry_at s before) r t).wait ≡ o → Lists s (before ++ Sends r t ∷ []) (after_send (registry_at s before) r t o)
    go None e = (sents s before (Sends r t) h, posteds s before (Sends r t) h)
    go (Some m) e = (all_snoc (SentBy s (before ++ Sends r t ∷ [])) (registry_at s before).messages m (sents s before (Sends r t) h) (sent_later s before (Sends r t) m (h.sending r t m e)), posteds s before (Sends r t) h)
lists_next s before (Posts r t) h = go (to_post (thread_of (registry_at s before) r t).wait) refl
  where
    go : (o : Option Receive) → to_post (thread_of (registry_at s before) r t).wait ≡ o → Lists s (before ++ Posts r t ∷ []) (after_post (registry_at s before) r t o)
    go None e = (sents s before (Posts r t) h, posteds s before (Posts r t) h)
    go (Some x) e = (sents s before (Posts r t) h, all_snoc (PostedBy s (before ++ Posts r t ∷ [])) (registry_at s before).receives x (posteds s before (Posts r t) h) (posted_later s before (Posts r t) x (h.posting r t x e)))
lists_next s before (Picks r key None) h = (sents s before _ h, posteds s before _ h)
lists_next s before (Picks r key (Some c)) h = (sents s before _ h, posteds s before _ h)
lists_next s before (Matches r number from sent) h = (
  all_changed (SentBy s (before ++ Matches r number from sent ∷ [])) _ (registry_at s before).messages (λ m k. fated_if s _ Matched (is_message from sent m) m k) (sents s before _ h),
  all_changed (PostedBy s (before ++ Matches r number from sent ∷ [])) _ (registry_at s before).receives (λ x k. taken_if s _ (message_of (registry_at s before) from sent) (is_receive r number x) x k) (posteds s before _ h),
)
lists_next s before (Backs r c dropped) h = go (comm_of (registry_at s before).comms r c)
  where
    go : (o : Option ℕ) → Lists s (before ++ Backs r c dropped ∷ []) (give_back (registry_at s before) r o)
    go None = (sents s before (Backs r c dropped) h, posteds s before (Backs r c dropped) h)
    go (Some p) = (all_changed (SentBy s (before ++ Backs r c dropped ∷ [])) _ (registry_at s before).messages (λ m k. fated_if s _ Dropped (is_left_on p r m) m k) (sents s before (Backs r c dropped) h), posteds s before (Backs r c dropped) h)
lists_next s before (Replies r t said) h = go (thread_of (registry_at s before) r t).wait
  where
    go : (w : Wait) → Lists s (before ++ Replies r t said ∷ []) (idles (answers (registry_at s before) r w) r t)
    go reg.Idle = (sents s before (Replies r t said) h, posteds s before (Replies r t said) h)
    go (reg.Reply_now x) = (sents s before (Replies r t said) h, posteds s before (Replies r t said) h)
    go (reg.Sending m) = (sents s before (Replies r t said) h, posteds s before (Replies r t said) h)
    go (reg.Posting x) = (sents s before (Replies r t said) h, posteds s before (Replies r t said) h)
    go (reg.Requesting x) = (sents s before (Replies r t said) h, posteds s before (Replies r t said) h)
    go (Creating n) = (sents s before (Replies r t said) h, posteds s before (Replies r t said) h)
    go (reg.Freeing p) = (sents s before (Replies r t said) h, posteds s before (Replies r t said) h)
    go (reg.Ending z) = (sents s before (Replies r t said) h, posteds s before (Replies r t said) h)
    go (reg.Receiving n) = (sents s before (Replies r t said) h, posteds s before (Replies r t said) h)
    go (reg.Awaiting name) = (sents s before (Replies r t said) h, posteds s before (Replies r t said) h)

made_next : (s : Setting) (before : List Event) (e : Event) → Allowed s (registry_at s before) e → Made s before (registry_at s before) → Made s (before ++ e ∷ []) (registry_next s (registry_at s before) e)
made_next s before e a h =
    let lists = lists_next s before e h in
    let g = registry_at s before in
    record {
      sent = lists.0;
      posted = lists.1;
      sending = λ r t m w. sending_next s before e h (registry_next s g e) r t (wait_change s g r t e a) m w;
      posting = λ r t x w. posting_next s before e h (registry_next s g e) r t (wait_change s g r t e a) x w;
    }

made_at : (s : Setting) (events : List Event) → IsRun s events → Made s events (registry_at s events)
made_at s events run = along s (Made s) (made_next s) [] events run (record {
  sent = tt;
  posted = tt;
  sending = λ r t m w. absurd (let z = rw (blank_at s.ranks r, blank_waits t) at w in cc (z));
  posting = λ r t x w. absurd (let z = rw (blank_at s.ranks r, blank_waits t) at w in cc (z));
})

pub sent_by : (s : Setting) (events : List Event) (from number : ℕ) (m : Message) → IsRun s events → message_of (registry_at s events) from number ≡ Some m → SentBy s events m
sent_by s events from number m run e = (found (SentBy s events) (is_message from number) (registry_at s events).messages m e (made_at s events run).sent).1

pub posted_by : (s : Setting) (events : List Event) (r number : ℕ) (x : Receive) → IsRun s events → receive_of (registry_at s events) r number ≡ Some x → PostedBy s events x
posted_by s events r number x run e = (found (PostedBy s events) (is_receive r number) (registry_at s events).receives x e (made_at s events run).posted).1
