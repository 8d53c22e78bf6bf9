-- A thread waits for an exchange only by a call of a split: every other step leaves a thread that waits for one afterwards as it was.
use Rattle.std.proofs.Common.{◌≡◌, ◌≢◌, ◌⊎◌, ◌<◌, ◌≤◌, ◌+◌, ◌==◌, ℕ, ℤ, Bool, true, false, if◌then◌else◌, List, [], ◌∷◌, length, get_or, set, Option, Some, None, refl, sym, ap, ◌∙◌, inl, inr, arith}
use Rattle.mpi_base.specs.declared.keys.Key.{Key}
use Rattle.mpi_base.specs.declared.messages.Msg.{Msg}
use Rattle.mpi_base.specs.declared.shares.Shared1.{Shared1}
use Rattle.mpi_base.specs.declared.entries.Act.{Act}
use Rattle.mpi_base.specs.declared.entries.Act.TheVariants.{Call, Answer, Deliver, Offer as MakeOffer, Settle, Leave, Back}
use Rattle.mpi_base.specs.Keys.{same_key}
use Rattle.mpi_law.specs.Local.Messages.{from_nobody}
use Rattle.mpi_law.specs.Registry.Contexts.{is_exchange}
use Rattle.mpi_law.specs.declared.effects.Origin.{Origin}
use Rattle.mpi_law.specs.declared.effects.Origin.TheVariants.{Grouped, Duplicated, Divided, GroupedOn}
use Rattle.mpi_law.specs.declared.effects.Effect.{Effect}
use Rattle.mpi_law.specs.declared.effects.Effect.TheVariants.{Says, Opens, Groups, Ungroups, Joins, Frees, Ends, Sends, Receives, Posts, NullPosts, Completes, Awaits}
use Rattle.agree_law.specs.Packets as agree
use Rattle.agree_law.specs.Kinds.{is_share}
use Rattle.agree_law.specs.SplitKeys.{is_split}
use Rattle.agree_law.specs.Part.{stage_of}
use Rattle.agree_law.specs.Shares.{share_list}
use Rattle.agree_law.specs.World.{Begin_share}
use Rattle.agree_law.specs.declared.rows.Outcome.{Outcome}
use Rattle.agree_law.specs.declared.rows.Verdict.{Verdict}
use Rattle.agree_law.specs.declared.rows.Verdict.TheVariants.{Ready, Retry, Context, Exhausted}
use Rattle.match_law.specs.declared.rows.Posted.{Posted}
use Rattle.match_law.specs.Box.{arrive, post}
use Rattle.mpi_protocol.specs.declared.rows.Waits.{Waits}
use Rattle.mpi_protocol.specs.declared.rows.Waits.TheVariants.{Nothing, Creation, Uncoloured, Freeing, Ending, Receiving, Awaiting}
use Rattle.mpi_protocol.specs.declared.rows.ThreadRow.{ThreadRow}
use Rattle.mpi_protocol.specs.declared.rows.ReceiveRow.{ReceiveRow}
use Rattle.mpi_protocol.specs.Packets.{Packet, Sent, Agreeing, Message, Marker}
use Rattle.mpi_protocol.specs.Rank.{Rank, thread_at, idle_thread, receive_of, goes_on, going_on, with_key, with_call}
use Rattle.mpi_protocol.specs.Moves.{Taking, arrives, arrives_to, posts, posts_to}
use Rattle.comm_law.specs.Comms.{comm_at}
use Rattle.mpi_protocol.specs.Calls.{sends_to, called, key_of}
use Rattle.mpi_protocol.specs.Answers.{answers, answered, answers_creation, answers_row, answers_taken, outcome_of}
use Rattle.mpi_protocol.specs.Agreeing.{offers, settles, settles_as, with_verdict, verdict_at, next_key, colour_here}
use Rattle.mpi_protocol.specs.Delivers.{delivers, taken, taken_if, takes_packet}
use Rattle.mpi_protocol.specs.Step.{step, leaves, gives_back}
use Rattle.mpi_protocol.specs.Order.{is_call}
use Rattle.projection_law.specs.Events.{opening_events, call_events}
use Rattle.run_law.proofs.Lists.{set_place}
use Rattle.run_law.proofs.Threads.{row_of}
use Rattle.run_law.proofs.GoingOn.{row_going}

-- a thread that waits for an exchange in the second list of threads does so in the first
abbrev pub Waited : List ThreadRow → List ThreadRow → Type 0
Waited old new = (t : ℕ) (key : Key) (target : List ℕ) (session : ℕ) → is_exchange key.kind ≡ true → (row_of new t).waits ≡ Creation key target session → (row_of old t).waits ≡ Creation key target session

-- one thread waits for nothing
idles : (threads : List ThreadRow) (t calls : ℕ) → Waited threads (set threads t (record { calls = calls; waits = Nothing }))
idles threads t calls u key target session ex e = go (set_place threads t (record { calls = calls; waits = Nothing }) idle_thread u)
  where
    new : List ThreadRow
    new = set threads t (record { calls = calls; waits = Nothing })

    go : ((u ≡ t) × (t < length threads) × (get_or new u idle_thread ≡ record { calls = calls; waits = Nothing })) ⊎ (((u ≢ t) ⊎ (length threads ≤ t)) × (get_or new u idle_thread ≡ get_or threads u idle_thread)) → (row_of threads u).waits ≡ Creation key target session
    go (inl a) = absurd (let z = sym (ap (λ (x : ThreadRow). x.waits) a.2) ∙ e in cc (z))
    go (inr a) = sym (ap (λ (x : ThreadRow). x.waits) a.1) ∙ e

-- the creations of a key go on
goes : (threads : List ThreadRow) (key : Key) (colour : Option ℤ) (list : List Shared1) → Waited threads (with_key threads key (next_key key colour list))
goes threads key colour list u k target session ex e = go (row_of threads u).waits refl (sym (ap (λ (x : ThreadRow). x.waits) (row_going threads key (next_key key colour list) u)) ∙ e)
  where
    on : (o : Option ℤ) (to : List ℕ) (from : ℕ) → goes_on key (next_key key o list) to from ≡ Creation k target session → ⊥
    on None to from q = cc (q)
    on (Some c) to from q = let is : is_exchange k.kind ≡ false = ap (λ (w : Waits). kind_in w) (sym q) in cc (is, ex)
      where
        kind_in : Waits → Bool
        kind_in Nothing = false
        kind_in (Creation i to from) = is_exchange i.kind
        kind_in (Uncoloured i to from) = false
        kind_in (Freeing serial) = false
        kind_in (Ending session) = false
        kind_in (Receiving n) = false
        kind_in (Awaiting name) = false

    at : (i : Key) (to : List ℕ) (from : ℕ) (b : Bool) → (if b then goes_on key (next_key key colour list) to from else Creation i to from) ≡ Creation k target session → Creation i to from ≡ Creation k target session
    at i to from true q = absurd (on colour to from q)
    at i to from false q = q

    go : (w : Waits) → (row_of threads u).waits ≡ w → going_on key (next_key key colour list) w ≡ Creation k target session → (row_of threads u).waits ≡ Creation k target session
    go Nothing f q = absurd (cc (q))
    go (Creation i to from) f q = f ∙ at i to from (same_key i key) q
    go (Uncoloured i to from) f q = absurd (cc (q))
    go (Freeing serial) f q = absurd (cc (q))
    go (Ending z) f q = absurd (cc (q))
    go (Receiving n) f q = absurd (cc (q))
    go (Awaiting name) f q = absurd (cc (q))

pub stays : (threads : List ThreadRow) → Waited threads threads
stays threads t key target session ex e = e

-- Moves

arrived : (x : Rank) (m : Msg) → (arrives x m).0.threads ≡ x.threads
arrived x m = go (arrive x.box m).1
  where
    go : (o : Option Posted) → (arrives_to x m (arrive x.box m).0 o).0.threads ≡ x.threads
    go None = refl
    go (Some p) = refl

posted : (x : Rank) (p : Posted) → (posts x p).0.threads ≡ x.threads
posted x p = go (post x.box p).1
  where
    go : (o : Option Msg) → (posts_to x p.number (post x.box p).0 o).0.threads ≡ x.threads
    go None = refl
    go (Some m) = refl

sent : (x : Rank) (m : Msg) (to : ℕ) → (sends_to x m to).0.0.threads ≡ x.threads
sent x m to = go (to == x.rank)
  where
    chosen : Bool → Taking × List Sent
    chosen b = if b then (arrives x m, []) else ((x, None), record { to = to; packet = Message m } ∷ [])

    go : (b : Bool) → (chosen b).0.0.threads ≡ x.threads
    go true = arrived x m
    go false = refl

-- an answer
answer_waits : (x : Rank) (t : ℕ) (w : Waits) → Waited x.threads (answered x t w).state.threads
answer_waits x t Nothing = stays x.threads
answer_waits x t (Creation key target session) = go (outcome_of (stage_of x.agree.opened key))
  where
    go : (o : Option Outcome) → Waited x.threads (answers_creation x t key target session o).state.threads
    go None = stays x.threads
    go (Some o) = idles x.threads t _
answer_waits x t (Uncoloured key target session) = idles x.threads t _
answer_waits x t (Freeing serial) = idles x.threads t _
answer_waits x t (Ending session) = idles x.threads t _
answer_waits x t (Awaiting name) = idles x.threads t _
answer_waits x t (Receiving k) = go (k == 0) (receive_of x.receives k)
  where
    by : (room : ℕ) (o : Option Msg) → Waited x.threads (answers_taken x t k room o).state.threads
    by room None = stays x.threads
    by room (Some m) = idles x.threads t _

    go : (b : Bool) (o : Option ReceiveRow) → Waited x.threads (if b then answers x t from_nobody else answers_row x t k o).state.threads
    go true o = idles x.threads t _
    go false None = stays x.threads
    go false (Some y) = by y.room y.taken

verdict_threads : (x : Rank) (key : Key) (v : Verdict) → (with_verdict x key v).threads ≡ x.threads
verdict_threads x key Ready = refl
verdict_threads x key Retry = refl
verdict_threads x key (Context c) = refl
verdict_threads x key Exhausted = refl

same_threads : (old new : List ThreadRow) → new ≡ old → Waited old new
same_threads old new e t key target session ex h = ap (λ (ts : List ThreadRow). (row_of ts t).waits) (sym e) ∙ h

packet_waits : (x : Rank) (from : ℕ) (p : Packet) → Waited x.threads (taken x from p).state.threads
packet_waits x from (Agreeing (agree.Up key i own mask)) = stays x.threads
packet_waits x from (Agreeing (agree.Down key i v)) = same_threads x.threads _ (verdict_threads x key v)
packet_waits x from (Agreeing (agree.Share key s)) = stays x.threads
packet_waits x from (Agreeing (agree.Shares key list)) = goes x.threads key (colour_here x key list) list
packet_waits x from (Message m) = same_threads x.threads _ (arrived x m)
packet_waits x from (Marker c) = stays x.threads

deliver_waits : (x : Rank) (from : ℕ) (p : Option Packet) → Waited x.threads (delivers x from p).state.threads
unfolding delivers
deliver_waits x from None = stays x.threads
deliver_waits x from (Some p) = go (takes_packet x from p)
  where
    go : (b : Bool) → Waited x.threads (taken_if b x from p).state.threads
    go true = packet_waits x from p
    go false = stays x.threads

settle_waits : (x : Rank) (key : Key) → Waited x.threads (settles x key).state.threads
unfolding settles
settle_waits x key = go (is_share key.kind)
  where
    go : (b : Bool) → Waited x.threads (settles_as x key b).state.threads
    go true = goes x.threads key (colour_here x key (share_list x.agree.shares key)) (share_list x.agree.shares key)
    go false = same_threads x.threads _ (verdict_threads x key (verdict_at x key))

pub step_waits : (x : Rank) (act : Act) (p : Option Packet) → is_call act ≡ false → Waited x.threads (step x act p).state.threads
unfolding step offers leaves gives_back
step_waits x (Call t op) p e = absurd (cc (e))
step_waits x (Answer t) p e = answer_waits x t (thread_at x t).waits
step_waits x (Deliver from) p e = deliver_waits x from p
step_waits x (MakeOffer key) p e = stays x.threads
step_waits x (Settle key) p e = settle_waits x key
step_waits x (Leave c) p e = stays x.threads
step_waits x (Back c) p e = stays x.threads

-- A call

-- what its thread waits for then
abbrev pub after_call : Rank → Effect ℕ → Waits
after_call x (Says said) = Nothing
after_call x (Opens target) = Nothing
after_call x (Groups target members session) = Nothing
after_call x (Ungroups name) = Nothing
after_call x (Joins a) = Creation (key_of x.comms a.origin) a.target a.session
after_call x (Frees name c) = Freeing (comm_at x.comms c).serial
after_call x (Ends name s) = Ending s
after_call x (Sends m) = Nothing
after_call x (Receives a) = Receiving (x.posts + 1)
after_call x (Posts target a) = Nothing
after_call x (NullPosts target) = Nothing
after_call x (Completes name n) = Receiving n
after_call x (Awaits name) = Awaiting name

call_threads : (x : Rank) (t : ℕ) (e : Effect ℕ) → (called x t e).state.threads ≡ with_call x t (after_call x e)
call_threads x t (Says said) = refl
call_threads x t (Opens target) = refl
call_threads x t (Groups target members session) = refl
call_threads x t (Ungroups name) = refl
call_threads x t (Joins a) = refl
call_threads x t (Frees name c) = refl
call_threads x t (Ends name s) = refl
call_threads x t (Sends m) = sent _ _ _
call_threads x t (Receives a) = posted _ _
call_threads x t (Posts target a) = posted _ _
call_threads x t (NullPosts target) = refl
call_threads x t (Completes name n) = refl
call_threads x t (Awaits name) = refl

-- the thread is the one that calls, or one that waited so before
pub data Caller (x : Rank) (t u : ℕ) (e : Effect ℕ) (key : Key) (target : List ℕ) (session : ℕ) : Type 0 where
  the_caller : u ≡ t → after_call x e ≡ Creation key target session → Caller x t u e key target session
  another : u ≢ t → (row_of x.threads u).waits ≡ Creation key target session → Caller x t u e key target session

pub call_waits : (x : Rank) (t : ℕ) (e : Effect ℕ) → t < length x.threads → (u : ℕ) (key : Key) (target : List ℕ) (session : ℕ) → (row_of (called x t e).state.threads u).waits ≡ Creation key target session → Caller x t u e key target session
call_waits x t e lt u key target session h = go (set_place x.threads t row idle_thread u)
  where
    row : ThreadRow
    row = record { calls = (thread_at x t).calls + 1; waits = after_call x e }

    at : (row_of (set x.threads t row) u).waits ≡ Creation key target session
    at = ap (λ (ts : List ThreadRow). (row_of ts u).waits) (sym (call_threads x t e)) ∙ h

    go : ((u ≡ t) × (t < length x.threads) × (get_or (set x.threads t row) u idle_thread ≡ row)) ⊎ (((u ≢ t) ⊎ (length x.threads ≤ t)) × (get_or (set x.threads t row) u idle_thread ≡ get_or x.threads u idle_thread)) → Caller x t u e key target session
    go (inl a) = the_caller a.0 (sym (ap (λ (z : ThreadRow). z.waits) a.2) ∙ at)
    go (inr (inl ne, same)) = another ne (sym (ap (λ (z : ThreadRow). z.waits) same) ∙ at)
    go (inr (inr far, same)) = absurd (omega (arith, far, lt))

pub caller_waits : (x : Rank) (t : ℕ) (e : Effect ℕ) → t < length x.threads → (row_of (called x t e).state.threads t).waits ≡ after_call x e
caller_waits x t e lt = ap (λ (ts : List ThreadRow). (row_of ts t).waits) (call_threads x t e) ∙ go (set_place x.threads t row idle_thread t)
  where
    row : ThreadRow
    row = record { calls = (thread_at x t).calls + 1; waits = after_call x e }

    go : ((t ≡ t) × (t < length x.threads) × (get_or (set x.threads t row) t idle_thread ≡ row)) ⊎ (((t ≢ t) ⊎ (length x.threads ≤ t)) × (get_or (set x.threads t row) t idle_thread ≡ get_or x.threads t idle_thread)) → (row_of (set x.threads t row) t).waits ≡ after_call x e
    go (inl a) = ap (λ (z : ThreadRow). z.waits) a.2
    go (inr a) = absurd (let far = a.0 in grind (arith, far, lt))

-- who waits for an exchange after its call has called a split
pub record Divides (x : Rank) (r : ℕ) (e : Effect ℕ) (key : Key) : Type 0 where
  pub share : Shared1
  pub events : call_events r x e ≡ Begin_share r key share ∷ []

pub divides : (x : Rank) (r : ℕ) (e : Effect ℕ) (key : Key) (target : List ℕ) (session : ℕ) → is_exchange key.kind ≡ true → after_call x e ≡ Creation key target session → Divides x r e key
divides x r (Joins a) key target session ex h = by a.origin refl (cc (h))
  where
    unlike : (k : Key) → is_exchange k.kind ≡ false → k ≡ key → ⊥
    unlike k f q = let z : is_exchange key.kind ≡ false = sym (ap (λ (i : Key). is_exchange i.kind) q) ∙ f in cc (z, ex)

    by : (o : Origin ℕ) → a.origin ≡ o → key_of x.comms o ≡ key → Divides x r (Joins a) key
    by (Grouped group tag) e q = absurd (unlike _ refl q)
    by (Duplicated c) e q = absurd (unlike _ refl q)
    by (Divided c share) e q = record { share = share; events = ap (opening_events r x) e ∙ ap (λ (i : Key). Begin_share r i share ∷ []) q }
    by (GroupedOn c tag group) e q = absurd (unlike _ refl q)
divides x r e key target session ex h = absurd (cc (h))

-- and no call is of a class
pub calls_no_class : (x : Rank) (e : Effect ℕ) (key : Key) (target : List ℕ) (session : ℕ) → after_call x e ≡ Creation key target session → is_split key.kind ≡ false
calls_no_class x (Joins a) key target session h = by a.origin (cc (h))
  where
    by : (o : Origin ℕ) → key_of x.comms o ≡ key → is_split key.kind ≡ false
    by (Grouped group tag) q = sym (ap (λ (i : Key). is_split i.kind) q)
    by (Duplicated c) q = sym (ap (λ (i : Key). is_split i.kind) q)
    by (Divided c share) q = sym (ap (λ (i : Key). is_split i.kind) q)
    by (GroupedOn c tag group) q = sym (ap (λ (i : Key). is_split i.kind) q)
calls_no_class x e key target session h = absurd (cc (h))
