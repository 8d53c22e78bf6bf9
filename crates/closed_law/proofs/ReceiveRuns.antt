-- A thread that waits for a receive has its row, in the world of every protocol run.
use Rattle.std.proofs.Common.{◌≡◌, ◌<◌, ◌≤◌, ◌==◌, ◌+◌, not, ℕ, Bool, true, false, if◌then◌else◌, List, [], ◌∷◌, ◌++◌, length, set, Option, Some, None, bytes_eq, refl, ap, ◌∙◌, arith}
use Rattle.std.proofs.lemmas.Bool.Decides.{nat_tests}
use Rattle.mpi_base.specs.declared.keys.Key.{Key}
use Rattle.mpi_base.specs.declared.messages.Msg.{Msg}
use Rattle.mpi_base.specs.declared.entries.Act.{Act}
use Rattle.mpi_base.specs.declared.entries.Act.TheVariants.{Call, Answer, Deliver, Offer as MakeOffer, Settle, Leave, Back}
use Rattle.mpi_law.specs.Local.{effect_of}
use Rattle.mpi_law.specs.Local.Messages.{from_nobody}
use Rattle.mpi_law.specs.declared.effects.Effect.{Effect}
use Rattle.mpi_law.specs.declared.effects.Effect.TheVariants.{Says, Opens, Groups, Ungroups, Joins, Frees, Ends, Sends, Receives, Posts, NullPosts, Completes, Awaits}
use Rattle.agree_law.specs.Packets as agree
use Rattle.agree_law.specs.Kinds.{is_share}
use Rattle.agree_law.specs.Part.{stage_of}
use Rattle.agree_law.specs.declared.rows.Outcome.{Outcome}
use Rattle.agree_law.specs.declared.rows.Verdict.{Verdict}
use Rattle.agree_law.specs.declared.rows.Verdict.TheVariants.{Ready, Retry, Context, Exhausted}
use Rattle.match_law.specs.declared.rows.Posted.{Posted}
use Rattle.match_law.specs.Box.{arrive, post}
use Rattle.mpi_protocol.specs.declared.rows.Waits.{Waits}
use Rattle.mpi_protocol.specs.declared.rows.Waits.TheVariants.{Nothing, Creation, Uncoloured, Freeing, Ending, Receiving, Awaiting}
use Rattle.mpi_protocol.specs.declared.rows.ReceiveRow.{ReceiveRow}
use Rattle.mpi_protocol.specs.Packets.{Packet, Sent, Agreeing, Message, Marker}
use Rattle.mpi_protocol.specs.Rank.{Rank, thread_at, receive_of}
use Rattle.mpi_protocol.specs.Moves.{Taking, arrives, arrives_to, posts, posts_to}
use Rattle.mpi_protocol.specs.Calls.{around_here, sends_to, called, calls}
use Rattle.mpi_protocol.specs.Answers.{answers, answered, answers_creation, answers_row, answers_taken, outcome_of}
use Rattle.mpi_protocol.specs.Agreeing.{offers, settles, settles_as, with_verdict, verdict_at}
use Rattle.mpi_protocol.specs.Delivers.{delivers, taken, taken_if, takes_packet}
use Rattle.mpi_protocol.specs.Step.{step, leaves, gives_back}
use Rattle.local_law.specs.Names.{unbind}
use Rattle.local_law.specs.Objects as bound
use Rattle.mpi_law.specs.Local.Objects.{Local, Bound, NameRow}
use Rattle.agree_law.specs.Shares.{share_list}
use Rattle.mpi_base.specs.declared.shares.Shared1.{Shared1}
use Rattle.mpi_base.specs.declared.entries.Entry.{Entry}
use Rattle.mpi_law.specs.declared.setting.Setting.{Setting}
use Rattle.mpi_protocol.specs.Rank.{fresh}
use Rattle.mpi_protocol.specs.Agreeing.{with_shares, next_key, colour_here}
use Rattle.mpi_protocol.specs.Answers.{target_after}
use Rattle.mpi_protocol.specs.World.{World, opening, rank_at, head_for, moved}
use Rattle.mpi_protocol.specs.Run.{RunsFrom, IsProtocolRun, world_after, end_of}
use Rattle.agree_law.specs.declared.rows.Outcome.TheVariants as outcome
use Rattle.run_law.proofs.Lists.{one}
use Rattle.run_law.proofs.Joined.{rank_in}
use Rattle.run_law.proofs.OneRank.{each_rank}
use Rattle.run_law.proofs.Opening.{each_fresh}
use Rattle.run_law.proofs.Calling.{moved_ranks}
use Rattle.closed_law.proofs.Requests.{Asks, asked_of}
use Rattle.closed_law.proofs.Receives.{waits_for, is_request, waiting, asking, Counted, counted_less, waiting_set, waiting_on, asking_bind, asking_filter, asking_rebind, asking_left, counted_taken, counted_posted, counted_answered}

abbrev CountedAt : Rank → Type 0
CountedAt x = Counted x.local.names x.threads x.receives x.posts

arrived : (x : Rank) (m : Msg) → CountedAt x → CountedAt (arrives x m).0
arrived x m h = go (arrive x.box m).1
  where
    go : (o : Option Posted) → CountedAt (arrives_to x m (arrive x.box m).0 o).0
    go None = h
    go (Some p) = counted_taken x.local.names x.threads x.receives x.posts p.number m h

posted : (x : Rank) (p : Posted) → CountedAt x → CountedAt (posts x p).0
posted x p h = go (post x.box p).1
  where
    go : (o : Option Msg) → CountedAt (posts_to x p.number (post x.box p).0 o).0
    go None = h
    go (Some m) = counted_taken x.local.names x.threads x.receives x.posts p.number m h

abbrev OnSent : Taking × List Sent → Type 0
OnSent done = CountedAt done.0.0

sent : (x : Rank) (m : Msg) (to : ℕ) → CountedAt x → CountedAt (sends_to x m to).0.0
sent x m to h = go (to == x.rank)
  where
    go : (b : Bool) → OnSent (if b then (arrives x m, []) else ((x, None), record { to = to; packet = Message m } ∷ []))
    go true = arrived x m h
    go false = h

-- a thread that waits for no receive then, where no more names ask
plain : (x : Rank) (t calls : ℕ) (w : Waits) (names : List NameRow) → ((n : ℕ) → waits_for n w ≡ false) → ((n : ℕ) → (n == 0) ≡ false → asking n names ≤ asking n x.local.names) → CountedAt x → Counted names (set x.threads t (record { calls = calls; waits = w })) x.receives x.posts
plain x t calls w names off less h = counted_less x.local.names names x.threads _ x.receives x.posts (λ n ne.
    let a = waiting_set n x.threads t (record { calls = calls; waits = w }) in
    let b = less n ne in
    let o : one (waits_for n w) ≡ 0 = ap one (off n) in
    omega (arith, a, b, o)) h

bound_more : (x : Rank) (name : List ℕ) (b : Bound) → ((n : ℕ) → (n == 0) ≡ false → is_request n b ≡ false) → (n : ℕ) → (n == 0) ≡ false → asking n (x.local.names ++ (name, b) ∷ []) ≤ asking n x.local.names
bound_more x name b off n ne = let a = asking_bind n x.local.names name b in let o : one (is_request n b) ≡ 0 = ap one (off n ne) in omega (arith, a, o)

counted_called : (x : Rank) (t : ℕ) (e : Effect ℕ) → Asks x.local.names e → CountedAt x → CountedAt (called x t e).state
counted_called x t (Says said) f h = plain x t _ Nothing x.local.names (λ n. refl) (λ n ne. omega arith) h
counted_called x t (Opens target) f h = plain x t _ Nothing _ (λ n. refl) (bound_more x target _ (λ n ne. refl)) h
counted_called x t (Groups target members session) f h = plain x t _ Nothing _ (λ n. refl) (bound_more x target _ (λ n ne. refl)) h
counted_called x t (Ungroups name) f h = plain x t _ Nothing _ (λ n. refl) (λ n ne. asking_filter n x.local.names _) h
counted_called x t (Joins a) f h = plain x t _ (Creation _ _ _) _ (λ n. refl) (bound_more x a.target _ (λ n ne. refl)) h
counted_called x t (Frees name c) f h = plain x t _ (Freeing _) _ (λ n. refl) (λ n ne. asking_filter n x.local.names _) h
counted_called x t (Ends name s) f h = plain x t _ (Ending s) _ (λ n. refl) (λ n ne. asking_filter n x.local.names _) h
counted_called x t (Sends m) f h = sent _ _ _ (plain x t _ Nothing x.local.names (λ n. refl) (λ n ne. omega arith) h)
counted_called x t (Receives a) f h = posted _ _ (counted_posted x.local.names x.local.names x.threads _ x.receives x.posts a.room (λ n ne. (let k = waiting_set n x.threads t (record { calls = (thread_at x t).calls + 1; waits = Receiving (x.posts + 1) }) in omega (arith, k))) h)
counted_called x t (Posts target a) f h = posted _ _ (counted_posted x.local.names _ x.threads _ x.receives x.posts a.room (λ n ne. (let k = waiting_set n x.threads t (record { calls = (thread_at x t).calls + 1; waits = Nothing }) in let b = asking_bind n x.local.names target (bound.Request (x.posts + 1)) in omega (arith, k, b))) h)
counted_called x t (NullPosts target) f h = plain x t _ Nothing _ (λ n. refl) (bound_more x target _ (λ n ne. grind (arith, nat_tests, ne))) h
counted_called x t (Completes name k) f h = counted_less x.local.names (unbind x.local.names name) x.threads _ x.receives x.posts (λ n ne. go n (k == n) refl (waiting_set n x.threads t (record { calls = (thread_at x t).calls + 1; waits = Receiving k }))) h
  where
    go : (n : ℕ) (b : Bool) → (k == n) ≡ b → waiting n (set x.threads t (record { calls = (thread_at x t).calls + 1; waits = Receiving k })) ≤ waiting n x.threads + one (k == n)
        → waiting n (set x.threads t (record { calls = (thread_at x t).calls + 1; waits = Receiving k })) + asking n (unbind x.local.names name) ≤ waiting n x.threads + asking n x.local.names
    go n false e a = let o : one (k == n) ≡ 0 = ap one e in let b = asking_filter n x.local.names (λ row. not (bytes_eq row.0 name)) in omega (arith, a, o, b)
    go n true e a =
        let is : k ≡ n = grind (arith, nat_tests, e) in
        let o : one (k == n) ≡ 1 = ap one e in
        let b = asking_left n x.local.names name (f ∙ ap (λ (i : ℕ). Some (bound.Request i)) is) in
        omega (arith, a, o, b)
counted_called x t (Awaits name) f h = plain x t _ (Awaiting name) x.local.names (λ n. refl) (λ n ne. omega arith) h

target_less : (l : Local) (target : List ℕ) (session n : ℕ) (o : Outcome) → asking n (target_after l target session o).names ≤ asking n l.names
target_less l target session n (outcome.Context c) = asking_rebind n l.names target _ refl
target_less l target session n outcome.Exhausted = asking_filter n l.names _

counted_answer : (x : Rank) (t : ℕ) (w : Waits) → (thread_at x t).waits ≡ w → CountedAt x → CountedAt (answered x t w).state
counted_answer x t Nothing e h = h
counted_answer x t (Creation key target session) e h = go (outcome_of (stage_of x.agree.opened key))
  where
    go : (o : Option Outcome) → CountedAt (answers_creation x t key target session o).state
    go None = h
    go (Some o) = plain x t _ Nothing _ (λ n. refl) (λ n ne. target_less x.local target session n o) h
counted_answer x t (Uncoloured key target session) e h = plain x t _ Nothing _ (λ n. refl) (λ n ne. asking_filter n x.local.names _) h
counted_answer x t (Freeing serial) e h = plain x t _ Nothing x.local.names (λ n. refl) (λ n ne. omega arith) h
counted_answer x t (Ending session) e h = plain x t _ Nothing x.local.names (λ n. refl) (λ n ne. omega arith) h
counted_answer x t (Awaiting name) e h = plain x t _ Nothing x.local.names (λ n. refl) (λ n ne. omega arith) h
counted_answer x t (Receiving k) e h = go (k == 0) refl (receive_of x.receives k)
  where
    by : (k == 0) ≡ false → (room : ℕ) (o : Option Msg) → CountedAt (answers_taken x t k room o).state
    by z room None = h
    by z room (Some m) = counted_answered x.local.names x.threads x.receives x.posts t k _ e z h

    go : (b : Bool) → (k == 0) ≡ b → (o : Option ReceiveRow) → CountedAt (if b then answers x t from_nobody else answers_row x t k o).state
    go true z o = plain x t _ Nothing x.local.names (λ n. refl) (λ n ne. omega arith) h
    go false z None = h
    go false z (Some y) = by z y.room y.taken

counted_verdict : (x : Rank) (key : Key) (v : Verdict) → CountedAt x → CountedAt (with_verdict x key v)
counted_verdict x key Ready h = h
counted_verdict x key Retry h = h
counted_verdict x key (Context c) h = h
counted_verdict x key Exhausted h = h

counted_shares : (x : Rank) (key : Key) (list : List Shared1) → CountedAt x → CountedAt (with_shares x key list)
counted_shares x key list h = counted_less x.local.names x.local.names x.threads _ x.receives x.posts (λ n ne. (let a = waiting_on n x.threads key (next_key key (colour_here x key list) list) in omega (arith, a))) h

counted_in : (x : Rank) (from : ℕ) (p : Packet) → CountedAt x → CountedAt (taken x from p).state
counted_in x from (Agreeing (agree.Up key i own mask)) h = h
counted_in x from (Agreeing (agree.Down key i v)) h = counted_verdict x key v h
counted_in x from (Agreeing (agree.Share key s)) h = h
counted_in x from (Agreeing (agree.Shares key list)) h = counted_shares x key list h
counted_in x from (Message m) h = arrived x m h
counted_in x from (Marker c) h = h

counted_delivered : (x : Rank) (from : ℕ) (p : Option Packet) → CountedAt x → CountedAt (delivers x from p).state
unfolding delivers
counted_delivered x from None h = h
counted_delivered x from (Some p) h = go (takes_packet x from p)
  where
    go : (b : Bool) → CountedAt (taken_if b x from p).state
    go true = counted_in x from p h
    go false = h

counted_settled : (x : Rank) (key : Key) → CountedAt x → CountedAt (settles x key).state
unfolding settles
counted_settled x key h = go (is_share key.kind)
  where
    go : (b : Bool) → CountedAt (settles_as x key b).state
    go true = counted_shares x key (share_list x.agree.shares key) h
    go false = counted_verdict x key (verdict_at x key) h

counted_step : (x : Rank) (act : Act) (p : Option Packet) → CountedAt x → CountedAt (step x act p).state
unfolding step calls offers leaves gives_back
counted_step x (Call t o) p h = counted_called x t (effect_of x.setting x.rank (around_here x) x.local o) (asked_of x.setting x.rank (around_here x) x.local o) h
counted_step x (Answer t) p h = counted_answer x t (thread_at x t).waits refl h
counted_step x (Deliver from) p h = counted_delivered x from p h
counted_step x (MakeOffer key) p h = h
counted_step x (Settle key) p h = counted_settled x key h
counted_step x (Leave c) p h = h
counted_step x (Back c) p h = h

-- Runs

abbrev pub AllCounted : List Rank → Type 0
AllCounted ranks = (r : ℕ) → CountedAt (rank_in ranks r)

counted_run : (w : World) (journal : List Entry) → RunsFrom w journal → AllCounted w.ranks → AllCounted (world_after w journal).ranks
counted_run w [] run h = h
counted_run w (e ∷ rest) run h =
    let may = run.0 in
    let lr : e.choice.rank < length w.ranks = grind (arith, nat_tests, may) in
    counted_run (moved w e.choice) rest run.2
    (rw (moved_ranks w e.choice) (each_rank (λ q x. CountedAt x) w.ranks e.choice.rank _ lr (counted_step (rank_at w e.choice.rank) e.choice.act (head_for w e.choice.rank e.choice.act) (h e.choice.rank)) (λ q ne. h q)))

counted_fresh : (s : Setting) (r : ℕ) → CountedAt (fresh s r)
counted_fresh s r = record { each = λ n ne. omega arith; above = λ n lt. refl }

pub counted_at_end : (s : Setting) (journal : List Entry) → IsProtocolRun s journal → AllCounted (end_of s journal).ranks
counted_at_end s journal run = counted_run (opening s) journal run (each_fresh s CountedAt counted_fresh)
