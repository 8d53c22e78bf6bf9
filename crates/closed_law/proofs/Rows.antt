-- The rows of a rank's communicators have different contexts: only a verdict with a context adds one, and no other row has it.
use Rattle.std.proofs.Common.{◌≡◌, ◌≤◌, ◌==◌, ◌+◌, not, ℕ, Bool, true, false, if◌then◌else◌, List, [], ◌∷◌, map, Option, Some, None, refl, ap, subst, arith}
use Rattle.std.proofs.lemmas.Bool.Decides.{nat_tests}
use Rattle.mpi_base.specs.declared.keys.Key.{Key}
use Rattle.mpi_base.specs.declared.messages.Msg.{Msg}
use Rattle.mpi_base.specs.declared.entries.Act.{Act}
use Rattle.mpi_base.specs.declared.entries.Act.TheVariants.{Call, Answer, Deliver, Offer as MakeOffer, Settle, Leave, Back}
use Rattle.mpi_law.specs.Local.{effect_of}
use Rattle.mpi_law.specs.Local.Messages.{from_nobody}
use Rattle.mpi_law.specs.declared.effects.Origin.{Origin}
use Rattle.mpi_law.specs.declared.effects.Origin.TheVariants.{Grouped, Duplicated, Divided, GroupedOn}
use Rattle.mpi_law.specs.declared.effects.Effect.{Effect}
use Rattle.mpi_law.specs.declared.effects.Effect.TheVariants.{Says, Opens, Groups, Ungroups, Joins, Frees, Ends, Sends, Receives, Posts, NullPosts, Completes, Awaits}
use Rattle.agree_law.specs.Packets as agree
use Rattle.agree_law.specs.Kinds.{is_share}
use Rattle.agree_law.specs.Part.{stage_of}
use Rattle.agree_law.specs.declared.rows.Outcome.{Outcome}
use Rattle.agree_law.specs.declared.rows.Verdict.{Verdict}
use Rattle.agree_law.specs.declared.rows.Verdict.TheVariants.{Ready, Retry, Context, Exhausted}
use Rattle.agree_law.proofs.Lists.{AllOf, AllOf_each}
use Rattle.comm_law.specs.declared.rows.CommRow.{CommRow}
use Rattle.comm_law.specs.declared.rows.CommStage.TheVariants.{Left}
use Rattle.comm_law.specs.Comms.{Comms, at, changed, one_call_more, freed, with_stage, add, remove}
use Rattle.match_law.specs.declared.rows.Posted.{Posted}
use Rattle.match_law.specs.Box.{arrive, post}
use Rattle.mpi_protocol.specs.declared.rows.Waits.{Waits}
use Rattle.mpi_protocol.specs.declared.rows.Waits.TheVariants.{Nothing, Creation, Uncoloured, Freeing, Ending, Receiving, Awaiting}
use Rattle.mpi_protocol.specs.declared.rows.ReceiveRow.{ReceiveRow}
use Rattle.mpi_protocol.specs.Packets.{Packet, Sent, Agreeing, Message, Marker}
use Rattle.mpi_protocol.specs.Rank.{Rank, thread_at, receive_of, session_of}
use Rattle.mpi_protocol.specs.Moves.{Taking, arrives, arrives_to, posts, posts_to}
use Rattle.mpi_protocol.specs.Calls.{around_here, counted, sends_to, called, calls}
use Rattle.mpi_protocol.specs.Answers.{answers, answered, answers_creation, answers_row, answers_taken, outcome_of}
use Rattle.mpi_protocol.specs.Agreeing.{offers, settles, settles_as, with_verdict, verdict_at}
use Rattle.mpi_protocol.specs.Delivers.{delivers, taken, taken_if, takes_packet}
use Rattle.mpi_protocol.specs.Step.{step, leaves, gives_back}
use Rattle.run_law.proofs.Lists.{tally, one}
use Rattle.run_law.proofs.Rows.{row_in}
use Rattle.run_law.proofs.Bindings.{tally-snoc, tally-filter}

abbrev pub Differ : List CommRow → Type 0
Differ rows = (c : ℕ) → tally (at c) rows ≤ 1

-- so each row is the one that is found by its context
pub differ_rows : (rows : List CommRow) → Differ rows → AllOf (λ m. row_in rows m.ctx ≡ Some m) rows
differ_rows [] h = tt
differ_rows (x ∷ xs) h =
    let self : (x.ctx == x.ctx) ≡ true = grind (arith, nat_tests) in
    (rw self refl, all xs (λ m. found m) (each xs) (differ_rows xs (λ c. (let k = h c in omega (arith, k)))))
  where
    found : (m : CommRow) → 1 ≤ tally (at m.ctx) xs → row_in xs m.ctx ≡ Some m → row_in (x ∷ xs) m.ctx ≡ Some m
    found m some e = go (x.ctx == m.ctx) refl
      where
        go : (b : Bool) → (x.ctx == m.ctx) ≡ b → (if b then Some x else row_in xs m.ctx) ≡ Some m
        go false f = e
        go true f = absurd (let k = h m.ctx in let o : one (x.ctx == m.ctx) ≡ 1 = ap one f in omega (arith, k, o, some))

    each : (ys : List CommRow) → AllOf (λ m. 1 ≤ tally (at m.ctx) ys) ys
    each [] = tt
    each (y ∷ ys) =
        let self : (y.ctx == y.ctx) ≡ true = grind (arith, nat_tests) in
        let o : one (y.ctx == y.ctx) ≡ 1 = ap one self in
        (omega (arith, o), AllOf_each (λ m. 1 ≤ tally (at m.ctx) ys) (λ m. 1 ≤ tally (at m.ctx) (y ∷ ys)) ys (λ m k. omega (arith, k)) (each ys))

    all : (ys : List CommRow) → ((m : CommRow) → 1 ≤ tally (at m.ctx) xs → row_in xs m.ctx ≡ Some m → row_in (x ∷ xs) m.ctx ≡ Some m) → AllOf (λ m. 1 ≤ tally (at m.ctx) xs) ys → AllOf (λ m. row_in xs m.ctx ≡ Some m) ys → AllOf (λ m. row_in (x ∷ xs) m.ctx ≡ Some m) ys
    all [] f a b = tt
    all (y ∷ ys) f a b = (f y a.0 b.0, all ys f a.1 b.1)

-- Changes

changed_same : (test : CommRow → Bool) (f : CommRow → CommRow) (rows : List CommRow) (c : ℕ) → ((m : CommRow) → (f m).ctx ≡ m.ctx) → tally (at c) (map (λ m. if test m then f m else m) rows) ≡ tally (at c) rows
changed_same test f [] c same = refl
changed_same test f (x ∷ xs) c same = let ih = changed_same test f xs c same in go (test x) ih
  where
    go : (b : Bool) → tally (at c) (map (λ m. if test m then f m else m) xs) ≡ tally (at c) xs → one ((if b then f x else x).ctx == c) + tally (at c) (map (λ m. if test m then f m else m) xs) ≡ one (x.ctx == c) + tally (at c) xs
    go false ih = omega (arith, ih)
    go true ih = let s = ap (λ (i : ℕ). one (i == c)) (same x) in omega (arith, ih, s)

differ_changed : (test : CommRow → Bool) (f : CommRow → CommRow) (t : Comms) → ((m : CommRow) → (f m).ctx ≡ m.ctx) → Differ t.rows → Differ (changed test f t).rows
differ_changed test f t same h c = rw (changed_same test f t.rows c same) (h c)

none_at : (rows : List CommRow) (c : ℕ) → row_in rows c ≡ None → tally (at c) rows ≡ 0
none_at [] c e = refl
none_at (x ∷ xs) c e = go (x.ctx == c) refl e (none_at xs c)
  where
    go : (b : Bool) → (x.ctx == c) ≡ b → (if b then Some x else row_in xs c) ≡ None → (row_in xs c ≡ None → tally (at c) xs ≡ 0) → tally (at c) (x ∷ xs) ≡ 0
    go true f e rest = absurd (cc (e))
    go false f e rest = let ih = rest e in let o : one (x.ctx == c) ≡ 0 = ap one f in omega (arith, ih, o)

differ_add : (t : Comms) (c : ℕ) (members : List ℕ) (session : ℕ) → row_in t.rows c ≡ None → Differ t.rows → Differ (add t c members session).rows
differ_add t c members session none h d = rw (tally-snoc (at d) t.rows _) (go (c == d) refl)
  where
    go : (b : Bool) → (c == d) ≡ b → tally (at d) t.rows + one (c == d) ≤ 1
    go true e =
        let is : c ≡ d = grind (arith, nat_tests, e) in
        let z : tally (at d) t.rows ≡ 0 = subst (λ (i : ℕ). tally (at i) t.rows ≡ 0) is (none_at t.rows c none) in
        let o : one (c == d) ≡ 1 = ap one e in
        omega (arith, z, o)
    go false e = let k = h d in let o : one (c == d) ≡ 0 = ap one e in omega (arith, k, o)

differ_remove : (t : Comms) (c : ℕ) → Differ t.rows → Differ (remove t c).rows
differ_remove t c h d = let a = tally-filter (at d) (λ (m : CommRow). not (at c m)) t.rows in let k = h d in omega (arith, a, k)

-- Steps

abbrev RowsAfter : Rank → Type 0
RowsAfter x = Differ x.comms.rows

arrived : (x : Rank) (m : Msg) → RowsAfter x → RowsAfter (arrives x m).0
arrived x m h = go (arrive x.box m).1
  where
    go : (o : Option Posted) → RowsAfter (arrives_to x m (arrive x.box m).0 o).0
    go None = h
    go (Some p) = h

posted : (x : Rank) (p : Posted) → RowsAfter x → RowsAfter (posts x p).0
posted x p h = go (post x.box p).1
  where
    go : (o : Option Msg) → RowsAfter (posts_to x p.number (post x.box p).0 o).0
    go None = h
    go (Some m) = h

abbrev OnSent : Taking × List Sent → Type 0
OnSent done = RowsAfter done.0.0

sent : (x : Rank) (m : Msg) (to : ℕ) → RowsAfter x → RowsAfter (sends_to x m to).0.0
sent x m to h = go (to == x.rank)
  where
    go : (b : Bool) → OnSent (if b then (arrives x m, []) else ((x, None), record { to = to; packet = Message m } ∷ []))
    go true = arrived x m h
    go false = h

differ_counted : (t : Comms) (o : Origin ℕ) → Differ t.rows → Differ (counted t o).rows
differ_counted t (Grouped group tag) h = h
differ_counted t (Duplicated c) h = differ_changed (at c) one_call_more t (λ m. refl) h
differ_counted t (Divided c share) h = differ_changed (at c) one_call_more t (λ m. refl) h
differ_counted t (GroupedOn c tag group) h = h

differ_called : (x : Rank) (t : ℕ) (e : Effect ℕ) → RowsAfter x → RowsAfter (called x t e).state
differ_called x t (Says said) h = h
differ_called x t (Opens target) h = h
differ_called x t (Groups target members session) h = h
differ_called x t (Ungroups name) h = h
differ_called x t (Joins a) h = differ_counted x.comms a.origin h
differ_called x t (Frees name c) h = differ_changed (at c) freed x.comms (λ m. refl) h
differ_called x t (Ends name s) h = differ_changed (λ m. m.session == s) freed x.comms (λ m. refl) h
differ_called x t (Sends m) h = sent _ _ _ h
differ_called x t (Receives a) h = posted _ _ h
differ_called x t (Posts target a) h = posted _ _ h
differ_called x t (NullPosts target) h = h
differ_called x t (Completes name n) h = h
differ_called x t (Awaits name) h = h

differ_answered : (x : Rank) (t : ℕ) (w : Waits) → RowsAfter x → RowsAfter (answered x t w).state
differ_answered x t Nothing h = h
differ_answered x t (Creation key target session) h = go (outcome_of (stage_of x.agree.opened key))
  where
    go : (o : Option Outcome) → RowsAfter (answers_creation x t key target session o).state
    go None = h
    go (Some o) = h
differ_answered x t (Uncoloured key target session) h = h
differ_answered x t (Freeing serial) h = h
differ_answered x t (Ending session) h = h
differ_answered x t (Awaiting name) h = h
differ_answered x t (Receiving n) h = go (n == 0) (receive_of x.receives n)
  where
    by : (room : ℕ) (o : Option Msg) → RowsAfter (answers_taken x t n room o).state
    by room None = h
    by room (Some m) = h

    go : (b : Bool) (o : Option ReceiveRow) → RowsAfter (if b then answers x t from_nobody else answers_row x t n o).state
    go true o = h
    go false None = h
    go false (Some y) = by y.room y.taken

differ_verdict : (x : Rank) (key : Key) (v : Verdict) → ((c : ℕ) → v ≡ Context c → row_in x.comms.rows c ≡ None) → RowsAfter x → RowsAfter (with_verdict x key v)
differ_verdict x key Ready free h = h
differ_verdict x key Retry free h = h
differ_verdict x key (Context c) free h = differ_add x.comms c key.members (session_of x.threads key) (free c refl) h
differ_verdict x key Exhausted free h = h

-- a context that comes with a verdict, or is settled, has no row
abbrev pub DownIsFree : Rank → ℕ → Option Packet → Type 0
DownIsFree x from p = (key : Key) (i c : ℕ) → p ≡ Some (Agreeing (agree.Down key i (Context c))) → row_in x.comms.rows c ≡ None

abbrev pub ActIsFree : Rank → Act → Option Packet → Type 0
ActIsFree x (Call t op) p = Unit {0}
ActIsFree x (Answer t) p = Unit {0}
ActIsFree x (Deliver from) p = DownIsFree x from p
ActIsFree x (MakeOffer key) p = Unit {0}
ActIsFree x (Settle key) p = is_share key.kind ≡ false → (c : ℕ) → verdict_at x key ≡ Context c → row_in x.comms.rows c ≡ None
ActIsFree x (Leave c) p = Unit {0}
ActIsFree x (Back c) p = Unit {0}

differ_taken : (x : Rank) (from : ℕ) (p : Packet) → DownIsFree x from (Some p) → RowsAfter x → RowsAfter (taken x from p).state
differ_taken x from (Agreeing (agree.Up key i own mask)) free h = h
differ_taken x from (Agreeing (agree.Down key i v)) free h = differ_verdict x key v (λ c e. free key i c (ap (λ (z : Verdict). Some (Agreeing (agree.Down key i z))) e)) h
differ_taken x from (Agreeing (agree.Share key s)) free h = h
differ_taken x from (Agreeing (agree.Shares key list)) free h = h
differ_taken x from (Message m) free h = arrived x m h
differ_taken x from (Marker c) free h = h

differ_delivered : (x : Rank) (from : ℕ) (p : Option Packet) → DownIsFree x from p → RowsAfter x → RowsAfter (delivers x from p).state
unfolding delivers
differ_delivered x from None free h = h
differ_delivered x from (Some p) free h = go (takes_packet x from p)
  where
    go : (b : Bool) → RowsAfter (taken_if b x from p).state
    go true = differ_taken x from p free h
    go false = h

differ_settled : (x : Rank) (key : Key) → (is_share key.kind ≡ false → (c : ℕ) → verdict_at x key ≡ Context c → row_in x.comms.rows c ≡ None) → RowsAfter x → RowsAfter (settles x key).state
unfolding settles
differ_settled x key free h = go (is_share key.kind) refl
  where
    go : (b : Bool) → is_share key.kind ≡ b → RowsAfter (settles_as x key b).state
    go true e = h
    go false e = differ_verdict x key (verdict_at x key) (free e) h

pub differ_step : (x : Rank) (act : Act) (p : Option Packet) → ActIsFree x act p → Differ x.comms.rows → Differ (step x act p).state.comms.rows
unfolding step calls offers leaves gives_back
differ_step x (Call t o) p free h = differ_called x t (effect_of x.setting x.rank (around_here x) x.local o) h
differ_step x (Answer t) p free h = differ_answered x t (thread_at x t).waits h
differ_step x (Deliver from) p free h = differ_delivered x from p free h
differ_step x (MakeOffer key) p free h = h
differ_step x (Settle key) p free h = differ_settled x key free h
differ_step x (Leave c) p free h = differ_changed (at c) (with_stage Left) x.comms (λ m. refl) h
differ_step x (Back c) p free h = differ_remove x.comms c h
