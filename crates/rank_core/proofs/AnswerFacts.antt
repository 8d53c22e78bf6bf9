-- Answers: what a thread has waited for is over.
use Rattle.std.proofs.Common.{◌≡◌, ◌==◌, ◌||◌, ℕ, Bool, true, false, if◌then◌else◌, List, [], refl, ◌∙◌, ap, sym, subst, arith, Option, Some, None}
use Rattle.std.specs.Prelude.{is_some}
use Rattle.agree_law.specs.declared.rows.Outcome.{Outcome}
use Rattle.agree_law.specs.Part.{stage_of}
use Rattle.mpi_base.specs.declared.entries.Act.TheVariants.{Answer}
use Rattle.mpi_base.specs.declared.entries.Entry.{Entry}
use Rattle.mpi_base.specs.declared.keys.Key.{Key}
use Rattle.mpi_base.specs.declared.messages.Msg.{Msg}
use Rattle.mpi_base.specs.declared.replies.Reply.{Reply}
use Rattle.mpi_law.specs.Local.Messages.{from_nobody}
use Rattle.mpi_protocol.specs.declared.rows.ReceiveRow.{ReceiveRow}
use Rattle.mpi_protocol.specs.declared.rows.ThreadRow.{ThreadRow}
use Rattle.mpi_protocol.specs.declared.rows.Waits.{Waits}
use Rattle.mpi_protocol.specs.declared.rows.Waits.TheVariants.{Nothing, Creation, Uncoloured, Freeing, Ending, Receiving, Awaiting}
use Rattle.mpi_protocol.specs.Answers.{answered, answers, answers_creation, answers_row, answers_taken, is_answerable, is_done, outcome_of, reply_of}
use Rattle.mpi_protocol.specs.Moves.{Move}
use Rattle.mpi_protocol.specs.Rank.{Rank, receive_of, taken_of, thread_at, with_waits}
use Rattle.mpi_protocol.specs.Step.{is_enabled, step}
use Rattle.mpi_protocol.specs.Stepping.{Steps}
use Rattle.rank_core.specs.Held.{Held}
use Rattle.rank_core.proofs.ActFacts.{steps-of}

-- the reply at the end of a creation
pub creation-reply : (x : Rank) (t : ℕ) (key : Key) (target : List ℕ) (session : ℕ) (o : Option Outcome) (said : Reply) → is_done o ≡ true
    → ((p : Outcome) → o ≡ Some p → said ≡ reply_of x.rank key p) → Some said ≡ (answers_creation x t key target session o).reply
creation-reply x t key target session None said done is = absurd (cc (done))
creation-reply x t key target session (Some p) said done is = ap (λ (r : Reply). Some r) (is p refl)

-- The thread waits for nothing already, and for nothing more once it is answered

abbrev freed : Rank → ℕ → Rank
freed x t = record x { threads = with_waits x t Nothing }

-- a move, and the same one where the thread waits for nothing already
abbrev IsSame : Rank → ℕ → Move → Move → Type 0
IsSame x t m k = m ≡ record { state = record k.state { threads = with_waits x t Nothing }; said = None; matched = None; dropped = None; reply = k.reply; sent = [] }

same-creation : (x : Rank) (t : ℕ) (key : Key) (target : List ℕ) (session : ℕ) (o : Option Outcome) → is_done o ≡ true
    → IsSame x t (answers_creation x t key target session o) (answers_creation (freed x t) t key target session o)
same-creation x t key target session None done = absurd (cc (done))
same-creation x t key target session (Some p) done = refl

same-taken : (x : Rank) (t n room : ℕ) (o : Option Msg) → is_some o ≡ true → IsSame x t (answers_taken x t n room o) (answers_taken (freed x t) t n room o)
same-taken x t n room None taken = absurd (cc (taken))
same-taken x t n room (Some m) taken = refl

same-row : (x : Rank) (t n : ℕ) (o : Option ReceiveRow) → is_some (taken_of o) ≡ true → IsSame x t (answers_row x t n o) (answers_row (freed x t) t n o)
same-row x t n None taken = absurd (cc (taken))
same-row x t n (Some w) taken = same-taken x t n w.room w.taken taken

same-receive : (x : Rank) (t n : ℕ) (b : Bool) → (b || is_some (taken_of (receive_of x.receives n))) ≡ true
    → IsSame x t (if b then answers x t from_nobody else answers_row x t n (receive_of x.receives n))
    (if b then answers (freed x t) t from_nobody else answers_row (freed x t) t n (receive_of x.receives n))
same-receive x t n true there = refl
same-receive x t n false there = same-row x t n (receive_of x.receives n) there

same : (x : Rank) (t : ℕ) (w : Waits) → is_answerable x w ≡ true → IsSame x t (answered x t w) (answered (freed x t) t w)
same x t Nothing there = absurd (cc (there))
same x t (Creation key target session) there = same-creation x t key target session (outcome_of (stage_of x.agree.opened key)) there
same x t (Uncoloured key target session) there = refl
same x t (Freeing serial) there = refl
same x t (Ending session) there = refl
same x t (Receiving n) there = same-receive x t n (n == 0) there
same x t (Awaiting name) there = refl

-- an answer leaves the rank's number and its setting
abbrev Stays : Rank → Move → Type 0
Stays x m = (m.state.rank ≡ x.rank) × (m.state.setting ≡ x.setting)

stays-creation : (x : Rank) (t : ℕ) (key : Key) (target : List ℕ) (session : ℕ) (o : Option Outcome) → Stays x (answers_creation x t key target session o)
stays-creation x t key target session None = (refl, refl)
stays-creation x t key target session (Some p) = (refl, refl)

stays-taken : (x : Rank) (t n room : ℕ) (o : Option Msg) → Stays x (answers_taken x t n room o)
stays-taken x t n room None = (refl, refl)
stays-taken x t n room (Some m) = (refl, refl)

stays-row : (x : Rank) (t n : ℕ) (o : Option ReceiveRow) → Stays x (answers_row x t n o)
stays-row x t n None = (refl, refl)
stays-row x t n (Some w) = stays-taken x t n w.room w.taken

stays-receive : (x : Rank) (t n : ℕ) (b : Bool) → Stays x (if b then answers x t from_nobody else answers_row x t n (receive_of x.receives n))
stays-receive x t n true = (refl, refl)
stays-receive x t n false = stays-row x t n (receive_of x.receives n)

stays-answered : (x : Rank) (t : ℕ) (w : Waits) → Stays x (answered x t w)
stays-answered x t Nothing = (refl, refl)
stays-answered x t (Creation key target session) = stays-creation x t key target session (outcome_of (stage_of x.agree.opened key))
stays-answered x t (Uncoloured key target session) = (refl, refl)
stays-answered x t (Freeing serial) = (refl, refl)
stays-answered x t (Ending session) = (refl, refl)
stays-answered x t (Receiving n) = stays-receive x t n (n == 0)
stays-answered x t (Awaiting name) = (refl, refl)

-- The step

step-answer : (x : Rank) (t : ℕ) → step x (Answer t) None ≡ answered x t (thread_at x t).waits
unfolding step
step-answer x t = refl

answerable : (x : Rank) (t : ℕ) → is_enabled x (Answer t) ≡ true → is_answerable x (thread_at x t).waits ≡ true
unfolding is_enabled
answerable x t enabled = grind (arith, enabled)

module _ (h old : Held) (t : ℕ) (w : Waits) (threads : List ThreadRow) (new : Rank) (said : Reply) (is : h ≡ old) (at : w ≡ (thread_at h.state t).waits)
    (waiting : threads ≡ with_waits h.state t Nothing) (state : new ≡ record (answered (record h.state { threads = threads }) t w).state { threads = threads })
    (reply : Some said ≡ (answered (record h.state { threads = threads }) t w).reply) where
  next : new ≡ record (answered (freed h.state t) t (thread_at h.state t).waits).state { threads = with_waits h.state t Nothing }
  next = rw (waiting, at) at state

  reply_here : Some said ≡ (answered (freed h.state t) t (thread_at h.state t).waits).reply
  reply_here = rw (waiting, at) at reply

  pub answer-rank : new.rank ≡ old.state.rank
  answer-rank = ap (λ (x : Rank). x.rank) next ∙ ((stays-answered (freed h.state t) t (thread_at h.state t).waits).0 ∙ ap (λ (o : Held). o.state.rank) is)

  pub answer-setting : new.setting ≡ old.state.setting
  answer-setting = ap (λ (x : Rank). x.setting) next ∙ ((stays-answered (freed h.state t) t (thread_at h.state t).waits).1 ∙ ap (λ (o : Held). o.state.setting) is)

  pub answer-steps : (line : Entry) → is_enabled old.state (Answer t) ≡ true
      → line ≡ record { choice = record { rank = new.rank; act = Answer t }; brief = None; said = None; matched = None; dropped = None; reply = Some said } → Steps old.state (Answer t) None new line []
  answer-steps line enabled entry =
      let there : is_answerable h.state (thread_at h.state t).waits ≡ true = answerable h.state t (subst (λ (o : Held). is_enabled o.state (Answer t) ≡ true) (sym is) enabled) in
      let rank : new.rank ≡ h.state.rank = ap (λ (x : Rank). x.rank) next ∙ (stays-answered (freed h.state t) t (thread_at h.state t).waits).0 in
      steps-of h old (Answer t) None _ new line [] is (step-answer h.state t ∙ same h.state t (thread_at h.state t).waits there) next (entry ∙ rw (rank, reply_here) refl) refl
