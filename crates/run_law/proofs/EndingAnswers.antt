-- The answer of a thread that waits for the end of a session: each communicator of the session is given back. The rank knows
-- none, and none is due to it, as no creation of the session is open.
use Rattle.std.proofs.Common.{◌≡◌, ◌<◌, ℕ, ◌==◌, ◌&&◌, not, Bool, true, false, List, length, set, Option, Some, None, refl, sym, ap, ◌∙◌, subst, arith}
use Rattle.std.specs.List.{list_any}
use Rattle.std.proofs.lemmas.Bool.Decides.{nat_tests}
use Rattle.mpi_base.specs.declared.replies.Reply.TheVariants as reply
use Rattle.mpi_law.specs.declared.setting.Setting.{Setting}
use Rattle.mpi_law.specs.declared.setting.TheConstants.{THREADS}
use Rattle.mpi_law.specs.Registry.State as reg
use Rattle.mpi_law.specs.Registry.State.{Registry, Wait, Outcome, Made, NoneFree, blank_comm, session_at}
use Rattle.mpi_law.specs.Registry.Creations.{outcome_for}
use Rattle.mpi_law.specs.Registry.Contexts.{comm_of, is_live_at}
use Rattle.mpi_law.specs.Registry.Replies.{is_left_of, fine_if}
use Rattle.agree_law.specs.declared.rows.Stage.{Stage}
use Rattle.agree_law.specs.declared.rows.Stage.TheVariants.{Sharing, Called, Waiting, Offered, Done}
use Rattle.agree_law.specs.declared.rows.Verdict.{Verdict}
use Rattle.agree_law.specs.declared.rows.Verdict.TheVariants.{Context}
use Rattle.agree_law.specs.Part.{stage_of}
use Rattle.comm_law.specs.declared.rows.CommRow.{CommRow}
use Rattle.comm_law.specs.Comms.{has_session}
use Rattle.mpi_protocol.specs.declared.rows.Waits.{Waits}
use Rattle.mpi_protocol.specs.declared.rows.Waits.TheVariants.{Creation as Creates, Ending}
use Rattle.mpi_protocol.specs.declared.rows.ThreadRow.{ThreadRow}
use Rattle.mpi_protocol.specs.Rank.{Rank, idle_thread}
use Rattle.mpi_protocol.specs.Answers.{answered, answers, is_answerable}
use Rattle.mpi_protocol.specs.Run.{reply_events}
use Rattle.run_law.proofs.Lists.{All_at, none_at}
use Rattle.run_law.proofs.Rows.{row_in, row_any}
use Rattle.run_law.proofs.Contexts.{comm_of_live}
use Rattle.due_law.specs.Dues.{Dues}
use Rattle.run_law.proofs.Threads.{WaitFits, row_of}
use Rattle.run_law.proofs.Creations.{StageFits, DueFits, comm_in, creation_in}
use Rattle.run_law.proofs.Comms.{CommFits, DueComm}
use Rattle.run_law.proofs.Joined.{rank_in, Joined}
use Rattle.due_law.specs.Agreed.{Untold}
use Rattle.run_law.proofs.Waiters.{Waiter, waiter_of}
use Rattle.run_law.proofs.Parts.{thread_in}
use Rattle.run_law.proofs.PlainAnswers.{idle_goes, waits_too}
use Rattle.run_law.proofs.Endings.{is_live, WaitLives, Endings}
use Rattle.run_law.proofs.SettleSteps.{Goes}

module _ (s : Setting) (ranks : List Rank) (due : Dues) (g : Registry) (r t : ℕ) (j : Joined s ranks due g) (untold : Untold ranks due) (lt : r < s.ranks) (here : t < THREADS) (own : Endings (rank_in ranks r).local (rank_in ranks r).threads)
    (session : ℕ) (ew : (row_of (rank_in ranks r).threads t).waits ≡ Ending session) (can : is_answerable (rank_in ranks r) (Ending session) ≡ true) where
  abbrev x : Rank
  x = rank_in ranks r

  wait_lives : (u : ℕ) (w : Waits) → (row_of x.threads u).waits ≡ w → WaitLives x.local.live x.local.opened w
  wait_lives u w e = subst (λ (v : Waits). WaitLives x.local.live x.local.opened v) e (All_at (λ (z : ThreadRow). WaitLives x.local.live x.local.opened z.waits) x.threads idle_thread u own.waits tt)

  -- no communicator of the session is due to the rank
  not_due : (p c : ℕ) → comm_of g.comms r c ≡ Some p → session_at (comm_in g.comms p) r ≡ session → DueComm g.creations r x.agree.owner (due r) c p → ⊥
  not_due p c stands of_it d = staged (stage_of x.agree.opened d.key) refl
    where
      made : (q from : ℕ) → comm_of g.comms r c ≡ Some q → session_at (comm_in g.comms q) r ≡ from → is_live x.local.live from ≡ true → ⊥
      made q from there is lives =
          let same : q ≡ p = cc (there, stands) in
          let f : from ≡ session = sym is ∙ (ap (λ (i : ℕ). session_at (comm_in g.comms i) r) same ∙ of_it) in
          let a : is_live x.local.live session ≡ true = subst (λ (i : ℕ). is_live x.local.live i ≡ true) f lives in
          let b = (wait_lives t (Ending session) ew).0 in
          cc (a, b)

      of_due : (from : ℕ) → is_live x.local.live from ≡ true → (o : Option Outcome) → DueFits g.comms r d.key from (Some (Context c)) o → ⊥
      of_due from lives None h = h
      of_due from lives (Some (Made q)) h = made q from h.stands h.session_is lives
      of_due from lives (Some NoneFree) h = h

      far : (w : Waiter s ranks due g j r d.key) → StageFits g.comms x.comms.rows x.local.names r d.key w.session (Some (Context c)) (stage_of x.agree.opened d.key) (outcome_for (creation_in g.creations w.place) r)
      far w = subst (λ (v : Option Verdict). StageFits g.comms x.comms.rows x.local.names r d.key w.session v (stage_of x.agree.opened d.key) (outcome_for (creation_in g.creations w.place) r)) d.said w.fits.far

      at : (w : Waiter s ranks due g j r d.key) (st : Option Stage) (o : Option Outcome) → StageFits g.comms x.comms.rows x.local.names r d.key w.session (Some (Context c)) st o → ⊥
      at w None o h = h
      at w (Some (Sharing z)) o h = let n = h.0 in cc (n)
      at w (Some Called) o h = let n = h.0 in cc (n)
      at w (Some (Waiting i)) o h = let n = h.0 in cc (n)
      at w (Some (Offered i mine)) o h = of_due w.session (wait_lives w.thread (Creates d.key w.target w.session) w.waits) o h
      at w (Some (Done z)) o h = let n = h.0 in cc (n)

      staged : (st : Option Stage) → stage_of x.agree.opened d.key ≡ st → ⊥
      staged None e = let n = untold r d.key e in let y = d.said in cc (n, y)
      staged (Some st) e = let w = waiter_of s ranks due g j r d.key (rw e refl) in at w (stage_of x.agree.opened d.key) (outcome_for (creation_in g.creations w.place) r) (far w)

  -- so each is given back
  none_left : list_any (is_left_of r session) g.comms ≡ false
  none_left = none_at (is_left_of r session) g.comms blank_comm (λ p lp. at p lp (is_live_at (comm_in g.comms p) r) refl (session_at (comm_in g.comms p) r == session) refl)
    where
      known : (p c : ℕ) → session_at (comm_in g.comms p) r ≡ session → (o : Option CommRow) → row_in x.comms.rows c ≡ o → (q : Option ℕ) → comm_of g.comms r c ≡ q → q ≡ Some p → CommFits g.comms g.creations r x.agree.owner (due r) c o q → ⊥
      known p c of_it None eo None eq e h = cc (e)
      known p c of_it (Some m) eo None eq e h = h
      known p c of_it None eo (Some q) eq e h = let is : q ≡ p = cc (e) in not_due p c (eq ∙ e) of_it (subst (λ (i : ℕ). DueComm g.creations r x.agree.owner (due r) c i) is h)
      known p c of_it (Some m) eo (Some q) eq e h =
          let is : q ≡ p = cc (e) in
          let its : m.session ≡ session = h.session ∙ (ap (λ (i : ℕ). session_at (comm_in g.comms i) r) is ∙ of_it) in
          let some : has_session x.comms session ≡ true = row_any x.comms.rows c m (λ (z : CommRow). z.session == session) eo (grind (arith, nat_tests, its)) in
          let none : has_session x.comms session ≡ false = grind (arith, can) in
          cc (some, none)

      at : (p : ℕ) → p < length g.comms → (a : Bool) → is_live_at (comm_in g.comms p) r ≡ a → (b : Bool) → (session_at (comm_in g.comms p) r == session) ≡ b → (is_live_at (comm_in g.comms p) r && (session_at (comm_in g.comms p) r == session)) ≡ false
      at p lp false ea b eb = rw ea refl
      at p lp true ea false eb = rw (ea, eb) refl
      at p lp true ea true eb =
          let c : ℕ = (comm_in g.comms p).ctx in
          let stands = comm_of_live g.comms r p j.whole.apart lp ea in
          absurd (known p c (grind (arith, nat_tests, eb)) (row_in x.comms.rows c) refl (comm_of g.comms r c) refl stands ((j.comms r).each c))

  -- the thread is answered
  pub ending_goes : Goes s g (reply_events r t (answered x t (row_of x.threads t).waits).reply) (set ranks r (answered x t (row_of x.threads t).waits).state) due
  ending_goes = rw ew (go (thread_in g.ranks r t).wait refl (waits_too s ranks due g r t j lt here (Ending session) (thread_in g.ranks r t).wait ew refl))
    where
      go : (b : Wait) → (thread_in g.ranks r t).wait ≡ b → WaitFits (Ending session) b → Goes s g (reply_events r t (answers x t reply.Fine).reply) (set ranks r (answers x t reply.Fine).state) due
      go (reg.Ending q) e h =
          let all : not (list_any (is_left_of r q) g.comms) ≡ true = rw h (ap not none_left) in
          idle_goes s ranks due g r t j lt here reply.Fine (reg.Ending q) e (rw ew refl) (ap fine_if all) refl
      go b e h = absurd h
