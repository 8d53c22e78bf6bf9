-- An answer: that of a receive is owed by what the topic of receives says, any other is an act of run_law.
use Rattle.std.proofs.Common.{◌≡◌, ◌<◌, ◌==◌, ℕ, Bool, true, false, List, [], ◌∷◌, length, set, Option, Some, None, refl, sym, ap, ◌∙◌, arith}
use Rattle.std.specs.Option.{is_some}
use Rattle.std.proofs.lemmas.Bool.Decides.{nat_tests}
use Rattle.mpi_base.specs.declared.keys.Key.{Key}
use Rattle.mpi_base.specs.declared.messages.Msg.{Msg}
use Rattle.mpi_base.specs.declared.replies.Reply.{Reply}
use Rattle.mpi_base.specs.declared.entries.Act.TheVariants.{Answer}
use Rattle.mpi_law.specs.declared.setting.Setting.{Setting}
use Rattle.mpi_law.specs.declared.setting.TheConstants.{THREADS}
use Rattle.mpi_law.specs.Registry.State as reg
use Rattle.mpi_law.specs.Registry.State.{Registry, Wait, Creating, thread_of}
use Rattle.mpi_law.specs.Registry.Replies.{owed, owed_to}
use Rattle.mpi_law.specs.Registry.Events.{Event, Replies}
use Rattle.mpi_law.specs.Registry.Runs.{IsRegistryRun, registry_after}
use Rattle.agree_law.specs.declared.rows.Stage.{Stage}
use Rattle.agree_law.specs.declared.rows.Stage.TheVariants.{Sharing, Called, Waiting, Offered, Done}
use Rattle.agree_law.specs.Part.{stage_of}
use Rattle.mpi_protocol.specs.declared.rows.ReceiveRow.{ReceiveRow}
use Rattle.mpi_protocol.specs.declared.rows.Waits.{Waits}
use Rattle.mpi_protocol.specs.declared.rows.Waits.TheVariants.{Nothing, Creation, Uncoloured, Freeing, Ending, Receiving, Awaiting}
use Rattle.mpi_protocol.specs.Rank.{Rank, thread_at, taken_of, without_receive, receive_of}
use Rattle.mpi_protocol.specs.Answers.{outcome_of, is_done, is_answerable, answers, answered, received_reply}
use Rattle.mpi_protocol.specs.Step.{step}
use Rattle.mpi_protocol.specs.Run.{entry_events, reply_events}
use Rattle.mpi_protocol.specs.World.{World, rank_at, moved, entry_at}
use Rattle.due_law.specs.Dues.{Dues}
use Rattle.run_law.proofs.Threads.{WaitFits, row_of}
use Rattle.run_law.proofs.Joined.{Joined}
use Rattle.due_law.specs.Agreed.{Untold}
use Rattle.run_law.proofs.Endings.{Endings}
use Rattle.run_law.proofs.Parts.{thread_in}
use Rattle.run_law.proofs.AnswerSteps.{answer_creation}
use Rattle.run_law.proofs.Colourless.{colourless_goes}
use Rattle.run_law.proofs.PlainAnswers.{idle_goes, waits_too, freeing_goes, awaiting_goes, nobody_goes}
use Rattle.run_law.proofs.EndingAnswers.{ending_goes}
use Rattle.run_law.proofs.SettleSteps.{Goes}
use Rattle.message_law.proofs.Worlds.{Fits, Ground}
use Rattle.message_law.proofs.Numbers.{Shaped}
use Rattle.message_law.proofs.ReceiveAnswers.{receive_answer_step}
use Rattle.message_law.proofs.Choices.{AnswerGranted}
use Rattle.registry_law.proofs.Looks.{looks_else, looks_again}
use Rattle.registry_law.proofs.Entries.{choice_of, events_by, goes_at, allowed_all}

module _ (s : Setting) (w : World) (due : Dues) (g : Registry) (r t : ℕ) (j : Joined s w.ranks due g) (lt : r < s.ranks) (here : t < THREADS) where
  abbrev x : Rank
  x = rank_at w r

  inside : r < length w.ranks
  inside = let e = j.sizes.ranks_are in omega (arith, e, lt)

  named : x.rank ≡ r
  named = j.sizes.number r lt

  -- what the rank tells the thread, and the rank after it
  abbrev Told : Waits → Type 0
  Told a = Goes s g (reply_events r t (answered x t a).reply) (set w.ranks r (answered x t a).state) due

  -- Creations

  creation_goes : (key : Key) (target : List ℕ) (session : ℕ) → (row_of x.threads t).waits ≡ Creation key target session → is_answerable x (Creation key target session) ≡ true → Told (row_of x.threads t).waits
  creation_goes key target session ew can = go (thread_in g.ranks r t).wait refl (waits_too s w.ranks due g r t j lt here (Creation key target session) (thread_in g.ranks r t).wait ew refl)
    where
      by : (n : ℕ) → (thread_in g.ranks r t).wait ≡ Creating n → (st : Option Stage) → stage_of x.agree.opened key ≡ st → is_done (outcome_of st) ≡ true → Told (row_of x.threads t).waits
      by n ep None e d = absurd (cc (d))
      by n ep (Some (Sharing z)) e d = absurd (cc (d))
      by n ep (Some Called) e d = absurd (cc (d))
      by n ep (Some (Waiting i)) e d = absurd (cc (d))
      by n ep (Some (Offered i own)) e d = absurd (cc (d))
      by n ep (Some (Done o)) e d = answer_creation s w.ranks due g r t key target session n o j lt ew ep e

      go : (b : Wait) → (thread_in g.ranks r t).wait ≡ b → WaitFits (Creation key target session) b → Told (row_of x.threads t).waits
      go (Creating n) ep h = by n ep (stage_of x.agree.opened key) refl can
      go b ep h = absurd h

  uncoloured_goes : (key : Key) (target : List ℕ) (session : ℕ) → (row_of x.threads t).waits ≡ Uncoloured key target session → Told (row_of x.threads t).waits
  uncoloured_goes key target session ew = go (thread_in g.ranks r t).wait refl (waits_too s w.ranks due g r t j lt here (Uncoloured key target session) (thread_in g.ranks r t).wait ew refl)
    where
      go : (b : Wait) → (thread_in g.ranks r t).wait ≡ b → WaitFits (Uncoloured key target session) b → Told (row_of x.threads t).waits
      go (Creating n) ep h = colourless_goes s w.ranks due g r t key target session n j lt ew ep
      go b ep h = absurd h

  -- A receive

  -- the registry waits for the same receive
  waits_for : (k : ℕ) → (row_of x.threads t).waits ≡ Receiving k → (thread_of g r t).wait ≡ reg.Receiving k
  waits_for k ew = go (thread_in g.ranks r t).wait refl (waits_too s w.ranks due g r t j lt here (Receiving k) (thread_in g.ranks r t).wait ew refl)
    where
      go : (b : Wait) → (thread_in g.ranks r t).wait ≡ b → WaitFits (Receiving k) b → (thread_in g.ranks r t).wait ≡ reg.Receiving k
      go (reg.Receiving n) e h = e ∙ ap reg.Receiving h
      go b e h = absurd h

  -- a reply that is owed, where the rank's row of the receive goes
  taken_goes : (k : ℕ) (said : Reply) → (row_of x.threads t).waits ≡ Receiving k → owed g r t ≡ Some said
      → Goes s g (reply_events r t (Some said)) (set w.ranks r (answers (record x { receives = without_receive x.receives k }) t said).state) due
  taken_goes k said ew owes =
      let there = waits_for k ew in
      let owes_to : owed_to g r (reg.Receiving k) ≡ Some said = sym (ap (owed_to g r) there) ∙ owes in
      let goes = idle_goes s w.ranks due g r t j lt here said (reg.Receiving k) there (rw ew refl) owes_to refl in (
        goes.0,
        looks_again s w.ranks due (registry_after s g (reply_events r t (Some said))) r (answers x t said).state (answers (record x { receives = without_receive x.receives k }) t said).state inside lt (looks_else (answers x t said).state x.box (without_receive x.receives k) x.sends x.posts) goes.1,
      )

  module _ (fits : Fits w g) (shaped : Shaped w) (ground : Ground w g) where
    abbrev answering : List Event
    answering = entry_events (entry_at w (choice_of r (Answer t)))

    answer_events : answering ≡ reply_events r t (answered x t (row_of x.threads t).waits).reply
    unfolding step
    answer_events = events_by w r (Answer t) named

    receive_goes : (k : ℕ) → (row_of x.threads t).waits ≡ Receiving k → is_answerable x (Receiving k) ≡ true → Told (row_of x.threads t).waits
    receive_goes k ew can = go (k == 0) refl
      where
        run : IsRegistryRun s g (reply_events r t (answered x t (row_of x.threads t).waits).reply)
        run = rw answer_events at (allowed_all s g answering (moved w (choice_of r (Answer t))) (receive_answer_step s w g shaped ground fits r inside t k ew (waits_for k ew) can))

        -- the message that the receive has taken
        by_taken : (k == 0) ≡ false → (row : ReceiveRow) → receive_of x.receives k ≡ Some row → (o : Option Msg) → row.taken ≡ o → is_some o ≡ true → Told (row_of x.threads t).waits
        by_taken e row found None f i = absurd (cc (i))
        by_taken e row found (Some m) f i =
            let is : answered x t (row_of x.threads t).waits ≡ answers (record x { receives = without_receive x.receives k }) t (received_reply row.room m) = rw (ew, e, found, f) refl in
            let runs : IsRegistryRun s g (Replies r t (received_reply row.room m) ∷ []) = rw is at run in
            rw is (taken_goes k (received_reply row.room m) ew runs.0)

        by_row : (k == 0) ≡ false → (o : Option ReceiveRow) → receive_of x.receives k ≡ o → is_some (taken_of o) ≡ true → Told (row_of x.threads t).waits
        by_row e None f i = absurd (cc (i))
        by_row e (Some row) f i = by_taken e row f row.taken refl i

        go : (b : Bool) → (k == 0) ≡ b → Told (row_of x.threads t).waits
        go true e = let is : k ≡ 0 = grind (arith, nat_tests, e) in nobody_goes s w.ranks due g r t j lt here (ew ∙ ap Receiving is)
        go false e = by_row e (receive_of x.receives k) refl (rw e at can)

    -- Any answer

    module _ (untold : Untold w.ranks due) (own : Endings x.local x.threads) where
      told_by : (a : Waits) → (row_of x.threads t).waits ≡ a → is_answerable x a ≡ true → Told (row_of x.threads t).waits
      told_by Nothing ew can = absurd (cc (can))
      told_by (Creation key target session) ew can = creation_goes key target session ew can
      told_by (Uncoloured key target session) ew can = uncoloured_goes key target session ew
      told_by (Freeing serial) ew can = freeing_goes s w.ranks due g r t j lt here serial ew can
      told_by (Ending session) ew can = ending_goes s w.ranks due g r t j untold lt here own session ew can
      told_by (Receiving k) ew can = receive_goes k ew can
      told_by (Awaiting name) ew can = awaiting_goes s w.ranks due g r t j lt here name ew can

      pub answered_goes : is_answerable x (thread_at x t).waits ≡ true → Goes s g answering (moved w (choice_of r (Answer t))).ranks due
      unfolding step
      answered_goes can = goes_at s w g due r (Answer t) named (told_by (row_of x.threads t).waits refl can)

      granted_by : (a : Waits) → (row_of x.threads t).waits ≡ a → is_answerable x (thread_at x t).waits ≡ true → AnswerGranted s w g r t a
      granted_by Nothing ew can = tt
      granted_by (Creation key target session) ew can = (answered_goes can).0
      granted_by (Uncoloured key target session) ew can = (answered_goes can).0
      granted_by (Freeing serial) ew can = (answered_goes can).0
      granted_by (Ending session) ew can = (answered_goes can).0
      granted_by (Receiving k) ew can = waits_for k ew
      granted_by (Awaiting name) ew can = (answered_goes can).0

      pub answer_granted : is_answerable x (thread_at x t).waits ≡ true → AnswerGranted s w g r t (thread_at x t).waits
      answer_granted can = granted_by (thread_at x t).waits refl can
