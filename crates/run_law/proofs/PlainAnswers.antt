-- Answers that bind nothing: of a communicator that is given back, of a name that is bound, of a receive from the null process.
use Rattle.std.proofs.Common.{◌≡◌, ◌<◌, ℕ, true, false, List, get_or, set, Option, Some, refl, ap, ◌∙◌, subst, arith}
use Rattle.mpi_base.specs.MemberLists.{has_rank}
use Rattle.mpi_base.specs.declared.replies.Reply.{Reply}
use Rattle.mpi_base.specs.declared.replies.Reply.TheVariants as reply
use Rattle.local_law.specs.Objects as bound
use Rattle.mpi_law.specs.declared.setting.Setting.{Setting}
use Rattle.mpi_law.specs.declared.setting.TheConstants.{THREADS}
use Rattle.mpi_law.specs.Local.Objects.{Bound, is_bound}
use Rattle.mpi_law.specs.Local.Messages.{from_nobody}
use Rattle.mpi_law.specs.Registry.State as reg
use Rattle.mpi_law.specs.Registry.State.{Registry, ThreadPart, Wait, blank_part, part_of, comm_at, with_wait}
use Rattle.mpi_law.specs.Registry.Replies.{owed_to, fine_if}
use Rattle.mpi_law.specs.Registry.Replies as registry_answer
use Rattle.mpi_law.specs.Registry.Events.{registry_next}
use Rattle.mpi_protocol.specs.declared.rows.Waits.{Waits}
use Rattle.mpi_protocol.specs.declared.rows.Waits.TheVariants.{Nothing, Freeing, Receiving, Awaiting}
use Rattle.mpi_protocol.specs.Rank.{Rank}
use Rattle.mpi_protocol.specs.Answers.{answered, answers, is_answerable}
use Rattle.mpi_protocol.specs.Run.{reply_events}
use Rattle.due_law.specs.Dues.{Dues}
use Rattle.run_law.proofs.Threads.{WaitFits, row_of, part_row}
use Rattle.run_law.proofs.Joined.{rank_in, Joined}
use Rattle.run_law.proofs.Bindings.{BothBound, neither, both, bound-fits}
use Rattle.run_law.proofs.Locals.{BoundFits}
use Rattle.run_law.proofs.Parts.{thread_in}
use Rattle.run_law.proofs.CallParts.{parts_set}
use Rattle.run_law.proofs.OneThread.{is_creation, uncreated, uncreated_key, thread_joined}
use Rattle.run_law.proofs.SettleSteps.{Goes}

module _ (s : Setting) (ranks : List Rank) (due : Dues) (g : Registry) (r t : ℕ) (j : Joined s ranks due g) (lt : r < s.ranks) (here : t < THREADS) where
  abbrev x : Rank
  x = rank_in ranks r

  -- the thread waits for nothing more
  pub idle_goes : (said : Reply) (b : Wait) → (thread_in g.ranks r t).wait ≡ b → is_creation (row_of x.threads t).waits ≡ false → owed_to g r b ≡ Some said → registry_answer.answers g r b ≡ g
      → Goes s g (reply_events r t (answers x t said).reply) (set ranks r (answers x t said).state) due
  unfolding registry_next
  idle_goes said b is old owed stays = (
    (rw is owed, tt),
    rw (is, stays)
        (thread_joined s ranks due g r t (record { calls = (row_of x.threads t).calls; waits = Nothing }) (record { calls = (part_row (get_or g.ranks r blank_part).threads t).calls; wait = reg.Idle }) x.local (part_of g r).local
        (set g.ranks r (with_wait (part_of g r) t reg.Idle)) ((j.threads r).calls t) tt refl j lt here (λ k. uncreated_key (row_of x.threads t).waits k old) (λ i e. absurd (uncreated (row_of x.threads t).waits (thread_in g.ranks r t).wait i ((j.threads r).waits t) old e))
        (parts_set g.ranks r t (with_wait (part_of g r) t reg.Idle) (part_of g r).local _ (let e = j.sizes.parts_are in omega (arith, e, lt)) refl refl) (j.locals r) (λ c z. z) (λ serial p e f. absurd (cc (e)))),
  )

  -- what the registry's thread waits for
  pub waits_too : (a : Waits) (b : Wait) → (row_of x.threads t).waits ≡ a → (thread_in g.ranks r t).wait ≡ b → WaitFits a b
  waits_too a b ea eb = subst (λ (w : Waits). WaitFits w b) ea (subst (λ (w : Wait). WaitFits (row_of x.threads t).waits w) eb ((j.threads r).waits t))

  -- a communicator is given back
  pub freeing_goes : (serial : ℕ) → (row_of x.threads t).waits ≡ Freeing serial → is_answerable x (Freeing serial) ≡ true → Goes s g (reply_events r t (answered x t (row_of x.threads t).waits).reply) (set ranks r (answered x t (row_of x.threads t).waits).state) due
  freeing_goes serial ew can = rw ew (go (thread_in g.ranks r t).wait refl (waits_too (Freeing serial) (thread_in g.ranks r t).wait ew refl))
    where
      go : (b : Wait) → (thread_in g.ranks r t).wait ≡ b → WaitFits (Freeing serial) b → Goes s g (reply_events r t (answers x t reply.Fine).reply) (set ranks r (answers x t reply.Fine).state) due
      go (reg.Freeing p) e h =
          let f = (j.comms r).freeing t serial p ew e in
          let gone = f.gone in
          let returned : has_rank (comm_at g p).returned r ≡ true = grind (arith, gone, can) in
          idle_goes reply.Fine (reg.Freeing p) e (rw ew refl) (ap fine_if returned) refl
      go b e h = absurd h

  -- a name is bound
  pub awaiting_goes : (name : List ℕ) → (row_of x.threads t).waits ≡ Awaiting name → is_answerable x (Awaiting name) ≡ true → Goes s g (reply_events r t (answered x t (row_of x.threads t).waits).reply) (set ranks r (answered x t (row_of x.threads t).waits).state) due
  awaiting_goes name ew can = rw ew (go (thread_in g.ranks r t).wait refl (waits_too (Awaiting name) (thread_in g.ranks r t).wait ew refl))
    where
      same_bound : (a b : Bound) → BoundFits g.comms x.comms.rows r a b → is_bound (Some b) ≡ is_bound (Some a)
      same_bound bound.Reserved bound.Reserved h = refl
      same_bound (bound.Session s) (bound.Session q) h = refl
      same_bound (bound.Group ms s) (bound.Group ns q) h = refl
      same_bound (bound.Comm c s) (bound.Comm p q) h = refl
      same_bound (bound.Request i) (bound.Request k) h = refl
      same_bound a b h = absurd h

      same : {a b : Option Bound} → BothBound g.comms x.comms.rows r a b → is_bound b ≡ is_bound a
      same (neither) = refl
      same (both a b h) = same_bound a b h

      go : (b : Wait) → (thread_in g.ranks r t).wait ≡ b → WaitFits (Awaiting name) b → Goes s g (reply_events r t (answers x t reply.Fine).reply) (set ranks r (answers x t reply.Fine).state) due
      go (reg.Awaiting other) e h =
          let bound = same (bound-fits g.comms x.comms.rows r x.local.names (part_of g r).local.names name (j.locals r).names) ∙ can in
          idle_goes reply.Fine (reg.Awaiting other) e (rw ew refl) (rw h (ap fine_if bound)) refl
      go b e h = absurd h

  -- what is received from the null process is there at once
  pub nobody_goes : (row_of x.threads t).waits ≡ Receiving 0 → Goes s g (reply_events r t (answered x t (row_of x.threads t).waits).reply) (set ranks r (answered x t (row_of x.threads t).waits).state) due
  nobody_goes ew = rw ew (go (thread_in g.ranks r t).wait refl (waits_too (Receiving 0) (thread_in g.ranks r t).wait ew refl))
    where
      go : (b : Wait) → (thread_in g.ranks r t).wait ≡ b → WaitFits (Receiving 0) b → Goes s g (reply_events r t (answers x t from_nobody).reply) (set ranks r (answers x t from_nobody).state) due
      go (reg.Receiving n) e h = idle_goes from_nobody (reg.Receiving n) e (rw ew refl) (rw h refl) refl
      go b e h = absurd h
