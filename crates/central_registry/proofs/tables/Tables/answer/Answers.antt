use Rattle.std.proofs.Common.{◌≡◌, true, ℕ, List, get_or, sym, ◌∙◌, subst, ap}
use Rattle.mpi_law.specs.Registry.State.{Creating, Creation, Registry, RankPart, blank_creation, creation_at, thread_of}
use Rattle.mpi_law.specs.Registry.Creations.{has_called}
use Rattle.central_law.specs.After.{answered_state}
use Rattle.central_registry.specs.Held.{TablesHeld}
use Rattle.central_registry.proofs.Replying.{answered_creation, answered_else, creating_is, given, idled, told_called}
use Rattle.central_registry.proofs.tables.Tables.answer.Goals as goal
use Rattle.central_registry.proofs.tables.Tables.answer.Goals.{in-Some-created_by+in_ok-answer, in_default-created_by}

pub bind_outcome-requires : goal.bind_outcome-requires
bind_outcome-requires c =
    let g : Registry = record { comms = c.self.inside.comms; creations = c.self.inside.creations; receives = c.self.inside.mail.receives; messages = c.self.inside.mail.messages; ranks = c.self.inside.ranks.parts } in
    let asks = subst (λ (z : TablesHeld). (n : ℕ) → (thread_of z.state c.args.rank c.args.thread).wait ≡ Creating n → has_called (creation_at z.state n) c.args.rank ≡ true) (sym c.self.view_is) c.requires in
    let called = asks c.in-Some-created_by.place (creating_is (thread_of g c.args.rank c.args.thread).wait c.in-Some-created_by.place (sym c.created_by.ensures ∙ c.in-Some-created_by.is)) in
    subst (λ (cs : List Creation). has_called (get_or cs c.in-Some-created_by.place blank_creation) c.args.rank ≡ true) (sym (c.in_ok-answer.ensures).ok) (told_called g c.args.rank c.args.thread c.in-Some-created_by.place called)

pub returns-clause-ok : goal.returns-clause-ok
returns-clause-ok c =
    let here = c.args.self.now.state in
    let r = c.args.rank in
    let t = c.args.thread in
    let g : Registry = record { comms = c.self.inside.comms; creations = c.self.inside.creations; receives = c.self.inside.mail.receives; messages = c.self.inside.mail.messages; ranks = c.self.inside.ranks.parts } in
    let h : Registry = record { comms = c.self-2.inside.comms; creations = c.self-2.inside.creations; receives = c.self-2.inside.mail.receives; messages = c.self-2.inside.mail.messages; ranks = c.self-2.inside.ranks.parts } in
    let new : Registry = record h { ranks = c.answer-2.new.self.parts } in
    given here r t c.args.reply.now c.in-Some.said c.in-Some.is (c.is_owed.ensures.0 c.if-not-is_owed.false) new
    (ap (λ (ps : List RankPart). record h { ranks = ps }) c.answer-2.ensures
    ∙ (elim c.match-created_by.branch [
      | in-Some-created_by+in_ok-answer w ↦
          answered_creation g r t w.in-Some-created_by.place w.answer.new.self (w.in_ok-answer.ensures).ok h (ap (λ (z : TablesHeld). z.state) (c.self-2.view_is ∙ w.self-is) ∙ w.bind_outcome.ensures)
          ∙ ap (λ x. answered_state g r t x) (sym (creating_is (thread_of g r t).wait w.in-Some-created_by.place (sym c.created_by.ensures ∙ w.in-Some-created_by.is)))
      | in_default-created_by w ↦ ap (λ (z : TablesHeld). idled z.state r t) (c.self-2.view_is ∙ (w.self-is ∙ sym c.self.view_is)) ∙ answered_else g r t (sym c.created_by.ensures ∙ w.in_default-created_by.is)
    ])
    ∙ ap (λ (z : TablesHeld). answered_state z.state r t (thread_of z.state r t).wait) c.self.view_is)
