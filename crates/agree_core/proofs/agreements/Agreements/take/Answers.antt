use Rattle.std.proofs.Common.{false, refl}
use Rattle.and_reduce.proofs.FrontFacts.{front-set}
use Rattle.agree_core.proofs.MoveFacts.{became-ready, became-retry, became-context, became-exhausted}
use Rattle.agree_core.proofs.agreements.Agreements.take.Goals as goal

pub returns-in-Ready-clause-part : goal.returns-in-Ready-clause-part
returns-in-Ready-clause-part g c =
    rw c.in-Ready.is
    (became-ready _ _ _ c.args.key.now c.args.round c.self.view_is refl c.next_round.ensures.top
    (rw (c.next_round.ensures.top, c.next_round.ensures.offers, c.next_round.ensures.rounds, c.set_stage.ensures.rows) refl))

pub returns-in-Retry-clause-part : goal.returns-in-Retry-clause-part
returns-in-Retry-clause-part g c =
    rw c.in-Retry.is
    (became-retry _ _ _ c.args.key.now c.args.round c.self.view_is refl c.next_round-in-Retry.ensures.top
    (rw (c.next_round-in-Retry.ensures.top, c.next_round-in-Retry.ensures.offers, c.next_round-in-Retry.ensures.rounds, c.let_go.ensures, c.set_stage-in-Retry.ensures.rows) refl))

pub returns-in-Context-clause-part : goal.returns-in-Context-clause-part
returns-in-Context-clause-part g c =
    let le = (rw (c.in-Context.is, ← c.self.view_is) at c.requires.pick).1 in
    rw c.in-Context.is
    (became-context _ _ _ c.args.key.now c.args.round c.self.view_is refl c.remove.ensures.top c.in-Context.ctx
    (rw (
      c.remove.ensures.top,
      c.clear.ensures.value,
      front-set c.self.inside.gathers.top c.in-Context.ctx c.self.inside.mask false le,
      c.remove.ensures.offers,
      c.remove.ensures.rounds,
      c.let_go-in-Context.ensures,
      c.set_stage-in-Context.ensures.rows,
    )
    refl))

pub returns-in-Exhausted-clause-part : goal.returns-in-Exhausted-clause-part
returns-in-Exhausted-clause-part g c =
    rw c.in-Exhausted.is
    (became-exhausted _ _ _ c.args.key.now c.args.round c.self.view_is refl c.remove-in-Exhausted.ensures.top
    (rw (c.remove-in-Exhausted.ensures.top, c.remove-in-Exhausted.ensures.offers, c.remove-in-Exhausted.ensures.rounds, c.let_go-in-Exhausted.ensures, c.set_stage-in-Exhausted.ensures.rows) refl))
