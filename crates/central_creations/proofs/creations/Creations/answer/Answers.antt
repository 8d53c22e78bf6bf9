use Rattle.std.proofs.Common.{◌<◌, length, sym, ap, ◌∙◌, arith}
use Rattle.mpi_law.specs.Registry.State.{Creation}
use Rattle.central_creations.proofs.CountFacts.{found_set}
use Rattle.central_creations.proofs.WaitingFacts.{answered_waiting}
use Rattle.central_creations.proofs.creations.Creations.answer.Goals as goal

pub invariant_of-self : goal.invariant_of-self
invariant_of-self c =
    let within : c.args.place < length c.self.inside.rows.items = omega (arith, c.if-place-len.true, c.len.ensures, c.self.inside.rows.ok) in
    found_set c.self.inside.rows.items c.self.inside.waiting.items c.self.inside.waiting.items c.self.inside.calls c.self.inside.calls c.self.inside.calls c.self.inside.splits c.self.invariant
    c.args.place c.index_mut.result.now c.answer.new.self c.index_mut.result.now within c.index_mut.ensures.value
    (c.self.invariant.places
    ∙ sym (answered_waiting c.self.inside.rows.items c.args.place c.args.rank c.index_mut.result.now c.answer.new.self c.index_mut.result.now c.index_mut.ensures.value c.in_ok-answer.ensures.ok))
    (ap (λ (k : Creation). k.name) c.in_ok-answer.ensures.ok) (ap (λ (k : Creation). k.callers) c.in_ok-answer.ensures.ok)
