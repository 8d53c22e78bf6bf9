use Rattle.std.proofs.Common.{◌<◌, length, refl, ap, arith}
use Rattle.mpi_law.specs.Registry.State.{Idle, with_wait}
use Rattle.central_ranks.specs.Parts.{RanksHeld}
use Rattle.central_ranks.proofs.PartFacts.{changed_part, changed_parts, threads_set}
use Rattle.central_ranks.proofs.ranks.Ranks.answer.Goals as goal

pub invariant_of-self : goal.invariant_of-self
invariant_of-self c =
    let within : c.args.rank < length c.self.inside.parts.items = omega (arith, c.if-rank-len.true, c.len.ensures) in
    changed_parts c.self.inside.parts.items c.args.rank c.index_mut.result.now c.answer.new.self c.index_mut.ensures.value within
    (λ p. with_wait p c.args.thread Idle) c.answer.ensures (λ are. threads_set c.index_mut.result.now.part.threads c.args.thread _ refl are) c.self.invariant

pub returns-then-rank-len : goal.returns-then-rank-len
returns-then-rank-len c =
    let within : c.args.rank < length c.self.inside.parts.items = omega (arith, c.if-rank-len.true, c.len.ensures) in
    changed_part c.self.inside.parts.items c.args.rank c.index_mut.result.now c.answer.new.self c.index_mut.ensures.value within
    (λ p. with_wait p c.args.thread Idle) c.answer.ensures c.args.self.now.parts (ap (λ (s : RanksHeld). s.parts) c.self.view_is)
