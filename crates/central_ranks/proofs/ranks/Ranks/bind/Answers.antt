use Rattle.std.proofs.Common.{◌<◌, length, ap, arith}
use Rattle.local_law.specs.Names.{rebind}
use Rattle.local_law.specs.Objects.{Comm}
use Rattle.mpi_law.specs.Local.Objects.{with_names}
use Rattle.mpi_law.specs.Registry.Replies.{with_local}
use Rattle.central_ranks.specs.Parts.{RanksHeld}
use Rattle.central_ranks.proofs.PartFacts.{changed_part, changed_parts}
use Rattle.central_ranks.proofs.ranks.Ranks.bind.Goals as goal

pub invariant_of-self : goal.invariant_of-self
invariant_of-self c =
    let within : c.args.rank < length c.self.inside.parts.items = omega (arith, c.if-rank-len.true, c.len.ensures) in
    changed_parts c.self.inside.parts.items c.args.rank c.index_mut.result.now c.bind.new.self c.index_mut.ensures.value within
    (λ p. with_local p (with_names p.local (rebind p.local.names c.args.target.now (Comm c.args.place c.args.session)))) c.bind.ensures (λ are. are) c.self.invariant

pub returns-then-rank-len : goal.returns-then-rank-len
returns-then-rank-len c =
    let within : c.args.rank < length c.self.inside.parts.items = omega (arith, c.if-rank-len.true, c.len.ensures) in
    changed_part c.self.inside.parts.items c.args.rank c.index_mut.result.now c.bind.new.self c.index_mut.ensures.value within
    (λ p. with_local p (with_names p.local (rebind p.local.names c.args.target.now (Comm c.args.place c.args.session)))) c.bind.ensures c.args.self.now.parts (ap (λ (s : RanksHeld). s.parts) c.self.view_is)
