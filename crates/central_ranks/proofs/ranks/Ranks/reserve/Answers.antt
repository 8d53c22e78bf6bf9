use Rattle.std.proofs.Common.{◌<◌, length, ap, ◌∙◌, arith}
use Rattle.std.proofs.Math.Seq.{map-set_same}
use Rattle.central_ranks.specs.Parts.{PartHeld, RanksHeld}
use Rattle.central_ranks.proofs.PartFacts.{changed_parts, both_if_ok, room_made}
use Rattle.central_ranks.proofs.ranks.Ranks.reserve.Goals as goal

pub invariant_of-self : goal.invariant_of-self
invariant_of-self c =
    let within : c.args.rank < length c.self.inside.parts.items = omega (arith, c.if-rank-len.true, c.len.ensures) in
    changed_parts c.self.inside.parts.items c.args.rank c.index_mut.result.now c.reserve.new.self c.index_mut.ensures.value within
    (λ p. p) c.reserve.ensures.same (λ are. are) c.self.invariant

pub returns-then-rank-len-clause-same : goal.returns-then-rank-len-clause-same
returns-then-rank-len-clause-same c =
    map-set_same (λ (h : PartHeld). h.part) c.self.inside.parts.items c.args.rank c.reserve.new.self c.index_mut.result.now
    (c.reserve.ensures.same ∙ ap (λ (h : PartHeld). h.part) c.index_mut.ensures.value)
    ∙ ap (λ (s : RanksHeld). s.parts) c.self.view_is

pub returns-then-rank-len-clause-ok : goal.returns-then-rank-len-clause-ok
returns-then-rank-len-clause-ok c =
    let within : c.args.rank < length c.self.inside.parts.items = omega (arith, c.if-rank-len.true, c.len.ensures) in
    both_if_ok c.reserve.result c.reserve.ensures.spare c.reserve.ensures.counts
    (λ spare counts there. room_made c.self.inside.parts.items c.args.rank c.index_mut.result.now c.reserve.new.self c.index_mut.ensures.value within spare counts)
