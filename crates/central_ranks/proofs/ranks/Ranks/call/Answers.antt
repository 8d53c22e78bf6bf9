use Rattle.std.proofs.Common.{◌<◌, length, ap, arith}
use Rattle.std.proofs.lemmas.List.{length-map}
use Rattle.central_ranks.specs.Parts.{PartHeld, RanksHeld, part_called}
use Rattle.central_ranks.specs.Waits.{wait_of}
use Rattle.central_ranks.proofs.PartFacts.{changed_part, changed_parts, not_within, threads_set}
use Rattle.central_ranks.proofs.ranks.Ranks.call.Goals as goal

pub invariant_of-self : goal.invariant_of-self
invariant_of-self c =
    let seen = ap (λ (s : RanksHeld). length s.parts) c.self.view_is in
    let within : c.args.rank < length c.self.inside.parts.items = omega (arith, c.requires.rank, seen, length-map c.self.inside.parts.items (λ (h : PartHeld). h.part)) in
    changed_parts c.self.inside.parts.items c.args.rank c.index_mut.result.now c.call.new.self c.index_mut.ensures.value within
    (λ p. part_called p c.args.thread c.args.effect (wait_of c.args.wait)) c.call.ensures
    (λ are. threads_set c.index_mut.result.now.part.threads c.args.thread _ (not_within c.args.wait) are) c.self.invariant

pub returns : goal.returns
returns c =
    let seen = ap (λ (s : RanksHeld). length s.parts) c.self.view_is in
    let within : c.args.rank < length c.self.inside.parts.items = omega (arith, c.requires.rank, seen, length-map c.self.inside.parts.items (λ (h : PartHeld). h.part)) in
    changed_part c.self.inside.parts.items c.args.rank c.index_mut.result.now c.call.new.self c.index_mut.ensures.value within
    (λ p. part_called p c.args.thread c.args.effect (wait_of c.args.wait)) c.call.ensures
    c.args.self.now.parts (ap (λ (s : RanksHeld). s.parts) c.self.view_is)
