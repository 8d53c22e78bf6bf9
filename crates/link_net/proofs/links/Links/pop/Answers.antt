use Rattle.std.proofs.Common.{◌<◌, ap, ◌∙◌, arith}
use Rattle.link_net.specs.Net.{Net, popped}
use Rattle.link_net.proofs.QueueFacts.{popped_queue, kept_popped}
use Rattle.link_net.proofs.links.Links.pop.Goals as goal

pub invariant_of-self : goal.invariant_of-self
invariant_of-self g c =
    let ranks = ap (λ (n : Net _). n.ranks) c.self.view_is in
    let from : c.args.from < c.self.inside.ranks = omega (arith, ranks, c.requires.from) in
    let to : c.args.to < c.self.inside.ranks = omega (arith, ranks, c.requires.to) in
    kept_popped c.self.inside.ranks c.self.inside.queues.items c.args.from c.args.to c.index_mut.result.now c.pop_front.new.self c.place_of.result
    c.self.invariant c.place_of.ensures.value c.place_of.ensures.below c.index_mut.ensures.value from to c.pop_front.result c.pop_front.ensures.items c.pop_front.ensures.cases c.pop_front.ensures.capacity

pub returns-clause-after : goal.returns-clause-after
returns-clause-after g c =
    popped_queue c.self.inside.ranks c.self.inside.queues.items c.args.from c.args.to c.index_mut.result.now c.pop_front.new.self c.place_of.result
    c.self.invariant c.place_of.ensures.value c.place_of.ensures.below c.index_mut.ensures.value c.pop_front.result c.pop_front.ensures.items c.pop_front.ensures.cases c.pop_front.ensures.capacity
    ∙ ap (λ n. popped n c.args.from c.args.to) c.self.view_is
