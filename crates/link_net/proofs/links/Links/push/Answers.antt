use Rattle.std.proofs.Common.{◌<◌, ap, ◌∙◌, arith}
use Rattle.link_net.specs.Net.{Net, pushed}
use Rattle.link_net.proofs.QueueFacts.{pushed_queue, kept_pushed}
use Rattle.link_net.proofs.links.Links.push.Goals as goal

pub invariant_of-self : goal.invariant_of-self
invariant_of-self g c =
    let ranks = ap (λ (n : Net _). n.ranks) c.self.view_is in
    let from : c.args.from < c.self.inside.ranks = omega (arith, ranks, c.requires.from) in
    let to : c.args.to < c.self.inside.ranks = omega (arith, ranks, c.requires.to) in
    kept_pushed c.self.inside.ranks c.self.inside.queues.items c.args.from c.args.to c.index_mut.result.now c.push_back_reserved.new.self c.place_of.result
    c.self.invariant c.place_of.ensures.value c.place_of.ensures.below c.index_mut.ensures.value from to c.args.item c.push_back_reserved.ensures.items c.push_back_reserved.ensures.len c.push_back_reserved.ensures.capacity

pub returns : goal.returns
returns g c = record {
  after =
      pushed_queue c.self.inside.ranks c.self.inside.queues.items c.args.from c.args.to c.index_mut.result.now c.push_back_reserved.new.self c.place_of.result
      c.self.invariant c.place_of.ensures.value c.place_of.ensures.below c.index_mut.ensures.value c.args.item c.push_back_reserved.ensures.items c.push_back_reserved.ensures.len c.push_back_reserved.ensures.capacity
      ∙ ap (λ n. pushed n c.args.from c.args.to c.args.item) c.self.view_is;
}
