use Rattle.std.proofs.Common.{◌≤◌, ap, subst, ◌∙◌, get_or, set, map}
use Rattle.link_net.specs.Net.{Net}
use Rattle.link_net.specs.Queues.{room_of}
use Rattle.link_net.proofs.QueueFacts.{same_links, has_room, keeps_room, kept_roomy}
use Rattle.link_net.proofs.links.Links.make_room.Goals as goal

pub invariant_of-self : goal.invariant_of-self
invariant_of-self g c =
    kept_roomy c.self.inside.ranks c.self.inside.queues.items c.args.from c.args.to c.index_mut.result.now c.reserve.new.self c.place_of.result
    c.self.invariant c.place_of.ensures.value c.place_of.ensures.below c.index_mut.ensures.value c.reserve.ensures.items c.reserve.ensures.len c.reserve.ensures.capacity

pub returns-clause-ok : goal.returns-clause-ok
returns-clause-ok g c =
    has_room c.self.inside.ranks c.self.inside.queues.items c.args.from c.args.to c.index_mut.result.now c.reserve.new.self c.place_of.result
    c.self.invariant c.place_of.ensures.value c.place_of.ensures.below c.index_mut.ensures.value c.reserve.ensures.items c.reserve.ensures.len c.reserve.ensures.capacity
    c.reserve.result c.args.more c.reserve.ensures.ok

pub returns-clause-links : goal.returns-clause-links
returns-clause-links g c =
    same_links c.self.inside.ranks c.self.inside.queues.items c.args.from c.args.to c.index_mut.result.now c.reserve.new.self c.place_of.result
    c.self.invariant c.place_of.ensures.value c.place_of.ensures.below c.index_mut.ensures.value c.reserve.ensures.items c.reserve.ensures.len c.reserve.ensures.capacity
    ∙ ap (λ (n : Net _). n.links) c.self.view_is

pub returns-clause-room : goal.returns-clause-room
returns-clause-room g c place =
    let keeps = keeps_room c.self.inside.ranks c.self.inside.queues.items c.args.from c.args.to c.index_mut.result.now c.reserve.new.self c.place_of.result
    c.self.invariant c.place_of.ensures.value c.place_of.ensures.below c.index_mut.ensures.value c.reserve.ensures.items c.reserve.ensures.len c.reserve.ensures.capacity place in
    subst (λ (n : Net _). get_or n.rooms place 0 ≤ get_or (map room_of (set c.self.inside.queues.items c.place_of.result c.reserve.new.self)) place 0) c.self.view_is keeps
