use Rattle.std.proofs.Common.{◌≡◌, ◌+◌, ◌-◌, ◌==◌, option_map, if◌then◌else◌, get_or, List, Some, None, ◌++◌, ◌∷◌, [], length, ap, sym, subst, ◌∙◌, arith}
use Rattle.slab.specs.Slab.{slab_len, Updates}
use Rattle.match_box.specs.Rows.{Table, Row, row, on}
use Rattle.match_box.specs.Filing.{ends_at}
use Rattle.match_box.specs.Nodes.{led, nodes_in, rows_of}
use Rattle.match_box.proofs.Rooms.{room-some, room-less, le_from, le_of, lt_from, below, fits_of, slab_less}
use Rattle.match_box.proofs.NodeFacts.{Leads, nodes_in-few}
use Rattle.match_box.proofs.Steps.{fresh, pushed, puts_from, on-push, few_on}
use Rattle.match_box.proofs.queues.Queues.push.Goals as goal

pub insert_reserved-requires : goal.insert_reserved-requires
insert_reserved-requires g c =
    let some = room-some (c.self.inside.nodes.capacity - slab_len c.self.inside.nodes) c.self.inside.index.spare c.self.inside.waiting.spare
    (le_of (ap (λ (t : Table g.row.T.Denot). t.spare) c.self.view_is) c.requires.room) in
    fits_of some.0 c.lead.ensures.capacity c.lead.ensures.len

pub put-requires-clause-room : goal.put-requires-clause-room
put-requires-clause-room g c =
    let some = room-some (c.self.inside.nodes.capacity - slab_len c.self.inside.nodes) c.self.inside.index.spare c.self.inside.waiting.spare
    (le_of (ap (λ (t : Table g.row.T.Denot). t.spare) c.self.view_is) c.requires.room) in
    some.1

pub raise-requires-clause-room : goal.raise-requires-clause-room
raise-requires-clause-room g c =
    let some = room-some (c.self.inside.nodes.capacity - slab_len c.self.inside.nodes) c.self.inside.index.spare c.self.inside.waiting.spare
    (le_of (ap (λ (t : Table g.row.T.Denot). t.spare) c.self.view_is) c.requires.room) in
    some.2

pub raise-requires-clause-count : goal.raise-requires-clause-count
raise-requires-clause-count g c =
    below (c.self.invariant.many c.args.queue.ctx)
    (few_on c.args.queue.ctx c.self.inside.count (nodes_in c.self.inside.nodes.slots c.self.inside.count) (nodes_in-few c.self.inside.nodes.slots c.self.inside.count))
    (lt_from (ap (λ (t : Table g.row.T.Denot). t.count) c.self.view_is) c.requires.count)

pub invariant_of-self : goal.invariant_of-self
invariant_of-self g c =
    let key = c.vacant_key-key.result in
    let key_is : c.insert_reserved.result ≡ key = c.insert_reserved.ensures.key ∙ c.lead.ensures.vacant ∙ sym c.vacant_key-key.ensures.value in
    let leads : Leads c.self.inside.nodes.slots c.lead.new.nodes.slots (ends_at c.self.inside.index.entries c.args.queue) key =
    λ k. c.lead.ensures.each k ∙ ap (λ at. option_map (led at key k) (get_or c.self.inside.nodes.slots k None)) c.ends.ensures in
    let free : get_or c.lead.new.nodes.slots key None ≡ None =
    leads key ∙ ap (option_map (led (ends_at c.self.inside.index.entries c.args.queue) key key)) c.vacant_key-key.ensures.vacant in
    let puts = puts_from c.lead.new.nodes c.insert_reserved.new.self key (Some (fresh (c.self.inside.count + 1) c.args.queue c.args.item))
    (subst (λ k. Updates c.lead.new.nodes c.insert_reserved.new.self k (Some (fresh (c.self.inside.count + 1) c.args.queue c.args.item))) key_is c.insert_reserved.ensures.updates) in
    let all = pushed c.self.inside.nodes.slots c.lead.new.nodes.slots c.insert_reserved.new.self.slots (ends_at c.self.inside.index.entries) (ends_at c.put.new.self.entries) key c.self.inside.count
    c.args.queue c.args.item c.self.invariant.numbered c.self.invariant.queued leads free puts c.put.ensures.each in
    record {
      numbered = all.0;
      queued = all.1;
      many = λ k. c.raise.ensures.each k ∙ ap (λ n. if c.args.queue.ctx == k then n + 1 else n) (c.self.invariant.many k)
          ∙ sym (ap (λ (rs : List (Row g.row.T.Denot)). length (on k rs)) all.2 ∙ on-push k (c.self.inside.count + 1) c.args.queue c.args.item (rows_of (nodes_in c.self.inside.nodes.slots c.self.inside.count)));
      sized = λ k. omega (arith, c.put.ensures.sizes k, c.self.invariant.sized k);
    }

pub returns-clause-rows : goal.returns-clause-rows
returns-clause-rows g c =
    let key = c.vacant_key-key.result in
    let key_is : c.insert_reserved.result ≡ key = c.insert_reserved.ensures.key ∙ c.lead.ensures.vacant ∙ sym c.vacant_key-key.ensures.value in
    let leads : Leads c.self.inside.nodes.slots c.lead.new.nodes.slots (ends_at c.self.inside.index.entries c.args.queue) key =
    λ k. c.lead.ensures.each k ∙ ap (λ at. option_map (led at key k) (get_or c.self.inside.nodes.slots k None)) c.ends.ensures in
    let free : get_or c.lead.new.nodes.slots key None ≡ None =
    leads key ∙ ap (option_map (led (ends_at c.self.inside.index.entries c.args.queue) key key)) c.vacant_key-key.ensures.vacant in
    let puts = puts_from c.lead.new.nodes c.insert_reserved.new.self key (Some (fresh (c.self.inside.count + 1) c.args.queue c.args.item))
    (subst (λ k. Updates c.lead.new.nodes c.insert_reserved.new.self k (Some (fresh (c.self.inside.count + 1) c.args.queue c.args.item))) key_is c.insert_reserved.ensures.updates) in
    let all = pushed c.self.inside.nodes.slots c.lead.new.nodes.slots c.insert_reserved.new.self.slots (ends_at c.self.inside.index.entries) (ends_at c.put.new.self.entries) key c.self.inside.count
    c.args.queue c.args.item c.self.invariant.numbered c.self.invariant.queued leads free puts c.put.ensures.each in
    all.2 ∙ ap (λ (t : Table g.row.T.Denot). t.rows ++ row (t.count + 1) c.args.queue c.args.item ∷ []) c.self.view_is

pub returns-clause-spare : goal.returns-clause-spare
returns-clause-spare g c =
    le_from (ap (λ (t : Table g.row.T.Denot). t.spare) c.self.view_is)
    (room-less (c.self.inside.nodes.capacity - slab_len c.self.inside.nodes) c.self.inside.index.spare c.self.inside.waiting.spare
    (c.insert_reserved.new.self.capacity - slab_len c.insert_reserved.new.self) c.put.new.self.spare c.raise.new.self.spare
    (slab_less c.self.inside.nodes.capacity (slab_len c.self.inside.nodes) c.insert_reserved.new.self.capacity (slab_len c.insert_reserved.new.self) (c.insert_reserved.ensures.capacity ∙ c.lead.ensures.capacity) (c.insert_reserved.ensures.len ∙ ap (λ n. n + 1) c.lead.ensures.len)) c.put.ensures.spare c.raise.ensures.spare)
