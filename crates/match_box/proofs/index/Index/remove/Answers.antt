use Rattle.std.proofs.Common.{◌≡◌, ◌-◌, ◌==◌, ◌&&◌, if◌then◌else◌, Option, Some, None, option_map, sym, ap, subst, ◌∙◌, rules, arith}
use Rattle.std.specs.Map.{lookup}
use Rattle.std.specs.Option.{IsSome}
use Rattle.match_box.specs.declared.queue.Queue.{Queue}
use Rattle.match_box.specs.declared.node.Entry.{Entry}
use Rattle.match_box.specs.declared.node.Place.{Place}
use Rattle.match_box.specs.Rows.{same_queue}
use Rattle.match_box.specs.Filing.{Filed, same_place, queue_at, place_at, ends_at}
use Rattle.match_box.specs.Tallies.{count_in}
use Rattle.match_box.proofs.FilingFacts.{filed_less, last_there, ends_less, places_less}
use Rattle.match_box.proofs.index.Index.remove.Goals as goal

pub overflow_sub-last : goal.overflow_sub-last
overflow_sub-last c =
    let entry : lookup (same_queue c.args.queue.now) c.self.inside.entries.entries ≡ Some c.in-Some.entry = search rules in
    let filed = c.self.invariant.filed c.args.queue.now c.in-Some.entry.place (ap (option_map (λ (e : Entry). e.place)) entry) in
    omega (arith, filed.0, c.of-last.ensures)

pub unwrap-moved-requires : goal.unwrap-moved-requires
unwrap-moved-requires c =
    let entry : lookup (same_queue c.args.queue.now) c.self.inside.entries.entries ≡ Some c.in-Some.entry = search rules in
    let there = last_there (place_at c.self.inside.entries.entries) (queue_at c.self.inside.places.entries) (count_in c.self.inside.sizes.counts) c.args.queue.now c.in-Some.entry.place c.self.invariant
    (ap (option_map (λ (e : Entry). e.place)) entry) in
    let is : c.swap_remove-in-Some.result ≡ queue_at c.self.inside.places.entries c.args.queue.now.ctx (count_in c.self.inside.sizes.counts c.args.queue.now.ctx - 1) = search rules in
    subst IsSome (sym is) there

pub lower-requires : goal.lower-requires
lower-requires c =
    let entry : lookup (same_queue c.args.queue.now) c.self.inside.entries.entries ≡ Some c.in-Some.entry = search rules in
    let filed = c.self.invariant.filed c.args.queue.now c.in-Some.entry.place (ap (option_map (λ (e : Entry). e.place)) entry) in
    omega (arith, filed.0)

pub invariant_of-self : goal.invariant_of-self
invariant_of-self c =
    let entry : lookup (same_queue c.args.queue.now) c.self.inside.entries.entries ≡ Some c.in-Some.entry = search rules in
    let moved : queue_at c.self.inside.places.entries c.args.queue.now.ctx (c.of-last.result - 1) ≡ Some c.unwrap-moved.result = search rules in
    let gone : (q : Queue) → lookup (same_queue q) c.swap_remove.new.self.entries ≡ (if same_queue c.args.queue.now q then None else lookup (same_queue q) c.self.inside.entries.entries) = λ q. search rules in
    let less : (x : Place) → lookup (same_place x) c.swap_remove-in-Some.new.self.entries ≡ (if same_place (record { ctx = c.args.queue.now.ctx; place = c.of-last.result - 1 }) x then None else lookup (same_place x) c.self.inside.places.entries) = λ x. search rules in
    filed_less (place_at c.self.inside.entries.entries) (place_at c.settle.new.entries.entries) (queue_at c.self.inside.places.entries) (queue_at c.replace.new.places.entries)
    (count_in c.self.inside.sizes.counts) (count_in c.lower.new.self.counts) c.args.queue.now c.unwrap-moved.result c.in-Some.entry.place c.self.invariant
    (ap (option_map (λ (e : Entry). e.place)) entry) (ap (λ n. queue_at c.self.inside.places.entries c.args.queue.now.ctx (n - 1)) (sym c.of-last.ensures) ∙ moved)
    (places_less c.self.inside.entries.entries c.swap_remove.new.self.entries c.settle.new.entries.entries c.args.queue.now c.unwrap-moved.result c.in-Some.entry.place gone c.settle.ensures.each)
    (λ k p. c.replace.ensures.each (record { ctx = k; place = p })
    ∙ ap (λ (found : Option Queue). if (c.args.queue.now.ctx == k) && (c.in-Some.entry.place == p) then option_map (λ _. c.unwrap-moved.result) found else found)
    (less (record { ctx = k; place = p }) ∙ ap (λ n. if (c.args.queue.now.ctx == k) && ((n - 1) == p) then None else queue_at c.self.inside.places.entries k p) c.of-last.ensures))
    c.lower.ensures.each

pub returns-in-Some-clause-each : goal.returns-in-Some-clause-each
returns-in-Some-clause-each c q =
    let gone : (x : Queue) → lookup (same_queue x) c.swap_remove.new.self.entries ≡ (if same_queue c.args.queue.now x then None else lookup (same_queue x) c.self.inside.entries.entries) = λ x. search rules in
    ends_less c.self.inside.entries.entries c.swap_remove.new.self.entries c.settle.new.entries.entries c.args.queue.now c.unwrap-moved.result c.in-Some.entry.place gone c.settle.ensures.each q
    ∙ ap (λ (f : Filed). if same_queue c.args.queue.now q then None else ends_at f.entries q) c.self.view_is
