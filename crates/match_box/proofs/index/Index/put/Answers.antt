use Rattle.std.proofs.Common.{◌≡◌, ◌==◌, ◌&&◌, if◌then◌else◌, Some, None, refl, ap, ◌∙◌, rules}
use Rattle.std.specs.Map.{lookup}
use Rattle.match_box.specs.declared.queue.Queue.{Queue}
use Rattle.match_box.specs.declared.node.Entry.{Entry}
use Rattle.match_box.specs.declared.node.Place.{Place}
use Rattle.match_box.specs.Rows.{same_queue}
use Rattle.match_box.specs.Filing.{Filed, same_place, queue_at, place_at, ends_at, lasted, extended}
use Rattle.match_box.specs.Tallies.{count_in}
use Rattle.match_box.proofs.FilingFacts.{filed_kept, filed_added, no_place, ends_added}
use Rattle.match_box.proofs.index.Index.put.Goals as goal

pub invariant_of-self : goal.invariant_of-self
invariant_of-self c =
    filed_kept c.self.inside.entries.entries c.end_with.new.entries.entries (lasted c.args.key) c.args.queue (queue_at c.self.inside.places.entries) (count_in c.self.inside.sizes.counts)
    (λ e. refl) c.end_with.ensures.each c.self.invariant

pub invariant_of-self-2 : goal.invariant_of-self-2
invariant_of-self-2 c =
    let none : ends_at c.self.inside.entries.entries c.args.queue ≡ None = search rules in
    let entry : Entry = record { ends = record { first = c.args.key; last = c.args.key }; place = c.of-place.result } in
    let each : (q : Queue) → lookup (same_queue q) c.insert.new.self.entries ≡ (if same_queue c.args.queue q then Some entry else lookup (same_queue q) c.self.inside.entries.entries) = λ q. search rules in
    let placed : (q : Queue) → place_at c.insert.new.self.entries q ≡ (if same_queue c.args.queue q then Some (count_in c.self.inside.sizes.counts c.args.queue.ctx) else place_at c.self.inside.entries.entries q) = λ q. search rules in
    let at : (x : Place) → lookup (same_place x) c.insert-2.new.self.entries ≡ (if same_place (record { ctx = c.args.queue.ctx; place = c.of-place.result }) x then Some c.args.queue else lookup (same_place x) c.self.inside.places.entries) = λ x. search rules in
    filed_added (place_at c.self.inside.entries.entries) (place_at c.insert.new.self.entries) (queue_at c.self.inside.places.entries) (queue_at c.insert-2.new.self.entries)
    (count_in c.self.inside.sizes.counts) (count_in c.raise.new.self.counts) c.args.queue c.self.invariant (no_place c.self.inside.entries.entries c.args.queue none)
    placed
    (λ k p. at (record { ctx = k; place = p }) ∙ ap (λ n. if (c.args.queue.ctx == k) && (n == p) then Some c.args.queue else queue_at c.self.inside.places.entries k p) c.of-place.ensures)
    c.raise.ensures.each

pub returns-clause-each : goal.returns-clause-each
returns-clause-each c q =
    let none : ends_at c.self.inside.entries.entries c.args.queue ≡ None = search rules in
    let entry : Entry = record { ends = record { first = c.args.key; last = c.args.key }; place = c.of-place.result } in
    let each : (q : Queue) → lookup (same_queue q) c.insert.new.self.entries ≡ (if same_queue c.args.queue q then Some entry else lookup (same_queue q) c.self.inside.entries.entries) = λ q. search rules in
    ends_added c.self.inside.entries.entries c.insert.new.self.entries c.args.queue c.args.key c.of-place.result none each q
    ∙ ap (λ (f : Filed). if same_queue c.args.queue q then extended c.args.key (ends_at f.entries q) else ends_at f.entries q) c.self.view_is
