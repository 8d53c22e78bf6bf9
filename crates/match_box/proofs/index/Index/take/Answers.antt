use Rattle.std.proofs.Common.{refl}
use Rattle.match_box.specs.Filing.{queue_at, began}
use Rattle.match_box.specs.Tallies.{count_in}
use Rattle.match_box.proofs.FilingFacts.{filed_kept}
use Rattle.match_box.proofs.index.Index.take.Goals as goal

pub invariant_of-self : goal.invariant_of-self
invariant_of-self c =
    filed_kept c.self.inside.entries.entries c.begin_with.new.entries.entries (began c.in-Some.next) c.args.queue.now (queue_at c.self.inside.places.entries) (count_in c.self.inside.sizes.counts)
    (λ e. refl) c.begin_with.ensures.each c.self.invariant
