use Rattle.std.proofs.Common.{◌≡◌, ◌<◌, sym, subst, ◌∙◌, rules}
use Rattle.std.specs.Option.{IsSome}
use Rattle.match_box.specs.Filing.{Filed, ends_at, queue_at}
use Rattle.match_box.specs.Tallies.{count_in}
use Rattle.match_box.proofs.FilingFacts.{has_ends}
use Rattle.match_box.proofs.index.Index.at.Goals as goal

pub returns-clause-met : goal.returns-clause-met
returns-clause-met c =
    let is : c.copied.result ≡ queue_at c.self.inside.places.entries c.args.ctx c.args.place = search rules in
    λ below. subst IsSome (sym is) (c.self.invariant.whole c.args.ctx c.args.place (subst (λ (f : Filed). c.args.place < count_in f.sizes c.args.ctx) (sym c.self.view_is) below))

pub returns-clause-named : goal.returns-clause-named
returns-clause-named c =
    let is : c.copied.result ≡ queue_at c.self.inside.places.entries c.args.ctx c.args.place = search rules in
    λ q found.
    let named = c.self.invariant.named c.args.ctx c.args.place q (sym is ∙ found) in
    (named.0, subst (λ (f : Filed). IsSome (ends_at f.entries q)) c.self.view_is (has_ends c.self.inside.entries.entries q c.args.place named.1))
