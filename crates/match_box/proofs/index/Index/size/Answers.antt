use Rattle.std.proofs.Common.{sym, subst}
use Rattle.std.specs.Option.{IsSome}
use Rattle.match_box.specs.Filing.{Filed, ends_at, Stands}
use Rattle.match_box.specs.Tallies.{count_in}
use Rattle.match_box.proofs.FilingFacts.{stands}
use Rattle.match_box.proofs.index.Index.size.Goals as goal

pub returns-clause-stand : goal.returns-clause-stand
returns-clause-stand c q on has =
    subst (λ (f : Filed). Stands f.places c.of.result q) c.self.view_is
    (stands c.self.inside.entries.entries c.self.inside.places.entries (count_in c.self.inside.sizes.counts) c.args.ctx c.of.result q c.self.invariant c.of.ensures on
    (subst (λ (f : Filed). IsSome (ends_at f.entries q)) (sym c.self.view_is) has))
