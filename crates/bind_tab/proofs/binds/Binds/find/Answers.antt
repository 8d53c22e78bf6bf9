use Rattle.std.proofs.Common.{ap, subst, sym, ◌∙◌, bytes_eq}
use Rattle.std.specs.List.{IsDistinct}
use Rattle.std.specs.Option.{option_map}
use Rattle.local_law.specs.Names.{bound_of}
use Rattle.local_law.specs.NameFacts.{AreDistinct}
use Rattle.bind_tab.specs.Rows.{Table, seen}
use Rattle.bind_tab.proofs.RowFacts.{found-seen, names-seen}
use Rattle.bind_tab.proofs.binds.Binds.find.Goals as goal

pub returns-clause-value : goal.returns-clause-value
returns-clause-value c =
    ap (λ found. option_map seen found) c.get.ensures.value ∙ found-seen c.self.inside.names.entries c.args.name.now
    ∙ ap (λ (table : Table). bound_of table.rows c.args.name.now) c.self.view_is

pub returns-clause-form : goal.returns-clause-form
returns-clause-form c =
    subst (λ (table : Table). AreDistinct table.rows) c.self.view_is (subst (λ names. IsDistinct bytes_eq names) (sym (names-seen c.self.inside.names.entries)) c.self.invariant)
