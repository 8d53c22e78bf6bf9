use Rattle.std.proofs.Common.{ap, ◌∙◌}
use Rattle.std.specs.Option.{option_map}
use Rattle.local_law.specs.Names.{bound_of, unbind}
use Rattle.local_law.specs.Renaming.{renamed_rows}
use Rattle.bind_tab.specs.Rows.{Table, seen}
use Rattle.bind_tab.proofs.RowFacts.{found-seen, removed-seen}
use Rattle.bind_tab.proofs.binds.Binds.unbind.Goals as goal

pub returns-clause-value : goal.returns-clause-value
returns-clause-value c =
    ap (λ found. option_map seen found) c.shift_remove.ensures.value ∙ found-seen c.self.inside.names.entries c.args.name.now
    ∙ ap (λ (table : Table). bound_of table.rows c.args.name.now) c.self.view_is

pub returns-clause-rows : goal.returns-clause-rows
returns-clause-rows c =
    ap (λ rows. renamed_rows seen rows) c.shift_remove.ensures.entries ∙ removed-seen c.self.inside.names.entries c.args.name.now c.self.invariant
    ∙ ap (λ (table : Table). unbind table.rows c.args.name.now) c.self.view_is
