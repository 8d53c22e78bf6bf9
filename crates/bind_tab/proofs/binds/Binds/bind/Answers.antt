use Rattle.std.proofs.Common.{◌≡◌, None, ap, bytes_eq, ◌∙◌, rules}
use Rattle.indexmap.specs.IndexMap.{get}
use Rattle.indexmap.proofs.CallerLemmas.{insert_entry-new}
use Rattle.local_law.specs.Names.{bound_of, bind}
use Rattle.local_law.specs.Renaming.{renamed_rows}
use Rattle.local_law.proofs.Renamed.{bind-renamed}
use Rattle.bind_tab.specs.Rows.{Table, seen}
use Rattle.bind_tab.proofs.RowFacts.{found-seen, absent-seen}
use Rattle.bind_tab.proofs.binds.Binds.bind.Goals as goal

pub returns-clause-rows : goal.returns-clause-rows
returns-clause-rows c =
    let absent : get bytes_eq c.self.inside.names c.args.name ≡ None =
    absent-seen _ (found-seen c.self.inside.names.entries c.args.name ∙ ap (λ (table : Table). bound_of table.rows c.args.name) c.self.view_is ∙ c.requires.free) in
    ap (λ rows. renamed_rows seen rows) (search rules ∙ insert_entry-new bytes_eq c.self.inside.names c.args.name c.args.what absent)
    ∙ bind-renamed seen c.self.inside.names.entries c.args.name c.args.what ∙ ap (λ (table : Table). bind table.rows c.args.name (seen c.args.what)) c.self.view_is
