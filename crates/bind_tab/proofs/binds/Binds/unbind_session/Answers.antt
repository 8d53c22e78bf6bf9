use Rattle.std.proofs.Common.{rules, not, ap, ◌∙◌}
use Rattle.indexmap.proofs.CallerLemmas.{filter-RetainsPairs}
use Rattle.local_law.specs.Renaming.{renamed_rows}
use Rattle.bind_tab.specs.Rows.{Table, seen, is_of, unbind_session}
use Rattle.bind_tab.proofs.RowFacts.{kept-seen}
use Rattle.bind_tab.proofs.binds.Binds.unbind_session.Goals as goal

pub returns-clause-rows : goal.returns-clause-rows
returns-clause-rows c =
    ap (λ rows. renamed_rows seen rows) (filter-RetainsPairs _ (λ r. not (is_of c.args.session (seen r.1))) _ (λ k v b w g call. search rules) _ _ c.retain.ensures.filtered)
    ∙ kept-seen c.self.inside.names.entries (is_of c.args.session)
    ∙ ap (λ (table : Table). unbind_session table.rows c.args.session) c.self.view_is
