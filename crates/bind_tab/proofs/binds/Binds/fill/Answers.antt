use Rattle.std.proofs.Common.{◌≡◌, None, ap, sym, ◌∙◌, rules}
use Rattle.std.specs.Option.{option_map, option_copied_mut}
use Rattle.local_law.specs.Names.{bound_of, rebind}
use Rattle.local_law.specs.Renaming.{renamed_rows}
use Rattle.bind_tab.specs.Rows.{Table, seen}
use Rattle.bind_tab.proofs.RowFacts.{found-seen, rebind-absent, set_value-seen}
use Rattle.bind_tab.proofs.binds.Binds.fill.Goals as goal
use Rattle.bind_tab.proofs.binds.Binds.fill.Goals.{in-Some, in_default}

pub returns-clause-rows : goal.returns-clause-rows
returns-clause-rows c = elim c.match-get_mut.branch [
  | in-Some w ↦
      ap (λ b. renamed_rows seen b.names.entries) w.self-inside-is ∙ ap (λ rows. renamed_rows seen rows) (c.get_mut.follows.holds c.args.what).0
      ∙ set_value-seen c.self.inside.names.entries c.args.name.now c.args.what c.self.invariant
      ∙ ap (λ (table : Table). rebind table.rows c.args.name.now (seen c.args.what)) c.self.view_is
  | in_default w ↦
      let absent : bound_of (renamed_rows seen c.self.inside.names.entries) c.args.name.now ≡ None =
      sym (found-seen c.self.inside.names.entries c.args.name.now) ∙ ap (λ found. option_map seen found) (sym c.get_mut.ensures.value ∙ ap option_copied_mut w.in_default.is) in
      let same : c.get_mut.follows.lender-at-none.entries ≡ c.self.inside.names.entries = search rules in
      ap (λ b. renamed_rows seen b.names.entries) w.self-inside-is ∙ ap (λ rows. renamed_rows seen rows) same
      ∙ sym (rebind-absent (renamed_rows seen c.self.inside.names.entries) c.args.name.now (seen c.args.what) absent)
      ∙ ap (λ (table : Table). rebind table.rows c.args.name.now (seen c.args.what)) c.self.view_is
]
