use Rattle.std.proofs.Common.{◌≡◌, ◌==◌, ◌++◌, if◌then◌else◌, length, map, take, drop, refl, sym, subst, arith}
use Rattle.std.proofs.lemmas.Grind.{common_steps}
use Rattle.comm_law.specs.Comms.{freed}
use Rattle.comm_tab.specs.Tables.{IsOrderly}
use Rattle.comm_tab.proofs.TableFacts.{IsOrderly-changed}
use Rattle.comm_tab.proofs.comms.CommTab.free_session.Goals as goal

pub invariant_of-self : goal.invariant_of-self
invariant_of-self c =
    let rows : take c.self.inside.rows.len (c.free_rows.new.rows ++ drop (length c.free_rows.new.rows) c.self.inside.rows.items) ≡ map (λ m. if m.session == c.args.session then freed m else m) c.self.inside.rows.items =
    grind (arith, common_steps, c.free_rows.ensures, c.deref_mut.ensures) in
    subst (λ kept. IsOrderly (record { rows = kept; added = c.self.inside.added; noted = c.self.inside.markers.items })) (sym rows)
    (IsOrderly-changed (λ m. m.session == c.args.session) freed (λ m. refl) _ c.self.invariant)
