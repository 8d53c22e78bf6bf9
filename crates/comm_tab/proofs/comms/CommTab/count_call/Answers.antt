use Rattle.std.proofs.Common.{◌≡◌, ◌==◌, ◌++◌, if◌then◌else◌, length, map, take, drop, refl, sym, subst, arith}
use Rattle.std.proofs.lemmas.Grind.{common_steps}
use Rattle.comm_law.specs.Comms.{one_call_more}
use Rattle.comm_tab.specs.Tables.{IsOrderly}
use Rattle.comm_tab.proofs.TableFacts.{IsOrderly-changed}
use Rattle.comm_tab.proofs.comms.CommTab.count_call.Goals as goal

pub invariant_of-self : goal.invariant_of-self
invariant_of-self c =
    let rows : take c.self.inside.rows.len (c.count_calls.new.rows ++ drop (length c.count_calls.new.rows) c.self.inside.rows.items) ≡ map (λ m. if m.ctx == c.args.ctx then one_call_more m else m) c.self.inside.rows.items =
    grind (arith, common_steps, c.count_calls.ensures, c.deref_mut.ensures) in
    subst (λ kept. IsOrderly (record { rows = kept; added = c.self.inside.added; noted = c.self.inside.markers.items })) (sym rows)
    (IsOrderly-changed (λ m. m.ctx == c.args.ctx) one_call_more (λ m. refl) _ c.self.invariant)
