use Rattle.std.proofs.Common.{◌+◌, ap, subst, sym, ◌∙◌, arith}
use Rattle.comm_law.specs.Comms.{has_serial}
use Rattle.comm_tab.specs.Tables.{Table, IsOrderly}
use Rattle.comm_tab.proofs.TableFacts.{IsOrderly-add, none_above}
use Rattle.comm_tab.proofs.comms.CommTab.add.Goals as goal

pub invariant_of-self : goal.invariant_of-self
invariant_of-self c =
    subst (λ rows. IsOrderly (record { rows = rows; added = c.self.inside.added + 1; noted = c.self.inside.markers.items })) (sym c.push_reserved.ensures.items)
    (IsOrderly-add _ c.args.ctx c.args.members c.args.session c.self.invariant)

pub returns-clause-fresh : goal.returns-clause-fresh
returns-clause-fresh c =
    sym (ap (λ (t : Table). has_serial t.comms (c.self.inside.added + 1)) c.self.view_is)
    ∙ none_above 0 c.self.inside.added c.self.inside.rows.items (c.self.inside.added + 1) c.self.invariant.given (omega arith)
