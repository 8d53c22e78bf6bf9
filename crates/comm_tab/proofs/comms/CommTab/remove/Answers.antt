use Rattle.std.proofs.Common.{◌≡◌, ◌==◌, not, filter, sym, subst, ap, ◌∙◌, rules}
use Rattle.std.proofs.lemmas.Fn.{filter_same}
use Rattle.comm_law.specs.Comms.{remove}
use Rattle.comm_tab.specs.Tables.{Table, IsOrderly}
use Rattle.comm_tab.proofs.TableFacts.{IsOrderly-filter}
use Rattle.comm_tab.proofs.comms.CommTab.remove.Goals as goal

pub invariant_of-self : goal.invariant_of-self
invariant_of-self c =
    let rows : c.retain.new.self.items ≡ filter (λ m. not (m.ctx == c.args.ctx)) c.self.inside.rows.items =
    filter_same _ (λ m. not (m.ctx == c.args.ctx)) _ (λ x b g call. search rules) c.self.inside.rows.items c.retain.new.self.items c.retain.ensures.filtered in
    subst (λ kept. IsOrderly (record { rows = kept; added = c.self.inside.added; noted = c.retain-2.new.self.items })) (sym rows)
    (IsOrderly-filter (λ m. not (m.ctx == c.args.ctx)) _ c.retain-2.new.self.items c.self.invariant)

pub returns-clause-comms : goal.returns-clause-comms
returns-clause-comms c =
    let rows : c.retain.new.self.items ≡ filter (λ m. not (m.ctx == c.args.ctx)) c.self.inside.rows.items =
    filter_same _ (λ m. not (m.ctx == c.args.ctx)) _ (λ x b g call. search rules) c.self.inside.rows.items c.retain.new.self.items c.retain.ensures.filtered in
    let noted : c.retain-2.new.self.items ≡ filter (λ k. not (k.ctx == c.args.ctx)) c.self.inside.markers.items =
    filter_same _ (λ k. not (k.ctx == c.args.ctx)) _ (λ x b g call. search rules) c.self.inside.markers.items c.retain-2.new.self.items c.retain-2.ensures.filtered in
    ap (λ kept. record { rows = kept; added = c.self.inside.added; noted = c.retain-2.new.self.items }) rows
    ∙ ap (λ kept. record { rows = filter (λ m. not (m.ctx == c.args.ctx)) c.self.inside.rows.items; added = c.self.inside.added; noted = kept }) noted
    ∙ ap (λ (t : Table). remove t.comms c.args.ctx) c.self.view_is
