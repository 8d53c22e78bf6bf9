use Rattle.std.proofs.Common.{◌+◌, length, ap, sym, subst, ◌∙◌}
use Rattle.match_law.specs.Box.{kept_on, drop_ctx}
use Rattle.match_box.specs.Rows.{off}
use Rattle.match_box.specs.Boxes.{Held, items, box_of, AreBoxed}
use Rattle.match_box.proofs.BoxFacts.{dropped, kept_parts}
use Rattle.match_box.proofs.matches.MatchBox.drop_ctx.Goals as goal

pub invariant_of-self : goal.invariant_of-self
invariant_of-self c =
    subst (λ rows. AreBoxed c.self.inside.receives.rows rows) (sym c.drop_ctx.ensures.rows) (dropped c.self.inside.receives.rows c.self.inside.messages.rows c.args.ctx c.self.invariant).1

pub returns-clause-value : goal.returns-clause-value
returns-clause-value c =
    c.drop_ctx.ensures.count ∙ (dropped c.self.inside.receives.rows c.self.inside.messages.rows c.args.ctx c.self.invariant).2
    ∙ ap (λ (h : Held). kept_on h.lists c.args.ctx) c.self.view_is

pub returns-clause-lists : goal.returns-clause-lists
returns-clause-lists c =
    ap (λ rows. box_of c.self.inside.receives.rows rows) c.drop_ctx.ensures.rows
    ∙ sym (dropped c.self.inside.receives.rows c.self.inside.messages.rows c.args.ctx c.self.invariant).0
    ∙ ap (λ (h : Held). drop_ctx h.lists c.args.ctx) c.self.view_is

pub returns-clause-dropped : goal.returns-clause-dropped
returns-clause-dropped c =
    ap (λ rows. length (items rows) + c.drop_ctx.result) c.drop_ctx.ensures.rows ∙ ap (λ n. length (items (off c.args.ctx c.self.inside.messages.rows)) + n) c.drop_ctx.ensures.count
    ∙ kept_parts c.self.inside.messages.rows c.args.ctx ∙ ap (λ (h : Held). length h.lists.kept) c.self.view_is
