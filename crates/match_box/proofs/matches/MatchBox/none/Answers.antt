use Rattle.std.proofs.Common.{[], ap, sym, subst, ◌∙◌}
use Rattle.match_box.specs.Boxes.{items, box_of, AreBoxed}
use Rattle.match_box.proofs.matches.MatchBox.none.Goals as goal

pub invariant_of-result : goal.invariant_of-result
unfolding items
invariant_of-result c =
    subst (λ rows. AreBoxed rows c.none-2.result.rows) (sym c.none.ensures.rows)
    (subst (λ rows. AreBoxed [] rows) (sym c.none-2.ensures.rows) (record { of_receives = _; of_messages = _; apart = _ }))

pub returns-clause-lists : goal.returns-clause-lists
unfolding items
returns-clause-lists c = ap (λ rows. box_of rows c.none-2.result.rows) c.none.ensures.rows ∙ ap (λ rows. box_of [] rows) c.none-2.ensures.rows
