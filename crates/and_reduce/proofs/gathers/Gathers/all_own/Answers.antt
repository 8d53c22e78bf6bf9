use Rattle.std.proofs.Common.{◌∙◌, ap}
use Rattle.agree_law.specs.Gather.{all_own}
use Rattle.and_reduce.specs.Rows.{Gathered}
use Rattle.and_reduce.proofs.RowFacts.{all_own-rows}
use Rattle.and_reduce.proofs.gathers.Gathers.all_own.Goals as goal

pub returns : goal.returns
returns g c =
    (rw c.as_slice.ensures.value at c.all_own.ensures)
    ∙ (all_own-rows c.self.inside.contexts c.self.inside.offers.items c.args.key.now ∙ ap (λ (h : Gathered). all_own h.offers c.args.key.now) c.self.view_is)
