use Rattle.std.proofs.Common.{◌∙◌, ap, List}
use Rattle.agree_law.specs.Gather.{has_offer}
use Rattle.and_reduce.specs.declared.offers.OfferRow.{OfferRow}
use Rattle.and_reduce.specs.Rows.{Gathered, has_row}
use Rattle.and_reduce.proofs.RowFacts.{has_offer-rows}
use Rattle.and_reduce.proofs.gathers.Gathers.has.Goals as goal

pub returns : goal.returns
returns g c =
    c.has_offer.ensures
    ∙ (ap (λ (rows : List (OfferRow g.row.W)). has_row rows c.args.key.now c.args.place) c.as_slice.ensures.value
    ∙ (has_offer-rows c.self.inside.contexts c.self.inside.offers.items c.args.key.now c.args.place
    ∙ ap (λ (h : Gathered). has_offer h.offers c.args.key.now c.args.place) c.self.view_is))
