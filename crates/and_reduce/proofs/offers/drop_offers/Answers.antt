use Rattle.std.proofs.Common.{rules, not, ◌∙◌, ap, map, List}
use Rattle.std.proofs.lemmas.Fn.{filter_same}
use Rattle.mpi_base.specs.Keys.{same_key}
use Rattle.and_reduce.specs.declared.offers.OfferRow.{OfferRow}
use Rattle.and_reduce.specs.Rows.{offer_of}
use Rattle.and_reduce.proofs.RowFacts.{drop_offers-rows}
use Rattle.and_reduce.proofs.offers.drop_offers.Goals as goal

pub returns-clause-rows : goal.returns-clause-rows
returns-clause-rows g c top =
    ap (λ (rows : List (OfferRow g.row.W)). map (offer_of top) rows) (filter_same _ (λ o. not (same_key o.key c.args.key.now)) _ (λ x b f' h. search rules) _ _ c.retain.ensures.filtered)
    ∙ drop_offers-rows top c.args.offers.now.items c.args.key.now
