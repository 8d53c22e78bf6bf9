use Rattle.std.proofs.Common.{◌≡◌, ◌<◌, ◌∙◌, ap, map, length, List, arith}
use Rattle.agree_law.specs.Gather.{common_mask, least_common}
use Rattle.and_reduce.specs.declared.offers.OfferRow.{OfferRow}
use Rattle.and_reduce.specs.Rows.{Gathered, offer_of}
use Rattle.and_reduce.proofs.RowFacts.{least_common-is, least_common-within}
use Rattle.and_reduce.proofs.gathers.Gathers.least_common.Goals as goal

pub returns : goal.returns
returns g c =
    let top = c.self.inside.contexts in
    let key = c.args.key.now in
    let mask = c.common.ensures.value ∙ ap (λ (rows : List (OfferRow g.row.W)). common_mask c.self.inside.contexts (map (offer_of c.self.inside.contexts) rows) c.args.key.now) c.as_slice.ensures.value in
    let long : c.self.inside.contexts < length c.common.result = omega (arith, c.lowest.ensures.length, c.self.invariant.wide) in
    let value : c.lowest.result ≡ least_common c.args.self.now.top c.args.self.now.offers c.args.key.now =
    c.lowest.ensures.value
    ∙ (least_common-is top (map (offer_of top) c.self.inside.offers.items) key c.common.result mask c.common.ensures.low c.common.ensures.above long
    ∙ ap (λ (h : Gathered). least_common h.top h.offers c.args.key.now) c.self.view_is) in
    record { value = value; pick = least_common-within _ _ _ _ value }
