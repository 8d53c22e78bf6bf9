use Rattle.std.proofs.Common.{[], ◌∙◌, map, ap, refl}
use Rattle.std.specs.Prelude.{option_copied}
use Rattle.std.proofs.lemmas.List.{take_all}
use Rattle.agree_law.specs.declared.rows.ShareRow.{ShareRow}
use Rattle.agree_law.specs.Part.{Offer}
use Rattle.and_reduce.specs.declared.offers.OfferRow.{OfferRow}
use Rattle.mpi_base.specs.declared.entries.Act.TheVariants.{Settle}
use Rattle.mpi_base.specs.declared.keys.Key.{Key}
use Rattle.rank_core.specs.Held.{Held}
use Rattle.rank_core.specs.declared.next.StepKind.TheVariants as kind
use Rattle.rank_core.proofs.NextFacts.{IsLeast-rows, settles-start}
use Rattle.rank_core.proofs.rank.RankState.least_settle.Goals as goal

pub loop-offer-preserved : goal.loop-offer-preserved
loop-offer-preserved g c =
    IsLeast-rows c.args.self.now.state kind.Settle (option_copied c.args.after) [] (λ (o : OfferRow g.row.W). Settle o.key) c.offers-offer-items.result.now c.loop-offer.offer-index c.offer-item.result
    c.loop-offer.least c.keep_least-least.result (Settle c.copy-key.result) refl (ap (λ (k : Key). Settle k) c.copy-key.ensures.same) c.loop-offer-test.true c.offer-item.is
    c.loop-offer.invariant c.keep_least-least.ensures

pub loop-share-init : goal.loop-share-init
loop-share-init g c =
    settles-start c.self.inside.agree.top c.args.self.now.state (option_copied c.args.after) c.offers-offer-items.result.now c.loop-offer.least
    (c.offers-offer-items.ensures ∙ ap (λ (h : Held). h.state.agree.gathered) c.self.view_is)
    (rw (take_all {A = OfferRow g.row.W} c.loop-offer.offer-index c.offers-offer-items.result.now c.loop-offer-test.false) at c.loop-offer.invariant)

pub loop-share-preserved : goal.loop-share-preserved
loop-share-preserved g c =
    IsLeast-rows c.args.self.now.state kind.Settle (option_copied c.args.after) (map (λ (o : Offer). Settle o.key) c.args.self.now.state.agree.gathered) (λ (s : ShareRow). Settle s.key)
    c.shares-share-items.result.now c.loop-share.share-index c.share-item.result c.loop-share.least c.keep_least-least-in-loop-share.result (Settle c.copy-key-in-loop-share.result) refl
    (ap (λ (k : Key). Settle k) c.copy-key-in-loop-share.ensures.same) c.loop-share-test.true c.share-item.is c.loop-share.invariant c.keep_least-least-in-loop-share.ensures
