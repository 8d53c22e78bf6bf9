use Rattle.std.proofs.Common.{◌*◌, ◌∙◌, sym}
use Rattle.std.proofs.lemmas.List.{take_all}
use Rattle.and_reduce.specs.declared.offers.OfferRow.{OfferRow}
use Rattle.and_reduce.proofs.RowFacts.{Joins-none, Joins-same, Joins-other}
use Rattle.and_reduce.proofs.offers.common.Goals as goal
use Rattle.and_reduce.proofs.offers.common.Goals.{then-is_same, else-is_same}

pub loop-row-init : goal.loop-row-init
loop-row-init g c = rw c.full-common.ensures.value (Joins-none c.args.top (64 * g.row.W) c.args.offers.now c.args.key.now c.requires.places.wide (rw c.full-common.ensures.value at c.full-common.ensures.zero))

pub loop-row-preserved : goal.loop-row-preserved
loop-row-preserved g c = elim c.if-is_same.branch [
  | then-is_same w ↦
      rw (w.common-is, w.and-common.ensures.value)
      (Joins-same c.args.top c.args.offers.now c.args.key.now c.loop-row.row-index c.row-item.result c.loop-row-test.true c.row-item.is c.loop-row.common c.loop-row.invariant
      (sym c.is_same.ensures ∙ w.if-is_same.true) (w.and-common.ensures.own_length ∙ sym w.and-common.ensures.other_length))
  | else-is_same w ↦
      rw w.common-is
      (Joins-other c.args.top c.args.offers.now c.args.key.now c.loop-row.row-index c.row-item.result c.loop-row-test.true c.row-item.is c.loop-row.common c.loop-row.invariant
      (sym c.is_same.ensures ∙ w.if-is_same.false))
]

pub returns : goal.returns
returns g c =
    let joins = rw (take_all {A = OfferRow g.row.W} c.loop-row.row-index c.args.offers.now c.loop-row-test.false) at c.loop-row.invariant in
    record { value = joins.value; low = joins.low; above = joins.above }
