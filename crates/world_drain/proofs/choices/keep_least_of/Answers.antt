use Rattle.std.proofs.Common.{sym, ◌∙◌, true≢false}
use Rattle.mpi_protocol.specs.World.{rank_at}
use Rattle.world_drain.specs.Searches.{IsDueOffer}
use Rattle.world_drain.proofs.Offers.{same_bool, other_bool, so_far_first, so_far_at, so_far_passed, so_far_taken}
use Rattle.world_drain.proofs.choices.keep_least_of.Goals as goal
use Rattle.world_drain.proofs.choices.keep_least_of.Goals.{then-may_offer+then-is_offered-offered, else-may_offer, else-may_offer-via-then-may_offer+else-is_offered-offered, else-may_offer-via-else-may_offer}

pub loop-row-init : goal.loop-row-init
loop-row-init g c = so_far_first c.args.world.now.world c.args.offered c.args.rank c.args.known c.requires.known

pub loop-row-preserved : goal.loop-row-preserved
loop-row-preserved g c =
    let at = so_far_at c.args.world.now.world c.args.offered c.args.rank c.loop-row.least c.opened-row-items.result.now (rank_at c.args.world.now.world c.args.rank).agree.opened c.loop-row.row-index c.row-item.result c.opened-row-items.ensures c.loop-row-test.true c.row-item.is c.loop-row.invariant in
    elim c.if-may_offer.branch [
      | then-may_offer+then-is_offered-offered w ↦
          (let due : IsDueOffer c.args.world.now.world c.args.offered c.args.rank c.row-item.result.key = record { enabled = sym c.may_offer.ensures ∙ w.if-may_offer.true; offered = sym w.is_offered.ensures ∙ same_bool _ _ w.if-is_offered-offered.true } in
          rw w.least-is (rw w.keep_least-least.ensures (so_far_taken c.args.world.now.world c.args.offered c.args.rank c.loop-row.least c.row-item.result _ at due)))
      | else-may_offer w ↦
          rw w.least-is (so_far_passed c.args.world.now.world c.args.offered c.args.rank c.loop-row.least c.row-item.result _ at
          (elim w.else-may_offer.branch [
            | else-may_offer-via-then-may_offer+else-is_offered-offered v ↦ λ d. other_bool _ _ v.if-is_offered-offered.false (v.is_offered.ensures ∙ d.offered)
            | else-may_offer-via-else-may_offer v ↦ λ d. true≢false (sym (c.may_offer.ensures ∙ d.enabled) ∙ v.if-may_offer.false)
          ]))
    ]
