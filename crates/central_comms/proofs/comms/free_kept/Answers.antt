use Rattle.std.proofs.Common.{◌<◌, length, map, get_or, refl, sym, ap, ◌∙◌, arith}
use Rattle.std.proofs.lemmas.List.Sums.{fold_more}
use Rattle.central_comms.specs.Rows.{row_comm, freed_if_kept, with_freed_at}
use Rattle.central_comms.proofs.RowFacts.{changed_row, room_once_freed}
use Rattle.central_comms.proofs.comms.free_kept.Goals as goal

pub loop-place-preserved : goal.loop-place-preserved
loop-place-preserved c =
    let in' : c.loop-place.place-index < length c.args.places.now = c.loop-place-test.true in
    let within : get_or c.args.places.now c.loop-place.place-index 0 < length c.loop-place.rows = omega (arith, c.requires.within c.loop-place.place-index 0 in', c.loop-place.auto.rows) in
    record {
      done =
          changed_row c.loop-place.rows (get_or c.args.places.now c.loop-place.place-index 0) (get_or c.loop-place.rows (get_or c.args.places.now c.loop-place.place-index 0) c.index-rows-place.result) c.free_if_kept.new.self c.index-rows-place.result refl within (freed_if_kept c.args.rank c.args.session) c.free_if_kept.ensures
          ∙ ap (λ comms. with_freed_at c.args.rank c.args.session comms (get_or c.args.places.now c.loop-place.place-index 0)) c.loop-place.invariant.done
          ∙ sym (fold_more (with_freed_at c.args.rank c.args.session) (map row_comm c.args.rows.now) c.args.places.now c.loop-place.place-index 0 in');
      room = λ k d below.
          room_once_freed c.loop-place.rows (get_or c.args.places.now c.loop-place.place-index 0) (get_or c.loop-place.rows (get_or c.args.places.now c.loop-place.place-index 0) c.index-rows-place.result) c.free_if_kept.new.self c.index-rows-place.result refl within c.args.rank c.args.session c.free_if_kept.ensures
          (get_or c.args.places.now k d) (c.loop-place.invariant.room k d below);
    }
