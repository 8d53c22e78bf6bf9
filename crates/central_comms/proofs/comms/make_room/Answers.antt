use Rattle.std.proofs.Common.{◌≡◌, ◌<◌, ◌≤◌, length, map, get_or, set, inl, inr, refl, sym, ap, subst, ◌∙◌, arith}
use Rattle.std.proofs.lemmas.Bool.{cases_lt}
use Rattle.std.proofs.lemmas.List.{get_or_default}
use Rattle.central_comms.specs.Rows.{row_room}
use Rattle.central_comms.proofs.RowFacts.{same_row, more_room, room_made}
use Rattle.central_comms.proofs.comms.make_room.Goals as goal

pub returns-in_err-make_room-clause-same : goal.returns-in_err-make_room-clause-same
returns-in_err-make_room-clause-same c =
    same_row c.loop-place.rows (get_or c.args.places.now c.loop-place.place-index 0) (get_or c.loop-place.rows (get_or c.args.places.now c.loop-place.place-index 0) c.index-rows-place.result) c.make_room.new.self c.index-rows-place.result refl c.make_room.ensures.same ∙ c.loop-place.invariant.same

pub loop-place-preserved : goal.loop-place-preserved
loop-place-preserved c = record {
  same = same_row c.loop-place.rows (get_or c.args.places.now c.loop-place.place-index 0) (get_or c.loop-place.rows (get_or c.args.places.now c.loop-place.place-index 0) c.index-rows-place.result) c.make_room.new.self c.index-rows-place.result refl c.make_room.ensures.same ∙ c.loop-place.invariant.same;
  made = λ k d below.
      let in' : c.loop-place.place-index < length c.args.places.now = c.loop-place-test.true in
      let within : get_or c.args.places.now c.loop-place.place-index 0 < length c.loop-place.rows = omega (arith, c.requires c.loop-place.place-index 0 in', c.loop-place.auto.rows) in
      elim (cases_lt k c.loop-place.place-index) [
        | inl earlier ↦
            let was = c.loop-place.invariant.made k d earlier in
            let more = more_room c.loop-place.rows (get_or c.args.places.now c.loop-place.place-index 0) (get_or c.loop-place.rows (get_or c.args.places.now c.loop-place.place-index 0) c.index-rows-place.result) c.make_room.new.self c.index-rows-place.result refl within c.make_room.ensures.room (get_or c.args.places.now k d) in
            omega (arith, was, more)
        | inr late ↦
            let here : k ≡ c.loop-place.place-index = omega (arith, below, late) in
            let same : get_or c.args.places.now k d ≡ get_or c.args.places.now c.loop-place.place-index 0 =
            ap (λ i. get_or c.args.places.now i d) here ∙ get_or_default c.args.places.now c.loop-place.place-index d 0 in' in
            subst (λ q. 1 ≤ get_or (map row_room (set c.loop-place.rows (get_or c.args.places.now c.loop-place.place-index 0) c.make_room.new.self)) q 0) (sym same)
            (room_made c.loop-place.rows (get_or c.args.places.now c.loop-place.place-index 0) (get_or c.loop-place.rows (get_or c.args.places.now c.loop-place.place-index 0) c.index-rows-place.result) c.make_room.new.self c.index-rows-place.result refl within c.in_ok-make_room.ensures.ok)
      ];
}
