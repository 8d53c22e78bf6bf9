use Rattle.std.proofs.Common.{◌≡◌, ℕ, List, length, Option, sym, ap, ◌∙◌}
use Rattle.stuck_report.proofs.PlaceFacts.{noted_size, tells_none, tells_next}
use Rattle.stuck_report.proofs.Stuck.at_end.Goals as goal

pub loop-place-init : goal.loop-place-init
loop-place-init c = tells_none c.args.entries.now

pub loop-place-preserved : goal.loop-place-preserved
loop-place-preserved c =
    let size : length c.loop-place.places ≡ 128 = sym (noted_size c.loop-place.places c.loop-place.place c.index-entries-place.result) ∙ ap (λ (ps : List (Option ℕ)). length ps) (sym c.note.ensures) ∙ c.type_inv.places in
    rw c.note.ensures (tells_next c.args.entries.now c.loop-place.place c.index-entries-place.result c.loop-place-test.true c.index-entries-place.is c.loop-place.places size c.loop-place.invariant)
