use Rattle.std.proofs.Common.{sym, ◌∙◌}
use Rattle.stuck_report.proofs.PlaceFacts.{last_here, before_here, last_stays, before_stays}
use Rattle.stuck_report.proofs.last_place.Goals as goal
use Rattle.stuck_report.proofs.last_place.Goals.{then-is_of, else-is_of}

pub loop-place-preserved : goal.loop-place-preserved
loop-place-preserved c =
    let es = c.args.entries.now in
    let p = c.loop-place.place in
    let e = c.index-entries-place.result in
    let below = c.loop-place-test.true in
    let at = c.index-entries-place.is in
    let r = c.args.rank in
    let t = c.args.thread in
    elim c.if-is_of.branch [
      | then-is_of w ↦
          let here = sym c.is_of.ensures ∙ w.if-is_of.true in
          rw w.last-is (last_here es p e below at r t here, before_here es p e below at r t here)
      | else-is_of w ↦
          let other = sym c.is_of.ensures ∙ w.if-is_of.false in
          rw w.last-is (last_stays es p e below at r t c.loop-place.last other c.loop-place.invariant.0, before_stays es p e below at r t c.loop-place.last other c.loop-place.invariant.1)
    ]
