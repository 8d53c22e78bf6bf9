use Rattle.std.proofs.Common.{◌≡◌, ℕ, ◌<◌, ◌≤◌, ◌∙◌, ap, Bool, length, get_or, not, arith}
use Rattle.std.specs.List.{filter}
use Rattle.std.proofs.lemmas.List.{take_all}
use Rattle.std.proofs.lemmas.Option.{slice_get-get_or}
use Rattle.mpi_group.proofs.MemberListFacts.{filtered_more, filtered_less}
use Rattle.stuck_report.specs.Missing.{has_called}
use Rattle.stuck_report.proofs.Stuck.not_calling.Goals as goal
use Rattle.stuck_report.proofs.Stuck.not_calling.Goals.{in-Some+then-not-has_called, in-Some+else-not-has_called, in_default}

pub returns : goal.returns
returns c =
    let members = c.args.members.now in
    let past : length members ≤ c.loop-place.place = omega (arith, c.loop-place-test.false, c.len-place-end.ensures.value) in
    c.loop-place.invariant ∙ ap (filter (λ r. not (has_called c.args.self.now c.args.op.now members r))) (take_all c.loop-place.place members past)

pub loop-place-preserved : goal.loop-place-preserved
loop-place-preserved c =
    let members = c.args.members.now in
    let i = c.loop-place.place in
    let below : i < length members = omega (arith, c.loop-place-test.true, c.len-place-end.ensures.value) in
    let read = slice_get-get_or members i 0 below in
    let lacks : ℕ → Bool = λ r. not (has_called c.args.self.now c.args.op.now members r) in
    elim c.match-get.branch [
      | in-Some+then-not-has_called w ↦
          let at : w.in-Some.rank ≡ get_or members i 0 = grind (arith, w.in-Some.ensures, read) in
          rw w.missing-is (filtered_more lacks members i w.in-Some.rank c.loop-place.missing w.push.result w.push.new.self c.len-place-end.ensures.form below at c.loop-place.invariant (grind (arith, w.has_called.ensures, w.if-not-has_called.true)) (w.push.ensures.when, w.push.ensures.after))
      | in-Some+else-not-has_called w ↦
          let at : w.in-Some.rank ≡ get_or members i 0 = grind (arith, w.in-Some.ensures, read) in
          rw w.missing-is (filtered_less lacks members i w.in-Some.rank c.loop-place.missing below at c.loop-place.invariant (grind (arith, w.has_called.ensures, w.if-not-has_called.false)))
      | in_default w ↦ absurd (cc (w.in_default.ensures, read))
    ]
