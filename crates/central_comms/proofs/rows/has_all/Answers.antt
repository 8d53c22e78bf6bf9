use Rattle.std.proofs.Common.{sym, arith}
use Rattle.mpi_base.specs.MemberLists.{has_rank}
use Rattle.central_comms.proofs.CommFacts.{one_fails, one_more_passes, none_below}
use Rattle.central_comms.proofs.rows.has_all.Goals as goal
use Rattle.central_comms.proofs.rows.has_all.Goals.{in-Some+else-not-has, in_default}

pub returns-then-not-has : goal.returns-then-not-has
returns-then-not-has c = sym (one_fails (has_rank c.args.ranks.now) c.args.members.now c.loop-place.place c.in-Some.member c.in-Some.ensures (sym c.if-not-has.ensures))

pub loop-place-preserved : goal.loop-place-preserved
loop-place-preserved c = elim c.match-get.branch [
  | in-Some+else-not-has w ↦
      one_more_passes (has_rank c.args.ranks.now) c.args.members.now c.loop-place.place w.in-Some.member w.in-Some.ensures (sym w.if-not-has.ensures) c.loop-place.invariant
  | in_default w ↦ absurd (omega (arith, none_below c.args.members.now c.loop-place.place w.in_default.ensures, c.loop-place-test.true, c.len-place-end.ensures.value))
]
