use Rattle.std.proofs.Common.{sym, arith}
use Rattle.comm_law.specs.Comms.{is_marked_by}
use Rattle.comm_tab.proofs.TableFacts.{one_fails, one_more_passes, none_below}
use Rattle.comm_tab.proofs.comms.CommTab.are_marked.Goals as goal
use Rattle.comm_tab.proofs.comms.CommTab.are_marked.Goals.{in-Some+else-not-is_marked, in_default}

pub returns-then-not-is_marked : goal.returns-then-not-is_marked
returns-then-not-is_marked c =
    sym (one_fails (is_marked_by c.args.self.now.comms c.args.self.now.rank c.args.ctx) c.args.members.now c.loop-place.place c.in-Some.member c.in-Some.ensures (sym c.if-not-is_marked.ensures))

pub loop-place-preserved : goal.loop-place-preserved
loop-place-preserved c = elim c.match-get.branch [
  | in-Some+else-not-is_marked w ↦
      one_more_passes (is_marked_by c.args.self.now.comms c.args.self.now.rank c.args.ctx) c.args.members.now c.loop-place.place w.in-Some.member w.in-Some.ensures (sym w.if-not-is_marked.ensures) c.loop-place.invariant
  | in_default w ↦ absurd (omega (arith, none_below c.args.members.now c.loop-place.place w.in_default.ensures, c.loop-place-test.true, c.len-place-end.ensures.value))
]
