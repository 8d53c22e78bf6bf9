use Rattle.std.proofs.Common.{arith, refl}
use Rattle.rank_core.proofs.CommFacts.{rank-left}
use Rattle.rank_core.proofs.LeaveFacts.{makes-leave}
use Rattle.rank_core.proofs.rank.RankState.leave.Goals as goal

pub invariant_of-self : goal.invariant_of-self
invariant_of-self g c = rank-left _ _ c.leave.ensures.rank c.self.invariant c.args.ctx c.leave.ensures.comms

pub returns : goal.returns
returns g c =
    makes-leave _ _ _ c.args.ctx c.rank.result c.members-members.result c.leave.new.self.comms c.entry.result _ _ c.send_markers.new.out.items _ c.self.view_is c.out.view_is c.requires.ready
    c.members-members.ensures c.rank.ensures c.send_markers.ensures.sent c.send_markers.ensures.few c.leave.ensures.comms (rw c.nothing.ensures at c.entry.ensures) refl refl (omega (arith, c.leave.ensures.spare))
