use Rattle.std.proofs.Common.{◌≡◌, true, take}
use Rattle.std.specs.List.{list_all}
use Rattle.comm_law.specs.Comms.{is_marked_by}
use Rattle.comm_tab.proofs.comms.CommTab.are_marked.Given as goal

abbrev pub invariant-loop-place : goal.invariant-loop-place
invariant-loop-place l = list_all (is_marked_by l.self.comms l.self.rank l.ctx) (take l.place l.members) ≡ true
