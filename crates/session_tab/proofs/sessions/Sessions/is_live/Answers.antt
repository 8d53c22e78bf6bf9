use Rattle.std.proofs.Common.{arith}
use Rattle.session_tab.proofs.SlotFacts.{has_id-live}
use Rattle.session_tab.proofs.sessions.Sessions.is_live.Goals as goal

pub returns-in-Some : goal.returns-in-Some
returns-in-Some c =
    grind (arith, c.self.view_is, has_id-live c.self.inside.serials.slots c.self.inside.count c.args.id c.self.invariant, c.in-Some.ensures)

pub returns-in-None : goal.returns-in-None
returns-in-None c =
    grind (arith, c.self.view_is, has_id-live c.self.inside.serials.slots c.self.inside.count c.args.id c.self.invariant, c.in-None.ensures)
