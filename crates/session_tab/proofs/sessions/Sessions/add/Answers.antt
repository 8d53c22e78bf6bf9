use Rattle.session_tab.proofs.SlotFacts.{live_below, live_in-added}
use Rattle.session_tab.proofs.sessions.Sessions.add.Goals as goal

pub returns-clause-fresh : goal.returns-clause-fresh
returns-clause-fresh c = rw (← c.self.view_is) (live_below c.self.inside.serials.slots c.self.inside.count)

pub returns-clause-live : goal.returns-clause-live
returns-clause-live c =
    let added = c.insert_reserved-slot in
    rw (← c.self.view_is) (live_in-added c.self.inside.serials added.new.self c.self.inside.count added.result c.self.invariant added.ensures.was_vacant added.ensures.updates)
