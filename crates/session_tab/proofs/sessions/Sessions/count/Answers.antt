use Rattle.session_tab.proofs.SlotFacts.{live_given}
use Rattle.session_tab.proofs.sessions.Sessions.count.Goals as goal

pub returns-clause-form : goal.returns-clause-form
returns-clause-form c = rw (← c.self.view_is) (live_given c.self.inside.serials.slots c.self.inside.count)
