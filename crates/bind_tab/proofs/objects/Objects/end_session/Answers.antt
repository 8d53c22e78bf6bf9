use Rattle.std.proofs.Common.{arith}
use Rattle.bind_tab.proofs.SerialFacts.{serials-closed}
use Rattle.bind_tab.proofs.objects.Objects.end_session.Goals as goal

pub returns-clause-local : goal.returns-clause-local
returns-clause-local c =
    grind (arith, c.self.view_is, serials-closed c.self.inside.sessions.live c.args.session, c.close_serial.ensures.live, c.close_serial.ensures.count, c.unbind_session.ensures.rows)
