use Rattle.std.proofs.Common.{◌≡◌, true, ap, ◌∙◌, arith}
use Rattle.session_tab.specs.Ids.{has_id}
use Rattle.session_tab.proofs.IdLists.{filter_absent}
use Rattle.session_tab.proofs.SlotFacts.{has_id-found, live_in-removed}
use Rattle.session_tab.proofs.sessions.Sessions.close.Goals as goal

pub returns-then-not-is_live-clause-live : goal.returns-then-not-is_live-clause-live
returns-then-not-is_live-clause-live c = filter_absent c.args.self.now.live c.args.id (grind (arith, c.is_live.ensures, c.if-not-is_live.true))

pub remove-requires : goal.remove-requires
remove-requires c =
    let live : has_id c.args.self.now.live c.args.id ≡ true = grind (arith, c.is_live.ensures, c.if-not-is_live.false) in
    let found = has_id-found c.self.inside.serials.slots c.self.inside.count c.args.id c.self.invariant (ap (λ table. has_id table.live c.args.id) c.self.view_is ∙ live) in
    grind (arith, found)

pub returns-clause-live : goal.returns-clause-live
returns-clause-live c =
    let live : has_id c.args.self.now.live c.args.id ≡ true = grind (arith, c.is_live.ensures, c.if-not-is_live.false) in
    let found = has_id-found c.self.inside.serials.slots c.self.inside.count c.args.id c.self.invariant (ap (λ table. has_id table.live c.args.id) c.self.view_is ∙ live) in
    rw (← c.self.view_is) (live_in-removed c.self.inside.serials c.remove.new.self c.self.inside.count c.args.id c.self.invariant found c.remove.ensures.updates)
