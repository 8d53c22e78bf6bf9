use Rattle.std.proofs.Common.{◌≡◌, ◌==◌, Some, false, position, arith}
use Rattle.std.specs.List.{list_any}
use Rattle.session_tab.specs.Slots.{holds}
use Rattle.session_tab.proofs.IdLists.{filter_none}
use Rattle.session_tab.proofs.SlotFacts.{slot_found, live_in-closed, any_serial-live}
use Rattle.session_tab.proofs.sessions.Sessions.close_serial.Goals as goal

pub remove-requires : goal.remove-requires
remove-requires c =
    let here = slot_found c.self.inside.serials.slots c.args.serial c.in-Some.slot (grind (arith, c.slot_of.ensures, c.in-Some.is)) in
    grind (arith, here)

pub returns-in-Some-clause-when : goal.returns-in-Some-clause-when
returns-in-Some-clause-when c =
    grind (arith, c.self.view_is, any_serial-live c.self.inside.serials.slots c.self.inside.count c.args.serial c.self.invariant, c.slot_of.ensures, c.in-Some.is)

pub returns-in-Some-clause-live : goal.returns-in-Some-clause-live
returns-in-Some-clause-live c =
    let at : position (holds c.args.serial) c.self.inside.serials.slots ≡ Some c.in-Some.slot = grind (arith, c.slot_of.ensures, c.in-Some.is) in
    rw (← c.self.view_is) (live_in-closed c.self.inside.serials c.remove.new.self c.self.inside.count c.in-Some.slot c.args.serial c.self.invariant at c.remove.ensures.updates)

pub returns-in-None-clause-when : goal.returns-in-None-clause-when
returns-in-None-clause-when c =
    grind (arith, c.self.view_is, any_serial-live c.self.inside.serials.slots c.self.inside.count c.args.serial c.self.invariant, c.slot_of.ensures, c.in-None.is)

pub returns-in-None-clause-live : goal.returns-in-None-clause-live
returns-in-None-clause-live c =
    let none : list_any (λ id. id.serial == c.args.serial) c.args.self.now.live ≡ false =
    grind (arith, c.self.view_is, any_serial-live c.self.inside.serials.slots c.self.inside.count c.args.serial c.self.invariant, c.slot_of.ensures, c.in-None.is) in
    filter_none c.args.self.now.live (λ id. id.serial == c.args.serial) none
