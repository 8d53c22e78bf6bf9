use Rattle.std.proofs.Common.{◌==◌, rules, arith}
use Rattle.std.proofs.lemmas.Bool.Decides.{nat_tests}
use Rattle.std.proofs.lemmas.Iterator.Consumers.{YieldsList-from_first}
use Rattle.std.proofs.lemmas.Iterator.Search.{find_from_yields_List}
use Rattle.slab.specs.Slab.{entries}
use Rattle.session_tab.proofs.SlotFacts.{entry_found}
use Rattle.session_tab.proofs.sessions.slot_of.Goals as goal

pub returns-in_err-slot : goal.returns-in_err-slot
returns-in_err-slot c =
    let found = find_from_yields_List (λ entry. entry.1 == c.args.serial) _ _ _ c.find.ensures.ran
    (YieldsList-from_first (λ item. (item.0, item.1.now)) (λ rest. rest) (entries c.args.serials.now) c.iter.ensures.rest) (λ x b q k. search (rules, nat_tests)) in
    grind (arith, found, entry_found c.args.serials.now.slots c.args.serial 0, c.in_err-slot.was, c.from_residual.ensures)

pub returns : goal.returns
returns c =
    let found = find_from_yields_List (λ entry. entry.1 == c.args.serial) _ _ _ c.find.ensures.ran
    (YieldsList-from_first (λ item. (item.0, item.1.now)) (λ rest. rest) (entries c.args.serials.now) c.iter.ensures.rest) (λ x b q k. search (rules, nat_tests)) in
    grind (arith, found, entry_found c.args.serials.now.slots c.args.serial 0, c.branch-slot.ensures, c.in_ok-slot.is, c.in_ok-slot.was, c.in_ok-slot.slot-is)
