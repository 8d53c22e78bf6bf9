use Rattle.std.proofs.Common.{sym, ap}
use Rattle.std.specs.List.{list_all, range_with_len}
use Rattle.mpi_law.specs.Registry.Tests.{can_pick, is_taken}
use Rattle.central_registry.specs.Held.{TablesHeld}
use Rattle.central_registry.proofs.PickTests.{decided, none_free, not_exhausted, first_fails, second_fails}
use Rattle.central_registry.proofs.tables.Tables.exhaust.Goals as goal
use Rattle.central_registry.proofs.tables.Tables.exhaust.Goals.{then-not-can_pick-via-then-not-can_pick, then-not-can_pick-via-else-not-can_pick+then-not-are_all_taken}

pub returns-then-not-can_pick-clause-ok : goal.returns-then-not-can_pick-clause-ok
returns-then-not-can_pick-clause-ok c =
    let can = can_pick c.args.self.now.state c.args.rank c.args.key.now in
    let all = list_all (is_taken c.args.self.now.state c.args.key.now) (range_with_len 1 c.args.setting.now.contexts) in
    not_exhausted c.args.setting.now c.args.self.now.state c.args.rank c.args.key.now c.requires (elim c.then-not-can_pick.branch [
      | then-not-can_pick-via-then-not-can_pick w ↦ first_fails can all (sym (w.if-not-can_pick.ensures c.in_ok-place.ensures))
      | then-not-can_pick-via-else-not-can_pick+then-not-are_all_taken w ↦ second_fails can all (sym w.if-not-are_all_taken.ensures)
    ])

pub returns-clause-ok : goal.returns-clause-ok
returns-clause-ok c =
    none_free c.args.setting.now c.args.self.now.state c.args.rank c.args.key.now c.requires _
    (sym (c.if-not-can_pick.ensures c.in_ok-place.ensures)) (sym c.if-not-are_all_taken.ensures)
    (decided c.args.self.now.state c.args.key.now c.in_ok-place.place _ c.copy.result c.decide.new.self (ap (λ (t : TablesHeld). t.state) c.self.view_is) c.copy.ensures.same c.in_ok-decide.ensures.ok c.args.rank c.in_ok-place.ensures)
