use Rattle.std.proofs.Common.{◌<◌, ◌≤◌, List, length, get_or, ap, refl, arith}
use Rattle.mpi_law.specs.Registry.State.{Creation, blank_creation}
use Rattle.mpi_law.specs.Registry.Creations.{is_joinable, place_where, with_caller}
use Rattle.central_creations.proofs.CreationFacts.{join_there, join_new}
use Rattle.central_creations.proofs.creations.Creations.join.Goals as goal

pub returns-then-place-len-clause-ok : goal.returns-then-place-len-clause-ok
returns-then-place-len-clause-ok c =
    let below : c.place_joinable-place.result < length c.args.self.now = omega (arith, c.if-place-len.true, c.len.ensures, c.self.inside.rows.ok, ap (λ (cs : List Creation). length cs) c.self.view_is) in
    let joined = join_there c.args.name c.args.group c.args.caller c.args.self.now c.place_joinable-place.result (get_or c.args.self.now c.place_joinable-place.result blank_creation)
    (with_caller (get_or c.args.self.now c.place_joinable-place.result blank_creation) c.args.caller) blank_creation c.place_joinable-place.ensures below refl refl in
    rw joined at c.call.ensures.ok

pub returns-else-place-len-clause-ok : goal.returns-else-place-len-clause-ok
returns-else-place-len-clause-ok c =
    let past : length c.args.self.now ≤ place_where (is_joinable c.args.name) c.args.self.now =
    omega (arith, c.if-place-len.false, c.len.ensures, c.place_joinable-place.ensures, c.self.inside.rows.ok, ap (λ (cs : List Creation). length cs) c.self.view_is) in
    rw (join_new c.args.name c.args.group c.args.caller c.args.self.now past) at c.open.ensures.ok
