use Rattle.std.proofs.Common.{◌≡◌, length, subst, ap, ◌∙◌}
use Rattle.mpi_law.specs.declared.setting.TheConstants.{THREADS}
use Rattle.mpi_law.specs.Registry.State.{part_of}
use Rattle.mpi_law.specs.Registry.Creations.{is_open, same_name, name_of}
use Rattle.central_registry.specs.Held.{TablesHeld}
use Rattle.central_registry.proofs.Ranges.{open_here}
use Rattle.central_registry.proofs.open.SeatAround.is_busy.Goals as goal

pub returns : goal.returns
returns c =
    let g = c.args.self.now.tables.now.state in
    let r = c.args.self.now.rank in
    let n = c.name_of-name.result in
    let many : length (part_of g r).threads ≡ THREADS = subst (λ (z : TablesHeld). length (part_of z.state r).threads ≡ THREADS) c.tables.view_is (c.count.ensures.threads r) in
    let named : n ≡ name_of g.creations r c.args.origin.now = subst (λ (z : TablesHeld). n ≡ name_of z.state.creations r c.args.origin.now) c.tables.view_is c.name_of-name.ensures in
    c.is_open.ensures ∙ (open_here g r (λ x. same_name x.name n) many ∙ ap (is_open g r) named)
