use Rattle.std.proofs.Common.{◌≡◌, length, subst, ◌∙◌, ◌==◌}
use Rattle.mpi_law.specs.declared.setting.TheConstants.{THREADS}
use Rattle.mpi_law.specs.Registry.State.{part_of}
use Rattle.central_registry.specs.Held.{TablesHeld}
use Rattle.mpi_law.specs.Registry.Creations.{caller_of}
use Rattle.central_registry.proofs.Ranges.{open_here}
use Rattle.central_registry.proofs.open.SeatAround.is_engaged.Goals as goal

pub returns : goal.returns
returns c =
    let g = c.args.self.now.tables.now.state in
    let r = c.args.self.now.rank in
    c.has_open_of.ensures ∙ open_here g r (λ x. (caller_of x.callers r).session == c.args.session) (subst (λ (z : TablesHeld). length (part_of z.state r).threads ≡ THREADS) c.tables.view_is (c.count.ensures.threads r))
