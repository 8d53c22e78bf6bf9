use Rattle.std.proofs.Common.{sym, ◌∙◌, ◌==◌, ap}
use Rattle.mpi_law.specs.Registry.State.{Caller, blank_creation}
use Rattle.mpi_law.specs.Registry.Creations.{has_called}
use Rattle.std.proofs.Common.{subst, ◌≡◌, true, get_or}
use Rattle.central_registry.specs.Held.{TablesHeld}
use Rattle.std.specs.Option.{option_copied}
use Rattle.central_registry.proofs.Replying.{found}
use Rattle.central_registry.proofs.tables.Tables.bind_outcome.Goals as goal

pub returns-in_default : goal.returns-in_default
returns-in_default c =
    let called : has_called (get_or c.self.inside.creations c.args.place blank_creation) c.args.rank ≡ true = subst (λ (z : TablesHeld). has_called (get_or z.state.creations c.args.place blank_creation) c.args.rank ≡ true) (sym c.self.view_is) c.requires in
    absurd (found (λ (k : Caller). k.rank == c.args.rank) (get_or c.self.inside.creations c.args.place blank_creation).callers called (sym c.caller.ensures ∙ ap option_copied c.in_default.is))
