use Rattle.std.proofs.Common.{◌∙◌, ap}
use Rattle.mpi_law.specs.Registry.State.{Registry}
use Rattle.mpi_law.specs.Closed.{is_matched_out}
use Rattle.central_registry.specs.Held.{TablesHeld}
use Rattle.central_registry.proofs.Closing.{matched_out}
use Rattle.central_registry.proofs.tables.Tables.is_matched_out.Goals as goal

pub returns : goal.returns
returns c =
    let g : Registry = record { comms = c.self.inside.comms; creations = c.self.inside.creations; receives = c.self.inside.mail.receives; messages = c.self.inside.mail.messages; ranks = c.self.inside.ranks.parts } in
    c.is_matched_out.ensures ∙ (matched_out g ∙ ap (λ (z : TablesHeld). is_matched_out z.state) c.self.view_is)
