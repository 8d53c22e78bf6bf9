use Rattle.std.proofs.Common.{rules, ap, sym, ◌∙◌}
use Rattle.mpi_protocol.specs.Order.{offered_anywhere}
use Rattle.world_core.specs.Held.{Held}
use Rattle.world_core.proofs.Offered.{offered_here, offered_nowhere}
use Rattle.world_core.proofs.world.World.is_offered.Goals as goal

pub returns-then-is_offered : goal.returns-then-is_offered
returns-then-is_offered g c =
    sym (offered_here c.self.inside.ranks.items c.args.key.now c.loop-state.state-index c.state-item.result (search rules) (search rules) (search rules))
    ∙ ap (λ (h : Held). offered_anywhere h.world c.args.key.now) c.self.view_is

pub returns : goal.returns
returns g c =
    sym (offered_nowhere c.self.inside.ranks.items c.args.key.now c.loop-state.state-index (search rules) (search rules))
    ∙ ap (λ (h : Held). offered_anywhere h.world c.args.key.now) c.self.view_is
