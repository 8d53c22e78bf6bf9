use Rattle.std.proofs.Common.{sym, ◌∙◌}
use Rattle.world_drain.proofs.Searched.{delivery_found}
use Rattle.world_drain.proofs.choices.first_delivery.Goals as goal

pub returns-then-enabled-clause-found : goal.returns-then-enabled-clause-found
returns-then-enabled-clause-found g c = delivery_found c.args.world.now.world c.loop-from.from c.loop-rank.rank c.loop-from.invariant c.loop-rank.invariant (sym c.enabled.ensures ∙ c.if-enabled.true)
