use Rattle.central_registry.proofs.Reached.{ends_well}
use Rattle.central_registry.proofs.registry.Registry.try_step.Goals as goal

pub invariant_of-self : goal.invariant_of-self
invariant_of-self c =
    ends_well c.self.inside.setting c.self.inside.tables.state c.args.entry.now c.step.new.self.state c.step.result c.step.ensures.ok c.step.ensures.err c.self.invariant
