use Rattle.std.proofs.Common.{◌≡◌}
use Rattle.central_registry.proofs.Journals.{AtEntry}
use Rattle.central_registry.proofs.registry.Registry.try_steps.Given as goal

abbrev pub invariant-loop-entry : goal.invariant-loop-entry
invariant-loop-entry l = record {
  setting : l.self.setting ≡ l.fn.self.setting;
  at : AtEntry l.fn.self.setting l.fn.self.state l.entries l.entry-index l.self.state;
}
