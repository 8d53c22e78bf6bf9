use Rattle.entry_law.proofs.Runs.{run_fits}
use Rattle.entry_law.proofs.entries_are_well_formed.Goals as goal

pub returns : goal.returns
returns c = run_fits
